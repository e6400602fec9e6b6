-- Devices of proofs: how things are stored or counted. No promise is here.
pub mod Sums
