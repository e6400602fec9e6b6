-- For proofs alone: how things are stored or counted. No promise needs it.
pub mod Places
