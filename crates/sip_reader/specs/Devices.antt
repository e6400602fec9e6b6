-- For proofs alone: how things are stored or counted. No promise needs it.
pub mod Bars
pub mod Hashes
pub mod Held
pub mod Padding
