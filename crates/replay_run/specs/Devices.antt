-- For proofs alone: how things are stored. No promise needs it.
pub mod Spans
