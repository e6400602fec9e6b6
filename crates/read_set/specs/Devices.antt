-- For proofs alone: how things are stored or counted. No promise needs it.
pub mod Drafts
pub mod Ended
pub mod Found
pub mod Positions
