mod Answered
mod Ended
pub mod FinalTables
mod Fitting
mod Outputs
mod Replayed
mod Spans
mod Stepping
