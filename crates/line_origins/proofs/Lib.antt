pub mod Answered
pub mod Found
pub mod Going
pub mod Listed
pub mod Marking
pub mod Passing
pub mod Seeing
