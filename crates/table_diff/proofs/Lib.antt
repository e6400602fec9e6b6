pub mod Counts
pub mod Each
pub mod Keys
pub mod Same
pub mod Written
