mod Joined
mod TellingLines
mod Parts
mod Further
pub mod Collected
pub mod Once
