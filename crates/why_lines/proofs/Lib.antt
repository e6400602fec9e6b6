mod Adding
mod Giving
mod Knowing
mod Reading
mod Replaying
mod Running
pub mod Noting
