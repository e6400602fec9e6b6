pub mod Checked
pub mod Looks
pub mod Steps
