pub mod Board
pub mod Reached
pub mod Steps
pub mod Choice
