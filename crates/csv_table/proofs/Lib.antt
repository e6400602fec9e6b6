pub mod Columns
pub mod Records
pub mod Steps
pub mod Written
