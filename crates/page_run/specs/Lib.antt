pub mod Made
pub mod Run
pub mod Sources
pub mod Stops
