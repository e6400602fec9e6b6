pub mod Devices
pub mod Differences
pub mod Rows
pub mod Same
