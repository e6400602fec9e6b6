pub mod Devices
pub mod Entries
pub mod Index
pub mod Indexed
