pub mod Cases
pub mod Changes
pub mod Devices
pub mod InRun
pub mod Refers
