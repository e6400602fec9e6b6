pub mod Devices
pub mod Escapes
pub mod Fitting
pub mod Odd
pub mod Pairs
pub mod Rows
