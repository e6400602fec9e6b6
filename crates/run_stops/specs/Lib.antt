pub mod Seeing
pub mod Statuses
pub mod Stops
pub mod Telling
