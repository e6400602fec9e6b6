pub mod Events
pub mod Files
pub mod Places
pub mod Reading
pub mod Reasons
