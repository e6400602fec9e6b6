pub mod Reach
pub mod Rows
pub mod Text
pub mod Unread
