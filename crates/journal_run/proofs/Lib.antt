pub mod Causes
pub mod Ends
pub mod Fronts
pub mod Shown
pub mod Steps
pub mod Taking
pub mod UnderWay
