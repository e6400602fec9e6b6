pub mod Counts
pub mod Found
pub mod Making
pub mod Printing
pub mod Run
pub mod Stops
pub mod Sums
