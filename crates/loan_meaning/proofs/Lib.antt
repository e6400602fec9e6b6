pub mod Owing
pub mod Sums
pub mod Turning
pub mod Walking
