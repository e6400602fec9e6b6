pub mod Report
pub mod LastRecords
pub mod Listings
pub mod Tellings
pub mod Tables
pub mod Stretches
pub mod Ends
