pub mod Journals
mod Keys
mod Places
mod Spelling
mod Sums
