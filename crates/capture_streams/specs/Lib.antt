pub mod Pieces
pub mod Streams
