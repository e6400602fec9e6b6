pub mod Alike
pub mod Behind
pub mod Changing
pub mod Positions
pub mod SameTexts
