pub mod Layouts
pub mod Ends
pub mod Lines
pub mod Numbers
pub mod Rising
pub mod Stretches
