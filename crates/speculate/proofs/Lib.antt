pub mod Apart
mod BoardEnds
pub mod Calling
pub mod Choosing
pub mod Clear
pub mod ComingOn
pub mod Determined
pub mod Drives
pub mod Finishes
pub mod Flags
pub mod Led
pub mod Marking
pub mod Phases
pub mod Plays
pub mod Readying
pub mod Trees
