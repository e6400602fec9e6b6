pub mod OneRun
