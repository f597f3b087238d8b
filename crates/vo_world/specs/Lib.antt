pub mod WorldModel
pub mod Steps
pub mod Runs
pub mod Keeping
pub mod Viewing
pub mod Soundness
