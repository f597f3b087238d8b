pub mod Answering
pub mod Asking
pub mod Owning
pub mod Reopening
pub mod Serving
pub mod Accepting
pub mod Crashes
