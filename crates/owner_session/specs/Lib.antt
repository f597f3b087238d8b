pub mod Endings
pub mod Faults
pub mod SessionWork
pub mod Stopping
pub mod Runs
pub mod Sessions
pub mod Requests
pub mod Orders
