pub mod Operations
pub mod Limits
