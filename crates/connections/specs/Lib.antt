pub mod Lines
pub mod Requesting
pub mod Fetching
pub mod Serving
