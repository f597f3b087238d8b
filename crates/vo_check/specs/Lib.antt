pub mod Streamed
pub mod Checkings
pub mod Streaming
