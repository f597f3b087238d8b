pub mod Reading
pub mod Taking
pub mod Fields
pub mod Writing
