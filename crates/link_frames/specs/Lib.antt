pub mod Frames
pub mod Reading
pub mod Scripts
pub mod Serving
