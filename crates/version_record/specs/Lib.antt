pub mod Hashing
pub mod Reading
