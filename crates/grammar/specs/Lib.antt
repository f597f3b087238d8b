pub mod Language
pub mod Rule
pub mod Text
pub mod Reading
pub mod Checks
pub mod Example
