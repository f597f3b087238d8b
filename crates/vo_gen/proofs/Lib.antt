pub mod Standing
pub mod Sizes
pub mod Rows
pub mod Accepted
