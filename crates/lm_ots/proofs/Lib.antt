pub mod Chaining
pub mod Checking
pub mod Pieces
pub mod Forms
pub mod Valid
pub mod Writing
