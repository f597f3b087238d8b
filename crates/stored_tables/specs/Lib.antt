pub mod Codes
pub mod View
pub mod Representation
pub mod Positions
pub mod Ready
pub mod Working
pub mod Plain
