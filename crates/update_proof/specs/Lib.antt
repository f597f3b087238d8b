pub mod Changes
pub mod OpenParts
pub mod Proving
