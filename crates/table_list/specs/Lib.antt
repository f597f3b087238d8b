pub mod TableHeaders
pub mod Changes
pub mod BatchResults
