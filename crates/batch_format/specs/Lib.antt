pub mod BatchReading
pub mod Writing
pub mod TreeReading
