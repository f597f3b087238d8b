pub mod KeyParts
pub mod Kept
pub mod Lower
pub mod Paths
