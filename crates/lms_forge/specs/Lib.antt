pub mod Chains
pub mod Comparing
pub mod Explaining
pub mod Forgeries
pub mod Lowering
pub mod Parts
pub mod Places
pub mod ChainValues
