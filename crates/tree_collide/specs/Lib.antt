pub mod Agreements
pub mod Alike
pub mod Preimages
