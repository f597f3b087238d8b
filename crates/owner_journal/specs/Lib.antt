pub mod Slots
pub mod Resting
pub mod Entries
pub mod Taking
