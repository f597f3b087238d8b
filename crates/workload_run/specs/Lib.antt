pub mod Parties
pub mod Readers
pub mod Running
