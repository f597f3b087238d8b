pub mod Utf8
pub mod Readers
pub mod ValueLaws
pub mod Rounds
pub mod Writings
