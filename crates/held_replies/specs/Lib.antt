pub mod Accepting
pub mod Judging
pub mod Ordering
pub mod Reading
pub mod Testing
