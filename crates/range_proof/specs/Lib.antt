pub mod Finding
pub mod Lending
pub mod Judging
pub mod ActiveNeeds
pub mod Searching
