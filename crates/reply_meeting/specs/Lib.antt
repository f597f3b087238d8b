pub mod Accepting
pub mod Comparing
pub mod Meetings
pub mod Views
