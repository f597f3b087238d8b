pub mod Forms
pub mod Next
pub mod Working
pub mod Seen
pub mod Owners
