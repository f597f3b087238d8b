pub mod EntryViews
pub mod RowViews
pub mod Running
