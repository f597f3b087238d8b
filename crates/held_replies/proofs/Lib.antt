pub mod CellLaws
pub mod LeafLaws
pub mod ReplyTests
pub mod AcceptedRecords
pub mod Unread
