pub mod RisingColumns
pub mod StreamedLaws
pub mod CheckingLaws
pub mod HeldLaws
