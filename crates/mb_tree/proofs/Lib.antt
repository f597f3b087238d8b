pub mod PartLaws
pub mod SubtreeLaws
pub mod RowLaws
pub mod NodeLaws
pub mod OpenNodes
pub mod Layouts
