pub mod ChangeResults
pub mod RowParts
pub mod Sets
