pub mod ChangedCells
pub mod Changes
pub mod GivenRows
pub mod RowEntries
pub mod RowExchanges
pub mod RowLimits
pub mod RowPruning
pub mod ShownValues
