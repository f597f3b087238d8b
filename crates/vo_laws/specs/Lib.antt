pub mod Changing
pub mod Sealing
pub mod Columns
pub mod Cutting
pub mod UpdateProofs
pub mod FittingTables
pub mod Separators
