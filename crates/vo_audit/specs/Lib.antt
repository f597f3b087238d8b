pub mod Auditing
pub mod Showing
pub mod WantedTables
pub mod Departures
pub mod Evidence
pub mod Auditors
