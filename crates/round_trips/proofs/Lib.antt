pub mod SealedOwners
pub mod SealedJournals
pub mod Entries
pub mod TripLaws
