pub mod AcceptedLaws
pub mod JournalLaws
pub mod WantedLaws
pub mod ResultLaws
pub mod FindingLaws
pub mod VerdictLaws
mod DepartureLaws
mod EvidenceLaws
mod LeftCommands
