pub mod Cases
pub mod ByteRuns
pub mod Sizes
pub mod SlotImages
pub mod RestLaws
pub mod OpenLaws
pub mod TakingLaws
