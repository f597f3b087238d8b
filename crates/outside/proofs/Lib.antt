pub mod LostBytes
pub mod LogLaws
pub mod MomentLaws
pub mod RoomLaws
pub mod Replays
pub mod ReplayLaws
