pub mod TextReadings
pub mod BatchReadings
pub mod BodyLaws
pub mod BodyRounds
