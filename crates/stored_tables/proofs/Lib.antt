pub mod ListLaws
pub mod PositionLaws
pub mod StandingLaws
pub mod ReadyLaws
pub mod ProofLaws
pub mod LimitLaws
pub mod WorkLaws
pub mod PlainLaws
