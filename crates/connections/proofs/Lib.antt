pub mod RequestLaws
pub mod ServerLaws
