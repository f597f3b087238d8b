pub mod ParseLaws
pub mod Folds
pub mod StepCounts
