pub mod AnswerLaws
pub mod BoundLaws
pub mod FormulaLaws
pub mod MeaningLaws
pub mod Naming
pub mod Narrow
pub mod NumberLaws
pub mod SourceLaws
