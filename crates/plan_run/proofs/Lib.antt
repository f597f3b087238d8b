mod AnswerSteps
pub mod ByNames
mod EntryRows
pub mod MissingLaws
mod QueryStops
mod RunLaws
