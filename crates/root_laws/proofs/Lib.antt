mod TablePlaces
mod TableForms
mod TableSteps
mod ProvedChanges
pub mod CommandSteps
pub mod BatchSteps
pub mod Representation
pub mod TakenTrees
pub mod OneAnswer
