pub mod AcceptedReplies
pub mod Telling
pub mod TwinTrees
pub mod Comparable
pub mod ProofSteps
pub mod Meets
