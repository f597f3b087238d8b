pub mod Agreement
pub mod Answers
pub mod Lookup
pub mod Nodes
pub mod Splices
pub mod Pruning
pub mod Shapes
pub mod Steps
