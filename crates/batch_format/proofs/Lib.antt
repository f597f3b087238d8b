pub mod ReaderLaws
pub mod BatchLaws
pub mod Fitting
pub mod Fronts
pub mod KeyLaws
pub mod EntryLaws
pub mod TreeLaws
