pub mod FrameLaws
pub mod ReadLaws
pub mod Results
pub mod Filling
pub mod Putting
pub mod ScriptLaws
pub mod ServeLaws
