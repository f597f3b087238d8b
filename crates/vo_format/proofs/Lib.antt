pub mod Forms
pub mod CatalogSizes
pub mod BlockLaws
pub mod TreeLaws
pub mod ReplyLaws
pub mod BatchProofLaws
pub mod Pushing
