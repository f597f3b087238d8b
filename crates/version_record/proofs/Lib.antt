pub mod CatalogLaws
mod Hashing
mod Laid
pub mod RecordLaws
pub mod Rising
