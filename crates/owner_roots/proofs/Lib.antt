mod CatalogLaws
mod DigestLengths
mod CommandSteps
mod CreatedTables
mod NextLaws
pub mod OwnedLaws
mod PlaceLaws
mod ReadyLaws
mod RootLaws
