pub mod HeldSources
pub mod Binding
pub mod Catalogs
pub mod ShownColumns
