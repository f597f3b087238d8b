pub mod HonestRoots
pub mod Following
