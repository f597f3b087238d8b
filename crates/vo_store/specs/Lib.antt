pub mod Proving
pub mod Replying
pub mod StoreState
pub mod Codes
pub mod HonestStores
pub mod Calls
pub mod Loading
