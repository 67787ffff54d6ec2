pub mod Made
pub mod Typed
