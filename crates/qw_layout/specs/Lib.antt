pub mod Hash
pub mod Key
pub mod Row
