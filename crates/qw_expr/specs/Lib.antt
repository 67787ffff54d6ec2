pub mod Cells
pub mod Computes
pub mod Bindings
pub mod Literals
pub mod Emits
pub mod Tests
pub mod Inner
