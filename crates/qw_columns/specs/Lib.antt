pub mod Inner
pub mod Mapped
pub use Rattle.qw_linear.specs.Memory
pub use Rattle.qw_map.specs.Columns
