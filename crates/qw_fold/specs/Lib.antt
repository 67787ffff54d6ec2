pub mod Folded
pub mod Inner
pub mod Stands
pub use Rattle.qw_meaning.specs.Same
