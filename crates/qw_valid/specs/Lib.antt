pub mod Heights
pub mod Inner
pub mod Kinds
pub mod ModuleHeights
pub mod Refusals
pub mod ValidFaults
pub use Rattle.qw_module.specs.Validity
