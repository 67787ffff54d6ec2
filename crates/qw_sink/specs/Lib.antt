pub mod Inner
pub mod Sink
pub use Rattle.qw_bench.specs.Bench
pub use Rattle.qw_bench.specs.Standing
pub use Rattle.qw_map.specs.Turns
