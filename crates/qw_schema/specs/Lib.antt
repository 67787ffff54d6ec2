pub use Rattle.qw_ast.specs.Grammar
pub use Rattle.qw_ast.specs.SchemaGrammar
pub use Rattle.qw_types.specs.Schema
pub mod Inner
pub mod Parse
pub mod Worked
