pub use Rattle.qw_ast.specs.ScriptGrammar
pub use Rattle.qw_ast.specs.SyntaxTree
pub mod Inner
pub mod Script
pub mod Worked
