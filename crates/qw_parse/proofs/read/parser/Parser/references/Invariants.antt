-- The column references read so far, and then those that are read from here, are what is read from the start.
use Rattle.std.proofs.Common.{length, map}
use Rattle.qw_ast.specs.ScriptGrammar.{is_comma}
use Rattle.qw_ast.specs.SyntaxTree.{reference_of}
use Rattle.qw_parse.specs.Inner.Readers.{append, further_at, reference_at, token_at}
use Rattle.qw_parse.specs.Inner.Parser.{left}
use Rattle.qw_parse.proofs.ReadLemmas.{Goes}
use Rattle.qw_parse.proofs.read.parser.Parser.references.Given as goal

abbrev pub invariant-references : goal.invariant-references
invariant-references l = Goes (token_at is_comma) reference_at append (further_at reference_at (left l.fn.self)) (map reference_of l.references.items) (left l.self)

abbrev pub decreases-references : goal.decreases-references
decreases-references l = length (left l.self)
