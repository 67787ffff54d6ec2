-- The sources read so far, and then those that are read from here, are what is read from the start.
use Rattle.std.proofs.Common.{length, map}
use Rattle.qw_ast.specs.ScriptGrammar.{is_comma}
use Rattle.qw_ast.specs.SyntaxTree.{source_of}
use Rattle.qw_parse.specs.Inner.Readers.{append, further_at, source_at, nested_at, token_at}
use Rattle.qw_parse.specs.Inner.Parser.{left}
use Rattle.qw_parse.proofs.ReadLemmas.{Goes}
use Rattle.qw_parse.proofs.read.parser.Parser.further_sources.Given as goal

abbrev pub invariant-sources : goal.invariant-sources
invariant-sources l = Goes (token_at is_comma) (source_at (nested_at 33)) append (further_at (source_at (nested_at 33)) (left l.fn.self)) (map source_of l.sources.items) (left l.self)

abbrev pub decreases-sources : goal.decreases-sources
decreases-sources l = length (left l.self)
