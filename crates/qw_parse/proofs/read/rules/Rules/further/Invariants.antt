-- The expressions read so far, and then those that are read from here, are what is read from the start.
use Rattle.std.proofs.Common.{length, map}
use Rattle.qw_ast.specs.ScriptGrammar.{is_comma}
use Rattle.qw_ast.specs.SyntaxTree.{expression_of}
use Rattle.qw_parse.specs.Inner.Readers.{append, expression_at, further_at, nested_at, token_at}
use Rattle.qw_parse.specs.Inner.Parser.{left}
use Rattle.qw_parse.proofs.ReadLemmas.{Goes}
use Rattle.qw_parse.proofs.read.rules.Rules.further.Given as goal

abbrev pub invariant-items : goal.invariant-items
invariant-items g l = Goes (token_at is_comma) (expression_at (nested_at l.self.levels)) append (further_at (expression_at (nested_at l.self.levels)) (left l.fn.parser)) (map expression_of l.expressions.items) (left l.parser)

abbrev pub decreases-items : goal.decreases-items
decreases-items g l = length (left l.parser)
