-- What was read so far, and then the operands that are read from here, are what the rule reads from the start.
use Rattle.std.proofs.Common.{length}
use Rattle.qw_ast.specs.ScriptGrammar.{is_or}
use Rattle.qw_ast.specs.SyntaxTree.{clause_of}
use Rattle.qw_parse.specs.Inner.Readers.{nested_at, token_at, boolean_term_at, clause_at, join_or}
use Rattle.qw_parse.specs.Inner.Parser.{left}
use Rattle.qw_parse.proofs.ReadLemmas.{Goes}
use Rattle.qw_parse.proofs.read.rules.Rules.phrase.Given as goal

abbrev pub invariant-operands : goal.invariant-operands
invariant-operands g l = Goes (token_at is_or) (boolean_term_at (nested_at l.self.levels)) join_or (clause_at (nested_at l.self.levels) (left l.fn.parser)) (clause_of l.whole) (left l.parser)

abbrev pub decreases-operands : goal.decreases-operands
decreases-operands g l = length (left l.parser)
