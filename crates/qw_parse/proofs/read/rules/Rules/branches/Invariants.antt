-- The branches read so far, and then those that are read from here, are what is read from the start.
use Rattle.std.proofs.Common.{length, map}
use Rattle.qw_ast.specs.ScriptGrammar.{is_when}
use Rattle.qw_parse.specs.Inner.Readers.{append, branch_at, branches_at, nested_at, token_at}
use Rattle.qw_parse.specs.Inner.Parser.{branch_of, left}
use Rattle.qw_parse.proofs.ReadLemmas.{Goes}
use Rattle.qw_parse.proofs.read.rules.Rules.branches.Given as goal

abbrev pub invariant-items : goal.invariant-items
invariant-items g l = Goes (token_at is_when) (branch_at (nested_at l.self.levels) l.searched) append (branches_at (nested_at l.self.levels) l.searched (left l.fn.parser)) (map branch_of l.branches.items) (left l.parser)

abbrev pub decreases-items : goal.decreases-items
decreases-items g l = length (left l.parser)
