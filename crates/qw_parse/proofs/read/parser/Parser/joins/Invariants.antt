-- The joins read so far, and then those that are read from here, are what is read from the start.
use Rattle.std.proofs.Common.{length, map}
use Rattle.qw_ast.specs.SyntaxTree.{joined_of}
use Rattle.qw_parse.specs.Inner.Readers.{join_at, join_on, joined_at, joins_at, nested_at}
use Rattle.qw_parse.specs.Inner.Parser.{left}
use Rattle.qw_parse.proofs.ReadLemmas.{Goes}
use Rattle.qw_parse.proofs.read.parser.Parser.joins.Given as goal

abbrev pub invariant-joins : goal.invariant-joins
invariant-joins l = Goes join_at (joined_at (nested_at 33)) join_on (joins_at (nested_at 33) (left l.fn.self)) (map joined_of l.joins.items) (left l.self)

abbrev pub decreases-joins : goal.decreases-joins
decreases-joins l = length (left l.self)
