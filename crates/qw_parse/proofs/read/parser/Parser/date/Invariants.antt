-- The date read so far, and then the intervals that are read from here, are what is read from the start.
use Rattle.std.proofs.Common.{length, map}
use Rattle.qw_ast.specs.SyntaxTree.{days_of}
use Rattle.qw_parse.specs.Inner.Readers.{date_at, days_at, interval_sign_at, move}
use Rattle.qw_parse.specs.Inner.Parser.{left}
use Rattle.qw_parse.proofs.ReadLemmas.{Goes}
use Rattle.qw_parse.proofs.read.parser.Parser.date.Given as goal

abbrev pub invariant-intervals : goal.invariant-intervals
invariant-intervals l = Goes interval_sign_at days_at move (date_at (left l.fn.self)) (record { string = l.string; intervals = map days_of l.intervals.items }) (left l.self)

abbrev pub decreases-intervals : goal.decreases-intervals
decreases-intervals l = length (left l.self)
