use Rattle.std.proofs.Common.{◌≡◌, length}
use Rattle.qw_module.specs.Syntax.{code_of}
use Rattle.qw_module.specs.Places.{tokens_of}
use Rattle.qw_valid.specs.Inner.Checkers.{typing_of, body_of}
use Rattle.qw_valid.specs.Inner.Checking.{tokens_left}
use Rattle.qw_valid.specs.Inner.Walks.{walked_of}
use Rattle.qw_valid.proofs.Reached.{IsAt}
use Rattle.qw_valid.proofs.walk.check_body.Given as goal

-- the walk is after so many places of the body
abbrev pub invariant-loop-walk : goal.invariant-loop-walk
invariant-loop-walk l =
    (l.walk.checker ≡ l.fn.checker) × IsAt (typing_of l.fn.checker) (tokens_of (code_of (body_of l.fn.checker))) l.at (walked_of l.walk)

abbrev pub decreases-loop-walk : goal.decreases-loop-walk
decreases-loop-walk l = length (tokens_left (walked_of l.walk))
