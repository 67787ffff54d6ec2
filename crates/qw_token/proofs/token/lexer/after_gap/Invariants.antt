use Rattle.std.proofs.Common.{length}
use Rattle.std.specs.Prelude.{ℕ, List}
use Rattle.qw_token.specs.Token.{IsAfterGap}
use Rattle.qw_token.proofs.token.lexer.after_gap.Given as goal

-- what follows the gap at the front of the rest follows the gap at the front of the text
abbrev pub invariant-loop-after : goal.invariant-loop-after
invariant-loop-after l = (behind : List ℕ) → IsAfterGap l.rest behind → IsAfterGap l.text behind

abbrev pub decreases-loop-after : goal.decreases-loop-after
decreases-loop-after l = length l.rest
