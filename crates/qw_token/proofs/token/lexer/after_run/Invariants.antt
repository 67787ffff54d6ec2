use Rattle.std.proofs.Common.{◌≡◌, length}
use Rattle.std.specs.Prelude.{ℕ, Bool}
use Rattle.qw_token.specs.Inner.Lexer.{Tells, after_run}
use Rattle.qw_token.proofs.token.lexer.after_run.Given as goal

abbrev pub invariant-loop-rest : goal.invariant-loop-rest
invariant-loop-rest g l = goal.F-IsAlwaysCallable g l.passes
    × ((test : ℕ → Bool) → Tells (goal.F-post g l.passes) test → after_run test l.rest ≡ after_run test l.text)

abbrev pub decreases-loop-rest : goal.decreases-loop-rest
decreases-loop-rest g l = length l.rest
