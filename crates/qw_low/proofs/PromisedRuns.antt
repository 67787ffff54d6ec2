-- A block that keeps a promise keeps it in every open run of its code.
use Rattle.std.proofs.Common.{◌≡◌, ℕ, ◌≤◌, ◌⊎◌, inl, inr, List, arith}
use Rattle.qw_module.specs.Execution.{Store, Returned, Raised}
use Rattle.qw_map.specs.Areas.{World}
use Rattle.qw_map.specs.Runs.{Moment, BehavesWithin}
use Rattle.qw_map.proofs.BehavingLemmas.{within-weaker}
use Rattle.qw_low.specs.Syntax.{Statement}
use Rattle.qw_low.specs.State.{LowState}
use Rattle.qw_low.specs.Meaning.{Outcome, Completed, Exited, Stopped, Wrong, Unfinished, meaning}
use Rattle.qw_low.specs.Places.{AreMeant, StandsFor, IsOutcome, EndsCounted, RunsAs, HasHosts, beginning}
use Rattle.qw_low.specs.Promise.{Ends}
use Rattle.qw_low.proofs.OpenOutcomes.{low_runs}

-- where a run is over that keeps a promise: it returned with a state of which the promise holds, or raised a code of which it does
abbrev pub Keeps : (P X : LowState → Type 0) → (R : ℕ → Type 0) → Moment → Type 0
Keeps P X R b = ((t : LowState) × (b.state ≡ Returned) × StandsFor b.world t b.memory × (P t ⊎ X t)) ⊎ ((code : ℕ) × (t : LowState) × (b.state ≡ Raised code) × StandsFor b.world t b.memory × R code)

module _ (pages fuel most left : ℕ) (P X : LowState → Type 0) (R : ℕ → Type 0) (a : Statement) (s : LowState) (store : Store) (w : World) (memory xs : List ℕ) where
  abbrev start : Moment
  start = beginning store w a xs memory

  ended : (n : ℕ) (out : Outcome) → n ≤ most → ((b : Moment) → IsOutcome out b → Keeps P X R b) → EndsCounted n pages (IsOutcome out) start → BehavesWithin most pages left (Keeps P X R) start
  ended n out le keeps runs =
      within-weaker runs.count most pages pages runs.count left (IsOutcome out) (Keeps P X R) start (omega (arith, le, runs.most)) (omega arith) (inr (omega arith)) keeps runs.ends.behaves

  by_outcome : (out : Outcome) → RunsAs out pages start → Ends most P X R out → BehavesWithin most pages left (Keeps P X R) start
  by_outcome (Completed n t) runs h = ended n (Completed n t) h.0 (λ b is. inl (t, is.0, is.1, inl h.1)) runs
  by_outcome (Exited n t) runs h = ended n (Exited n t) h.0 (λ b is. inl (t, is.0, is.1, inr h.1)) runs
  by_outcome (Stopped code n t) runs h = ended n (Stopped code n t) h.0 (λ b is. inr (code, t, is.0, is.1, h.1)) runs
  by_outcome Wrong runs h = absurd h
  by_outcome Unfinished runs h = absurd h

  pub promised_runs : HasHosts store → StandsFor w s memory → AreMeant w s.locals xs → Ends most P X R (meaning pages fuel a s) → BehavesWithin most pages left (Keeps P X R) start
  promised_runs imported stands are ends = by_outcome (meaning pages fuel a s) (low_runs pages fuel a s store w memory xs imported stands are) ends
