-- A run that takes more instructions than are left to it behaves, and has not ended when these have run.
use Rattle.std.proofs.Common.{◌≡◌, ℕ, ◌*◌, ◌^◌, ◌<◌, ◌≤◌, arith}
use Rattle.qw_map.specs.Runs.{Moment, BehavesWithin}
use Rattle.qw_low.specs.State.{LowState}
use Rattle.qw_low.specs.Meaning.{Outcome, Completed, Exited, Stopped, Wrong, Unfinished}
use Rattle.qw_low.specs.Places.{EndsAfter, EndsCounted, IsOutcome, RunsAs}
use Rattle.qw_low.specs.Promise.{Ends}
use Rattle.qw_feed.proofs.Frames.{Never}
use Rattle.qw_limit.specs.Counting.{TakesAtLeast}

-- of an end after no more instructions than are left anything may be said, as there is none
after-behaves : (n most pages left : ℕ) (Q P : Moment → Type 0) (start : Moment) → n ≤ most → left < n → EndsAfter n pages Q start → BehavesWithin most pages left P start
after-behaves n most pages left Q P start le more runs = record {
  goes_on = runs.behaves.goes_on;
  fine = runs.behaves.fine;
  asks = runs.behaves.asks;
  bounded = λ k b c run running. (let less : k < n = runs.behaves.bounded k b c run running in omega (arith, le));
  ends = λ k b run over. (let at = runs.exactly k b run over in (omega (arith, at, le), λ within. absurd (late k at within)));
}
  where
    late : (k : ℕ) → k ≡ n → k ≤ left → ⊥
    late k at within = omega (arith, at, within, more)

-- the instructions are half of the count at least
counted-behaves : (n m most pages left : ℕ) (Q P : Moment → Type 0) (start : Moment) → n ≤ m → m ≤ most → left < 10 ^ 18 → 2 * 10 ^ 18 ≤ n → EndsCounted n pages Q start → BehavesWithin most pages left P start
counted-behaves n m most pages left Q P start within le few long runs =
    let at_most : runs.count ≤ n = runs.most in
    let half : n ≤ 2 * runs.count = runs.least in
    after-behaves runs.count most pages left Q P start (omega (arith, at_most, within, le)) (omega (arith, few, long, half)) runs.ends

pub long_behaves : (m most pages left : ℕ) (S : LowState → Type 0) (R : ℕ → Type 0) (P : Moment → Type 0) (low : Outcome) (start : Moment) → RunsAs low pages start → m ≤ most → Ends m S Never R low → left < 10 ^ 18 → TakesAtLeast (10 ^ 18) low →
    BehavesWithin most pages left P start
long_behaves m most pages left S R P (Completed n t) start runs le h few long = counted-behaves n m most pages left (IsOutcome (Completed n t)) P start h.0 le few long runs
long_behaves m most pages left S R P (Exited n t) start runs le h few long = counted-behaves n m most pages left (IsOutcome (Exited n t)) P start h.0 le few long runs
long_behaves m most pages left S R P (Stopped code n t) start runs le h few long = counted-behaves n m most pages left (IsOutcome (Stopped code n t)) P start h.0 le few long runs
long_behaves m most pages left S R P Wrong start runs le h few long = absurd h
long_behaves m most pages left S R P Unfinished start runs le h few long = absurd h
