use Rattle.std.proofs.Common.{ℕ, ◌+◌, ◌-◌, arith}
use Rattle.qw_map.specs.Runs.{Moment, Behaves, BehavesWithin}
use Rattle.qw_map.proofs.Separate.{safe-turns, runs-turns, run-after, behaves-turns, within-turns}
use Rattle.qw_map.proofs.turn_laws.turns_are_open_runs.Goals as goal

pub returns-clause-safe : goal.returns-clause-safe
returns-clause-safe c = safe-turns

pub returns-clause-runs : goal.returns-clause-runs
returns-clause-runs c = runs-turns

pub returns-clause-onwards : goal.returns-clause-onwards
returns-clause-onwards c = run-after

-- an open run may end with anything, so however many instructions are left
any-left : (left other : ℕ) (a : Moment) → Behaves left (λ b. Unit {0}) a → Behaves other (λ b. Unit {0}) a
any-left left other a h = record { fine = h.fine; asks_on = h.asks_on; ends = λ k b run over within. tt }

any-left-within : (most pages left other : ℕ) (a : Moment) → BehavesWithin most pages left (λ b. Unit {0}) a → BehavesWithin most pages other (λ b. Unit {0}) a
any-left-within most pages left other a h = record {
  goes_on = h.goes_on;
  fine = h.fine;
  asks = h.asks;
  bounded = h.bounded;
  ends = λ k b run over. ((h.ends k b run over).0, λ within. tt);
}

pub returns-clause-behaves : goal.returns-clause-behaves
returns-clause-behaves c = λ behind s ts left safe k i later found found_later has behaves.
    let n = later.ran - i.ran in
    any-left (n + left - n) (left - n) _ (behaves-turns behind s ts safe k i later found found_later has (n + left) (λ b. Unit {0}) (λ b after others h. tt) (omega arith)
    (any-left left (n + left) _ behaves))

pub returns-clause-within : goal.returns-clause-within
returns-clause-within c = λ behind s ts most pages left safe k i later found found_later has behaves.
    let n = later.ran - i.ran in
    any-left-within (most - n) pages (n + left - n) (left - n) _ (within-turns behind s ts safe k i later found found_later has most pages (n + left) (λ b. Unit {0}) (λ b after others h. tt) (omega arith)
    (any-left-within most pages left (n + left) _ behaves))
