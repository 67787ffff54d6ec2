use Rattle.std.proofs.Common.{◌≡◌, ℕ, suc, ◌-◌, ◌<◌, ◌^◌, min, length, get_or}
use Rattle.qw_valid.specs.Inner.Runs.{locals_before}
use Rattle.qw_valid.proofs.locals.ends_of.Given as goal

-- the ends of the runs so far
abbrev pub invariant-loop-run : goal.invariant-loop-run
invariant-loop-run l = record {
  count : length l.ends.items ≡ l.run-index;
  each : (k d : ℕ) → k < l.run-index → get_or l.ends.items k d ≡ min (locals_before l.runs (suc k)) (2 ^ 64 - 1);
  last : l.end ≡ min (locals_before l.runs l.run-index) (2 ^ 64 - 1);
}
