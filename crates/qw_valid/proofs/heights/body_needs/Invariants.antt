use Rattle.std.proofs.Common.{◌≡◌, ℕ, ◌<◌, length}
use Rattle.qw_module.specs.Syntax.{named}
use Rattle.qw_valid.specs.Heights.{StaysWithin}
use Rattle.qw_module.specs.Validity.{outside_of, sequences_of}
use Rattle.qw_valid.specs.Inner.Heights.{at_number}
use Rattle.qw_valid.proofs.heights.body_needs.Given as goal

-- each sequence so far stays within what is kept of it
abbrev pub invariant-loop-sequence : goal.invariant-loop-sequence
invariant-loop-sequence l = record {
  count : length l.lower.items ≡ l.sequence-index;
  each : (k : ℕ) → k < l.sequence-index →
      StaysWithin ((outside_of l.module).functions) (at_number l.lower.items k).operands (at_number l.lower.items k).labels (named (sequences_of l.body) k) 0;
}
