use Rattle.std.proofs.Common.{◌≡◌, drop}
use Rattle.qw_module.specs.Validity.{outside_of}
use Rattle.qw_valid.specs.Inner.Heights.{at_number, needs, wider}
use Rattle.qw_valid.proofs.heights.sequence_needs.Given as goal

-- what was needed so far and what is still to come need what the whole needs
abbrev pub invariant-loop-instr : goal.invariant-loop-instr
invariant-loop-instr l =
    wider l.most (needs ((outside_of l.module).functions) (at_number l.lower) (drop l.instr-index l.sequence) l.now)
    ≡ needs ((outside_of l.module).functions) (at_number l.lower) l.sequence 0
