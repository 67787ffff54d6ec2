use Rattle.std.proofs.Common.{◌≡◌, ℕ, ◌-◌, IfSome}
use Rattle.qw_module.specs.Validity.{sequences_of}
use Rattle.qw_machine.specs.Inner.Activities.{Repeats}
use Rattle.qw_machine.proofs.Reached.{IsReached}
use Rattle.qw_machine.proofs.blocks.blocks.Given as goal

-- so many steps led to the index of the sequence that as many are left up to the limit
abbrev pub invariant-loop-awaiting : goal.invariant-loop-awaiting
invariant-loop-awaiting l = record {
  reserved : l.memory.reserved ≡ l.initial.memory.reserved;
  again : IfSome l.again (λ (base : ℕ). Repeats (sequences_of l.body) l.number l.awaiting.values base);
  reached : IsReached l.body l.spare l.most l.limit
      (record { awaiting = l.initial.awaiting; number = l.fn.number; index = l.first; operands = l.initial.operands; globals = l.initial.globals; locals = l.initial.locals; octets = l.initial.memory.octets })
      (record { awaiting = l.awaiting; number = l.number; index = l.index; operands = l.operands; globals = l.globals; locals = l.locals; octets = l.memory.octets }) l.sequence;
}

abbrev pub decreases-loop-awaiting : goal.decreases-loop-awaiting
decreases-loop-awaiting l = l.limit - l.index
