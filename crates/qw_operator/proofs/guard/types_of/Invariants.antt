use Rattle.std.proofs.Common.{◌≡◌, ◌∷◌, take}
use Rattle.qw_module.specs.declared.instruction.ValType.TheVariants.{I32}
use Rattle.qw_read.specs.NullTests.{octet_types}
use Rattle.qw_operator.proofs.guard.types_of.Given as goal

abbrev pub invariant-loop-other : goal.invariant-loop-other
invariant-loop-other l = l.types.items ≡ I32 ∷ I32 ∷ I32 ∷ octet_types (take l._other-index l.others)
