use Rattle.std.proofs.Common.{◌≡◌, reverse}
use Rattle.qw_valid.specs.Inner.Checking.{all_popped}
use Rattle.qw_valid.proofs.operands.Operands.pop_arguments.Given as goal

-- what is still to be taken
abbrev pub invariant-loop-ty : goal.invariant-loop-ty
invariant-loop-ty l = all_popped (reverse l.types) l.fn.self ≡ all_popped (reverse l.ty-iterator.iter.rest.now) l.self
