use Rattle.std.proofs.Common.{◌≡◌, take, reverse}
use Rattle.qw_valid.specs.Inner.Checking.{all_pushed}
use Rattle.qw_valid.proofs.operands.Operands.push_results.Given as goal

-- the results so far were put
abbrev pub invariant-loop-ty : goal.invariant-loop-ty
invariant-loop-ty l = l.self ≡ all_pushed (reverse (take l.ty-index l.types)) l.fn.self
