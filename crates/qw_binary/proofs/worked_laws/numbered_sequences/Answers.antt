use Rattle.std.proofs.Common.{◌≡◌, length, ap, arith}
use Rattle.qw_module.specs.Syntax.{Sequences, named_below}
use Rattle.qw_binary.proofs.worked_laws.numbered_sequences.Goals as goal

pub returns-clause-lost : goal.returns-clause-lost
unfolding named_below
returns-clause-lost c = λ e. let two : 2 ≡ 1 = ap (λ (s : Sequences). length s.each) e in absurd (omega (arith, two))
