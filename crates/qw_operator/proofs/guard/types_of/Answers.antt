use Rattle.std.proofs.Common.{List, [], ◌∷◌, ap, ◌∙◌}
use Rattle.std.proofs.lemmas.List.{take_all}
use Rattle.qw_module.specs.declared.instruction.ValType.TheVariants.{I32}
use Rattle.qw_read.specs.NullTests.{octet_types}
use Rattle.qw_read.specs.declared.reader.Reader.{Reader}
use Rattle.qw_operator.proofs.GuardEmits.{octets_step}
use Rattle.qw_operator.proofs.guard.types_of.Goals as goal

pub loop-other-preserved : goal.loop-other-preserved
loop-other-preserved c =
    octets_step c.args.others.now c.loop-other._other-index (I32 ∷ I32 ∷ I32 ∷ []) c.loop-other.types.items c.push.new.self.items c.loop-other-test.true c.loop-other.invariant c.in_ok-push.ensures.items

pub returns : goal.returns
returns c = c.loop-other.invariant ∙ ap (λ (l : List Reader). I32 ∷ I32 ∷ I32 ∷ octet_types l) (take_all c.loop-other._other-index c.args.others.now c.loop-other-test.false)
