use Rattle.std.proofs.Common.{subst, ◌∙◌, sym}
use Rattle.std.proofs.lemmas.Bool.{not-true}
use Rattle.std.specs.List.{AllByRecursion}
use Rattle.qw_operator.specs.Inner.Strict.{IsReadLeaf}
use Rattle.qw_operator.proofs.StrictLemmas.{read_quiet, read_sized}
use Rattle.qw_operator.proofs.strict.is_quiet.Goals as goal

pub condition_can_raise-raises-requires-clause-sized : goal.condition_can_raise-raises-requires-clause-sized
condition_can_raise-raises-requires-clause-sized c =
    read_sized c.args.readers.now c.args.cond.now (subst (AllByRecursion (IsReadLeaf c.args.readers.now)) (c.deref.ensures.value ∙ c.in_ok-leaves.ensures.0) (c.are_read.ensures c.if-not-are_read.false))

pub returns : goal.returns
returns c told row ranges =
    read_quiet c.args.readers.now c.args.cond.now c.requires.typed (subst (AllByRecursion (IsReadLeaf c.args.readers.now)) (c.deref.ensures.value ∙ c.in_ok-leaves.ensures.0) (c.are_read.ensures c.if-not-are_read.false)) (sym c.condition_can_raise-raises.ensures ∙ not-true c.condition_can_raise-raises.result told) row ranges
