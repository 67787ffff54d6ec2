use Rattle.std.proofs.Common.{◌≤◌, ◌∙◌, List, All, length, sym, ap, subst, arith}
use Rattle.std.specs.Global.{Vec}
use Rattle.std.proofs.lemmas.Bool.{false≢true, not-true, not_from_false, eqb-false, ne_eqb}
use Rattle.qw_module.specs.declared.instruction.Instr.{Instr}
use Rattle.qw_module.specs.Syntax.{NamesBelow}
use Rattle.qw_valid.proofs.Numbering.{numbered_from_items, items_from_numbered, length_from_numbered}
use Rattle.qw_valid.proofs.valid.is_numbered.Goals as goal

pub returns-then-not-all_names_below : goal.returns-then-not-all_names_below
returns-then-not-all_names_below c = (
  λ e. absurd (false≢true e),
  λ numbered. sym c.if-not-all_names_below.true ∙ c.all_names_below.ensures.1
      (subst (λ (xs : List Instr). All (NamesBelow (length c.args.labels.now) c.loop-number.number) xs)
      (ap (λ (sequence : Vec Instr). sequence.items) (sym c.index-sequences-number.is) ∙ sym c.deref.ensures.value)
      (items_from_numbered c.args.labels.now c.args.sequences.now numbered c.loop-number.number c.index-sequences-number.result c.loop-number-test.true)),
)

pub returns : goal.returns
returns c = (
  λ some. let filled : 1 ≤ length c.args.sequences.now = omega (arith, eqb-false (length c.args.sequences.now) 0 (sym c.is_empty.ensures ∙ not-true c.is_empty.result some)) in
      numbered_from_items c.args.labels.now c.args.sequences.now filled (λ k d h. c.loop-number.invariant k d (omega arith)),
  λ numbered. not_from_false c.is_empty.result (c.is_empty.ensures ∙ ne_eqb (length c.args.sequences.now) 0 (λ e. omega (arith, length_from_numbered c.args.labels.now c.args.sequences.now numbered))),
)
