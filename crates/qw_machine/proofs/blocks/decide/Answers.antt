use Rattle.std.proofs.Common.{ℕ, ◌∷◌, ◌∙◌, refl, sym, ap, drop, arith}
use Rattle.qw_machine.specs.declared.stepped.Stepped.TheVariants.{Ran}
use Rattle.qw_machine.specs.Inner.Stacked.{Stacked}
use Rattle.qw_machine.proofs.Crossing.{held, in-array, slice-read, placed-condition, placed-on, placed-operand, placed-if, placed-else, placed-passed, point-if, point-else, else-there}
use Rattle.qw_machine.proofs.blocks.decide.Goals as goal
use Rattle.qw_machine.proofs.blocks.decide.Goals.{then-top-ne0, else-top-ne0}

pub top-requires : goal.top-requires
top-requires c =
    let at = c.requires.point in
    placed-operand at.7 c.args.sequence.now at.6 0 _ c.in-If.result c.in-If.then_body c.in-If.else_body c.in-If.is

pub top-requires-in-BrIf : goal.top-requires-in-BrIf
top-requires-in-BrIf c =
    let at = c.requires.point in
    placed-condition at.7 c.args.sequence.now at.6 0 _ c.in-BrIf.field-0 c.in-BrIf.is

pub filled-chosen-requires : goal.filled-chosen-requires
filled-chosen-requires c =
    let at = c.requires.point in
    let left : Stacked ℕ = record { values = drop 1 c.args.operands.now.values; room = c.args.operands.now.room } in
    else-there at.7 c.args.sequence.now at.6 _ c.in-If.result c.in-If.then_body c.args.body.now at.5 left
    (c.top.ensures ∙ ap (λ (n : ℕ). n ∷ left.values) c.if-top-ne0.false) c.in-If.else_body c.in-If.is

pub index-requires : goal.index-requires
index-requires c =
    let at = c.requires.point in
    let left : Stacked ℕ = record { values = drop 1 c.args.operands.now.values; room = c.args.operands.now.room } in
    elim c.if-top-ne0.branch [
      | then-top-ne0 w ↦
          in-array at.0 at.1 (held at.2 left at.3 at.4) c.args.body.now at.5 _ c.in-Some.inner 0
          (point-if at.7 c.args.sequence.now at.6 0 _ c.in-If.result c.in-If.then_body c.in-If.else_body c.in-If.is
          c.in-Some.inner c.top.result left c.top.ensures w.if-top-ne0.true (cc (w.chosen-is, c.in-Some.is)))
      | else-top-ne0 w ↦
          in-array at.0 at.1 (held at.2 left at.3 at.4) c.args.body.now at.5 _ c.in-Some.inner 0
          (point-else at.7 c.args.sequence.now at.6 0 _ c.in-If.result c.in-If.then_body c.in-If.else_body c.in-If.is
          c.in-Some.inner left (c.top.ensures ∙ ap (λ (n : ℕ). n ∷ left.values) w.if-top-ne0.false) ((rw (sym w.chosen-is ∙ c.in-Some.is) at w.filled-chosen.ensures.there)))
    ]

pub returns-in_default-chosen-clause-done : goal.returns-in_default-chosen-clause-done
returns-in_default-chosen-clause-done c = λ m rooms p globals locals spare memory body same start.
    elim c.if-top-ne0.branch [
      | then-top-ne0 w ↦ absurd (c.in_default-chosen.not-Some _ w.chosen-is)
      | else-top-ne0 w ↦
          placed-passed start c.args.sequence.now same spare _ c.in-If.result c.in-If.then_body c.in-If.else_body c.in-If.is
          c.pop.new.self memory (cc (c.top.ensures, c.pop.ensures.popped, w.if-top-ne0.false)) _ body
          (w.filled-chosen.ensures.empty (sym w.chosen-is ∙ c.in_default-chosen.is))
    ]

pub returns-else-is_empty-clause-done : goal.returns-else-is_empty-clause-done
returns-else-is_empty-clause-done c = λ m rooms p globals locals spare memory body same start.
    elim c.if-top-ne0.branch [
      | then-top-ne0 w ↦
          placed-if start c.args.sequence.now same spare _ c.in-If.result c.in-If.then_body c.in-If.else_body c.in-If.is
          c.in-Some.inner c.len.result c.is_some.result c.push.new.self (record { number = c.in-Some.inner; index = 0; done = Ran }) c.pop-in-If.new.self memory
          c.len.ensures c.is_some.ensures record { labelled_is = c.push.ensures; begins = refl }
          c.pop-in-If.result c.pop-in-If.ensures.popped (λ zero. w.if-top-ne0.true (cc (c.top.ensures, c.pop-in-If.ensures.popped, zero))) (cc (w.chosen-is, c.in-Some.is))
      | else-top-ne0 w ↦
          placed-else start c.args.sequence.now same spare _ c.in-If.result c.in-If.then_body c.in-If.else_body c.in-If.is
          c.in-Some.inner c.len.result c.is_some.result c.push.new.self (record { number = c.in-Some.inner; index = 0; done = Ran }) c.pop-in-If.new.self memory
          c.len.ensures c.is_some.ensures record { labelled_is = c.push.ensures; begins = refl }
          (cc (c.top.ensures, c.pop-in-If.ensures.popped, w.if-top-ne0.false)) ((rw (sym w.chosen-is ∙ c.in-Some.is) at w.filled-chosen.ensures.there))
    ]

pub returns-else-is_empty-clause-goes : goal.returns-else-is_empty-clause-goes
returns-else-is_empty-clause-goes c =
    let at = c.requires.point in
    let left : Stacked ℕ = record { values = drop 1 c.args.operands.now.values; room = c.args.operands.now.room } in
    elim c.if-top-ne0.branch [
      | then-top-ne0 w ↦ (
        grind (arith, c.is_empty.ensures, c.if-is_empty.false),
        slice-read at.0 at.1 (held at.2 left at.3 at.4) c.args.body.now at.5 _ c.in-Some.inner 0
            (point-if at.7 c.args.sequence.now at.6 0 _ c.in-If.result c.in-If.then_body c.in-If.else_body c.in-If.is
            c.in-Some.inner c.top.result left c.top.ensures w.if-top-ne0.true (cc (w.chosen-is, c.in-Some.is)))
            c.index.result.now c.as_slice-entered.result.now c.index.ensures c.as_slice-entered.ensures.value,
      )
      | else-top-ne0 w ↦ (
        grind (arith, c.is_empty.ensures, c.if-is_empty.false),
        slice-read at.0 at.1 (held at.2 left at.3 at.4) c.args.body.now at.5 _ c.in-Some.inner 0
            (point-else at.7 c.args.sequence.now at.6 0 _ c.in-If.result c.in-If.then_body c.in-If.else_body c.in-If.is
            c.in-Some.inner left (c.top.ensures ∙ ap (λ (n : ℕ). n ∷ left.values) w.if-top-ne0.false) ((rw (sym w.chosen-is ∙ c.in-Some.is) at w.filled-chosen.ensures.there)))
            c.index.result.now c.as_slice-entered.result.now c.index.ensures c.as_slice-entered.ensures.value,
      )
    ]

pub returns-else-after-sequence-2-clause-done : goal.returns-else-after-sequence-2-clause-done
returns-else-after-sequence-2-clause-done c = λ m rooms p globals locals spare memory body same start.
    placed-on start c.args.sequence.now same spare _ c.in-BrIf.field-0 c.in-BrIf.is
    c.pop-in-BrIf.new.self memory (cc (c.top-in-BrIf.ensures, c.pop-in-BrIf.ensures.popped, c.if-top-ne0-2.false))
