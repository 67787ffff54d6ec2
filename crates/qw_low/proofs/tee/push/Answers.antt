use Rattle.std.proofs.Common.{◌<◌, List, ◌++◌, ◌∷◌, [], refl, ap, sym, ◌∙◌, arith}
use Rattle.std.proofs.lemmas.Bool.{false≢true}
use Rattle.std.specs.Vec.{vec_len}
use Rattle.qw_module.specs.declared.instruction.Instr.{Instr}
use Rattle.qw_low.proofs.Tees.{pushed-first, pushed-tee, pushed-two}
use Rattle.qw_low.proofs.tee.push.Goals as goal
use Rattle.qw_low.proofs.tee.push.Goals.{in-Some+in_default-tee_of, in_default}

pub returns-in-Some-tee_of : goal.returns-in-Some-tee_of
returns-in-Some-tee_of c = pushed-tee c.args.sequence.now.items _ c.in-Some.last.now c.args.instruction c.in-Some-tee_of.tee
    (omega (arith, c.args.sequence.now.ok.0, c.in-Some.ensures.variant.0 refl)) c.in-Some.ensures.value (sym c.tee_of.ensures ∙ c.in-Some-tee_of.is)

pub returns : goal.returns
returns c = elim c.match-last_mut.branch [
  | in-Some+in_default-tee_of w ↦
      c.in_ok-push.ensures.items ∙ ap (λ (items : List Instr). items ++ c.args.instruction ∷ []) (ap (λ v. v.items) w.sequence-is)
      ∙ pushed-two c.args.sequence.now.items _ w.in-Some.last.now c.args.instruction (omega (arith, c.args.sequence.now.ok.0, w.in-Some.ensures.variant.0 refl)) w.in-Some.ensures.value (sym w.tee_of.ensures ∙ w.in_default-tee_of.is)
  | in_default w ↦
      let none : 0 < vec_len c.args.sequence.now → ⊥ = λ some. false≢true (w.in_default.ensures.variant.1 some) in
      c.in_ok-push.ensures.items ∙ ap (λ (items : List Instr). items ++ c.args.instruction ∷ []) (ap (λ v. v.items) w.sequence-is)
      ∙ pushed-first c.args.sequence.now.items c.args.instruction (omega (arith, c.args.sequence.now.ok.0, none))
]
