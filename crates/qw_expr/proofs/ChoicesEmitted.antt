-- Choices that are emitted.
use Rattle.std.proofs.Common.{◌≡◌, ◌+◌, ◌≤◌, Bool, List, [], ◌∷◌, ◌++◌, length, length-append, sym, ap, ◌∙◌, subst, arith}
use Rattle.std.proofs.lemmas.List.{append_assoc}
use Rattle.qw_scalar.specs.Expression.{Expression, Condition, choice}
use Rattle.qw_scalar.specs.Typing.{IsTyped, kind_of}
use Rattle.qw_module.specs.declared.instruction.ValType.{ValType}
use Rattle.qw_module.specs.declared.instruction.Op.TheVariants as o
use Rattle.qw_low.specs.declared.cell.Cell.{Cell}
use Rattle.qw_low.specs.declared.step.LowStep.{LowStep}
use Rattle.qw_low.specs.declared.step.LowStep.TheVariants as step
use Rattle.qw_low.specs.Syntax.{Statement, local, seq, conditional}
use Rattle.qw_low.specs.Steps.{steps_of}
use Rattle.qw_low.proofs.Appended.{two, three}
use Rattle.qw_expr.specs.declared.choice.Place.{Place}
use Rattle.qw_expr.specs.declared.emitter.Emitter.{Emitter}
use Rattle.qw_expr.specs.declared.operand.Operand.{Operand}
use Rattle.qw_expr.specs.Computes.{Known, AreBelow, Computes}
use Rattle.qw_expr.specs.Emits.{Emits, EmitsTruth, free_of}
use Rattle.qw_expr.specs.Inner.Choices.{Suits, place_types, place_at, copy_block, chosen_at, BeginsChoice, HasFirst}
use Rattle.qw_expr.proofs.Choices.{choice_computes}
use Rattle.qw_expr.proofs.TruthsEmitted.{truth_after}

pub has_first : (known : List Known) (c : Condition) (a : Expression) (text : Bool) (start mid begun cur new : Emitter) (test : Cell) (to : Place) (first : Operand) (c1 : List LowStep) → EmitsTruth known c start mid test → BeginsChoice test.value text mid begun to → Emits known a begun cur first →
    new.first ≡ cur.first → new.own.items ≡ cur.own.items → c1 ≡ cur.block.code.items ++ steps_of (copy_block first.kind to first.cell) → new.block.code.items ≡ c1 ++ step.Else ∷ [] → HasFirst known c a text start new to first
has_first known c a text start mid begun cur new test to first c1 ec begins ea same own copies other =
    let copy : List LowStep = steps_of (copy_block first.kind to first.cell) in
    let sa : List LowStep = steps_of ea.statement in
    let at_mid : free_of mid ≡ free_of start + length ec.own = truth_after known c start mid test ec in
    let long : length begun.own.items ≡ length mid.own.items + length (place_types text) = ap length begins.own_is ∙ length-append mid.own.items (place_types text) in
    let at_begun : free_of begun ≡ free_of start + length ec.own + length (place_types text) = omega (arith, at_mid, begins.first_is, long) in
    let inner : new.block.code.items ≡ begun.block.code.items ++ ((sa ++ copy) ++ step.Else ∷ []) =
    two begun.block.code.items c1 new.block.code.items (sa ++ copy) (step.Else ∷ []) (two begun.block.code.items cur.block.code.items c1 sa copy ea.code_is copies) other in
    let outer : new.block.code.items ≡ mid.block.code.items ++ (step.Op (o.LocalGet test.value) ∷ (step.If ∷ ((sa ++ copy) ++ step.Else ∷ []))) =
    two mid.block.code.items begun.block.code.items new.block.code.items (step.Op (o.LocalGet test.value) ∷ step.If ∷ []) ((sa ++ copy) ++ step.Else ∷ []) begins.code_is inner in
    record {
      first_is = same ∙ ea.first_is ∙ begins.first_is ∙ ec.first_is;
      test = test;
      condition = ec.statement;
      result = ea.statement;
      own_condition = ec.own;
      own_result = ea.own;
      code_is = two start.block.code.items mid.block.code.items new.block.code.items (steps_of ec.statement) (step.Op (o.LocalGet test.value) ∷ (step.If ∷ ((sa ++ copy) ++ step.Else ∷ []))) ec.code_is outer;
      own_is = three start.own.items mid.own.items begun.own.items new.own.items ec.own (place_types text) ea.own ec.own_is begins.own_is (own ∙ ea.own_is);
      place_is = begins.place_is ∙ ap (place_at text) at_mid;
      decides = ec.decides;
      computes = subst (λ k. Computes known a k first ea.statement ea.own) at_begun ea.computes;
    }

pub choice_emits : (known : List Known) (c : Condition) (a b : Expression) (text : Bool) (start mid cur new : Emitter) (to : Place) (first second out : Operand) (c1 : List LowStep) → IsTyped (choice c a b) → Suits text (kind_of (choice c a b)) → AreBelow (free_of start) known →
    HasFirst known c a text start mid to first → Emits known b mid cur second → new.first ≡ cur.first → new.own.items ≡ cur.own.items → c1 ≡ cur.block.code.items ++ steps_of (copy_block second.kind to second.cell) → new.block.code.items ≡ c1 ++ step.End ∷ [] →
    out ≡ chosen_at to first second → Emits known (choice c a b) start new out
choice_emits known c a b text start mid cur new to first second out c1 typed suits low h eb same own copies end out_is =
    let copy : List LowStep = steps_of (copy_block second.kind to second.cell) in
    let sb : List LowStep = steps_of eb.statement in
    let sc : List LowStep = steps_of h.condition in
    let sa : List LowStep = steps_of (seq h.result (copy_block first.kind to first.cell)) in
    let get : LowStep = step.Op (o.LocalGet h.test.value) in
    let rest : List LowStep = (sb ++ copy) ++ step.End ∷ [] in
    let block : Place → Statement = λ p. seq h.condition (conditional (local h.test.value) (seq h.result (copy_block first.kind p first.cell)) (seq eb.statement (copy_block second.kind p second.cell))) in
    let locals : List ValType = h.own_condition ++ (place_types text ++ (h.own_result ++ eb.own)) in
    let long : length mid.own.items ≡ length start.own.items + (length h.own_condition + (length (place_types text) + length h.own_result)) =
    omega (arith, ap length h.own_is, length-append start.own.items (h.own_condition ++ (place_types text ++ h.own_result)), length-append h.own_condition (place_types text ++ h.own_result), length-append (place_types text) h.own_result) in
    let at_mid : free_of mid ≡ free_of start + length h.own_condition + length (place_types text) + length h.own_result = omega (arith, h.first_is, long) in
    let inner : new.block.code.items ≡ mid.block.code.items ++ rest =
    two mid.block.code.items c1 new.block.code.items (sb ++ copy) (step.End ∷ []) (two mid.block.code.items cur.block.code.items c1 sb copy eb.code_is copies) end in
    record {
      first_is = same ∙ eb.first_is ∙ h.first_is;
      statement = block to;
      own = locals;
      code_is = two start.block.code.items mid.block.code.items new.block.code.items (sc ++ (get ∷ (step.If ∷ (sa ++ step.Else ∷ [])))) rest h.code_is inner
          ∙ ap (λ x. start.block.code.items ++ x) (append_assoc sc (get ∷ (step.If ∷ (sa ++ step.Else ∷ []))) rest ∙ ap (λ x. sc ++ (get ∷ (step.If ∷ x))) (append_assoc sa (step.Else ∷ []) rest));
      own_is = two start.own.items mid.own.items new.own.items (h.own_condition ++ (place_types text ++ h.own_result)) eb.own h.own_is (own ∙ eb.own_is)
          ∙ ap (λ x. start.own.items ++ x) (append_assoc h.own_condition (place_types text ++ h.own_result) eb.own ∙ ap (λ x. h.own_condition ++ x) (append_assoc (place_types text) h.own_result eb.own));
      computes = subst (λ (p : Operand). Computes known (choice c a b) (free_of start) p (block to) locals) (sym out_is)
          (subst (λ (p : Place). Computes known (choice c a b) (free_of start) (chosen_at p first second) (block p) locals) (sym h.place_is)
          (choice_computes known (free_of start) low c a b text typed suits h.test first second h.condition h.result eb.statement h.own_condition h.own_result eb.own h.decides h.computes
          (subst (λ k. Computes known b k second eb.statement eb.own) at_mid eb.computes)));
    }

-- the next local after a first result
pub first_far : (known : List Known) (c : Condition) (a : Expression) (text : Bool) (start now : Emitter) (to : Place) (first : Operand) → HasFirst known c a text start now to first → free_of start ≤ free_of now
first_far known c a text start now to first h =
    let long : length now.own.items ≡ length start.own.items + length (h.own_condition ++ (place_types text ++ h.own_result)) = ap length h.own_is ∙ length-append start.own.items (h.own_condition ++ (place_types text ++ h.own_result)) in
    omega (arith, h.first_is, long)
