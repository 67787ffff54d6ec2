-- AND and OR that are emitted.
use Rattle.std.proofs.Common.{◌≡◌, ℕ, ◌+◌, List, [], ◌∷◌, ◌++◌, length, Option, sym, ap, ◌∙◌, subst, arith}
use Rattle.std.proofs.lemmas.List.{append_assoc}
use Rattle.qw_scalar.specs.Expression.{Condition, both, either}
use Rattle.qw_module.specs.declared.instruction.ValType.{ValType}
use Rattle.qw_module.specs.declared.instruction.ValType.TheVariants.{I32}
use Rattle.qw_low.specs.declared.cell.Cell.{Cell}
use Rattle.qw_low.specs.declared.step.LowStep.{LowStep}
use Rattle.qw_low.specs.declared.step.LowStep.TheVariants as step
use Rattle.qw_low.specs.Syntax.{Expression, Statement, local, is_zero, seq, conditional}
use Rattle.qw_low.specs.Steps.{expression_steps, steps_of}
use Rattle.qw_low.proofs.Appended.{two, three}
use Rattle.qw_expr.specs.declared.emitter.Emitter.{Emitter}
use Rattle.qw_expr.specs.Computes.{Known, AreBelow, Decides}
use Rattle.qw_expr.specs.Emits.{EmitsTruth, free_of}
use Rattle.qw_expr.specs.Inner.Truths.{i32, may_hold, junction_null, set_truth}
use Rattle.qw_expr.specs.Inner.Junctions.{Begins, TakesCell, and_truth, and_unknown, or_unknown}
use Rattle.qw_expr.proofs.JunctionsDecide.{both_decides, either_decides}
use Rattle.qw_expr.proofs.TruthsEmitted.{truth_after}

-- the steps of a choice, from what was added one after another
pub chosen_steps : (c0 c1 c2 c3 c4 c5 c6 : List LowStep) (sc es sd taken last : List LowStep) → c1 ≡ c0 ++ sc → c2 ≡ c1 ++ (es ++ step.If ∷ []) → c3 ≡ c2 ++ sd → c4 ≡ c3 ++ taken → c5 ≡ c4 ++ step.Else ∷ [] → c6 ≡ c5 ++ (last ++ step.End ∷ []) →
    c6 ≡ c0 ++ (sc ++ (es ++ (step.If ∷ ((sd ++ taken) ++ (step.Else ∷ (last ++ step.End ∷ []))))))
chosen_steps c0 c1 c2 c3 c4 c5 c6 sc es sd taken last one test right done other end =
    let rest : List LowStep = (sd ++ taken) ++ (step.Else ∷ (last ++ step.End ∷ [])) in
    let inner : c6 ≡ c2 ++ rest = three c2 c4 c5 c6 (sd ++ taken) (step.Else ∷ []) (last ++ step.End ∷ []) (two c2 c3 c4 sd taken right done) other end in
    let outer : c6 ≡ c1 ++ (es ++ (step.If ∷ rest)) = two c1 c2 c6 (es ++ step.If ∷ []) rest test inner ∙ ap (λ c. c1 ++ c) (append_assoc es (step.If ∷ []) rest) in
    two c0 c1 c6 sc (es ++ (step.If ∷ rest)) one outer

module _ (known : List Known) (c d e : Condition) (start mid begun cur new : Emitter) (left right out : Cell) (test : Expression) (ec : EmitsTruth known c start mid left) (begins : Begins test mid begun) (ed : EmitsTruth known d begun cur right)
    (taken last : Option ℕ → ℕ → Statement) (made : Emitter) (takes : TakesCell left right cur made out) (c4 c5 c6 : List LowStep) (same : new.first ≡ made.first) (own : new.own.items ≡ made.own.items) (done : c4 ≡ made.block.code.items ++ steps_of (taken out.null out.value))
    (other : c5 ≡ c4 ++ step.Else ∷ []) (skipped : c6 ≡ c5 ++ steps_of (last out.null out.value)) (end : new.block.code.items ≡ c6 ++ step.End ∷ []) where
  abbrev m : ℕ
  m = free_of start + length ec.own + length ed.own

  abbrev null : Option ℕ
  null = junction_null (m + 1) left.null right.null

  abbrev cell : Cell
  cell = record { value = m; length = m; null = null }

  abbrev block : Statement
  block = seq ec.statement (conditional test (seq ed.statement (taken null m)) (last null m))

  abbrev locals : List ValType
  locals = ec.own ++ (ed.own ++ (I32 ∷ I32 ∷ []))

  at_begun : free_of begun ≡ free_of start + length ec.own
  at_begun =
      let long : length begun.own.items ≡ length mid.own.items = ap length begins.own_is in
      omega (arith, truth_after known c start mid left ec, begins.first_is, long)

  at_cur : free_of cur ≡ m
  at_cur = omega (arith, truth_after known d begun cur right ed, at_begun)

  out_is : out ≡ cell
  out_is = takes.out_is ∙ ap (λ k. let made_at : Cell = record { value = k; length = k; null = junction_null (k + 1) left.null right.null } in made_at) at_cur

  code : new.block.code.items ≡ start.block.code.items ++ steps_of block
  code =
      let at : new.block.code.items ≡ start.block.code.items ++ steps_of (seq ec.statement (conditional test (seq ed.statement (taken out.null out.value)) (last out.null out.value))) =
      chosen_steps start.block.code.items mid.block.code.items begun.block.code.items cur.block.code.items c4 c5 new.block.code.items (steps_of ec.statement) (expression_steps test) (steps_of ed.statement) (steps_of (taken out.null out.value)) (steps_of (last out.null out.value))
      ec.code_is begins.code_is ed.code_is (done ∙ ap (λ x. x ++ steps_of (taken out.null out.value)) takes.code_is) other (two c5 c6 new.block.code.items (steps_of (last out.null out.value)) (step.End ∷ []) skipped end) in
      subst (λ (o : Cell). new.block.code.items ≡ start.block.code.items ++ steps_of (seq ec.statement (conditional test (seq ed.statement (taken o.null o.value)) (last o.null o.value)))) out_is at

  pub junction_emits : (Decides known d (free_of start + length ec.own) right ed.statement ed.own → Decides known e (free_of start) cell block locals) → EmitsTruth known e start new out
  junction_emits decides = record {
    first_is = same ∙ takes.first_is ∙ ed.first_is ∙ begins.first_is ∙ ec.first_is;
    statement = block;
    own = locals;
    code_is = code;
    own_is = three start.own.items begun.own.items cur.own.items new.own.items ec.own ed.own (I32 ∷ I32 ∷ []) (begins.own_is ∙ ec.own_is) ed.own_is (own ∙ takes.own_is);
    decides = subst (λ (o : Cell). Decides known e (free_of start) o block locals) (sym out_is) (decides (subst (λ k. Decides known d k right ed.statement ed.own) at_begun ed.decides));
  }

pub both_emits : (known : List Known) (c d : Condition) (start mid begun cur made new : Emitter) (left right out : Cell) (c4 c5 c6 : List LowStep) → AreBelow (free_of start) known → EmitsTruth known c start mid left → Begins (may_hold left.value left.null) mid begun →
    EmitsTruth known d begun cur right → TakesCell left right cur made out → new.first ≡ made.first → new.own.items ≡ made.own.items →
    c4 ≡ made.block.code.items ++ steps_of (set_truth out.null out.value (and_truth left right) (and_unknown left right)) → c5 ≡ c4 ++ step.Else ∷ [] → c6 ≡ c5 ++ steps_of (set_truth out.null out.value (i32 0) (i32 0)) →
    new.block.code.items ≡ c6 ++ step.End ∷ [] → EmitsTruth known (both c d) start new out
both_emits known c d start mid begun cur made new left right out c4 c5 c6 low ec begins ed takes same own done other skipped end =
    junction_emits known c d (both c d) start mid begun cur new left right out (may_hold left.value left.null) ec begins ed
    (λ null m. set_truth null m (and_truth left right) (and_unknown left right)) (λ null m. set_truth null m (i32 0) (i32 0)) made takes c4 c5 c6 same own done other skipped end
    (λ dd. both_decides known (free_of start) low c d left right ec.statement ed.statement ec.own ed.own ec.decides dd)

pub either_emits : (known : List Known) (c d : Condition) (start mid begun cur made new : Emitter) (left right out : Cell) (c4 c5 c6 : List LowStep) → AreBelow (free_of start) known → EmitsTruth known c start mid left → Begins (is_zero I32 (local left.value)) mid begun →
    EmitsTruth known d begun cur right → TakesCell left right cur made out → new.first ≡ made.first → new.own.items ≡ made.own.items →
    c4 ≡ made.block.code.items ++ steps_of (set_truth out.null out.value (local right.value) (or_unknown left right)) → c5 ≡ c4 ++ step.Else ∷ [] → c6 ≡ c5 ++ steps_of (set_truth out.null out.value (i32 1) (i32 0)) →
    new.block.code.items ≡ c6 ++ step.End ∷ [] → EmitsTruth known (either c d) start new out
either_emits known c d start mid begun cur made new left right out c4 c5 c6 low ec begins ed takes same own done other skipped end =
    junction_emits known c d (either c d) start mid begun cur new left right out (is_zero I32 (local left.value)) ec begins ed
    (λ null m. set_truth null m (local right.value) (or_unknown left right)) (λ null m. set_truth null m (i32 1) (i32 0)) made takes c4 c5 c6 same own done other skipped end
    (λ dd. either_decides known (free_of start) low c d left right ec.statement ed.statement ec.own ed.own ec.decides dd)
