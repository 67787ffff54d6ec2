-- Conditions that are emitted.
use Rattle.std.proofs.Common.{◌≡◌, ℕ, ℤ, ◌+◌, List, [], ◌∷◌, ◌++◌, length, length-append, IsTrue, Ordering, Option, Some, None, refl, sym, ap, ◌∙◌, subst, arith}
use Rattle.qw_types.specs.Arithmetic.{order_of}
use Rattle.qw_scalar.specs.declared.comparison.Comparison.{Comparison}
use Rattle.qw_scalar.specs.Expression.{Expression, Condition, comparison, negation_of, is, scale_of}
use Rattle.qw_scalar.specs.Typing.{AreTyped, is_date, is_number, kind_of}
use Rattle.qw_module.specs.declared.instruction.ValType.{ValType}
use Rattle.qw_module.specs.declared.instruction.ValType.TheVariants.{I32, I64}
use Rattle.qw_low.specs.declared.cell.Cell.{Cell}
use Rattle.qw_low.specs.declared.step.LowStep.{LowStep}
use Rattle.qw_low.specs.Syntax.{Statement, seq, assign}
use Rattle.qw_low.specs.Steps.{steps_of}
use Rattle.qw_low.proofs.Appended.{two, three, four}
use Rattle.qw_wide.specs.Numbers.{Tests}
use Rattle.qw_expr.specs.declared.emitter.Emitter.{Emitter}
use Rattle.qw_expr.specs.declared.operand.Operand.{Operand}
use Rattle.qw_expr.specs.Computes.{Known, AreBelow, Computes, Decides}
use Rattle.qw_expr.specs.Emits.{Emits, EmitsTruth, free_of}
use Rattle.qw_expr.specs.Inner.Nulls.{join_block, joined_null, after_unless}
use Rattle.qw_expr.specs.Inner.Truths.{zero_if_null, before_zero, is_false, AddsTest}
use Rattle.qw_expr.specs.Inner.Operated.{AddsComparison}
use Rattle.qw_expr.proofs.Emitted.{nil, free_after}
use Rattle.qw_types.specs.declared.truth.Truth.TheVariants.{True, False}
use Rattle.qw_expr.proofs.Connectives.{negation_decides, is_false_decides, is_true_decides}
use Rattle.qw_expr.proofs.Decisions.{numbers_decide, dates_decide}

pub zero_steps : (null : Option ℕ) (t : ℕ) (body : Statement) → before_zero null t ++ (steps_of body ++ after_unless null) ≡ steps_of (zero_if_null null t body)
zero_steps None t body = nil (steps_of body)
zero_steps (Some n) t body = refl

-- what the code of a comparison does to an emitter
pub compared_adds : (operator : Comparison) (order : ℤ → ℤ → Ordering) (x mx y my : ℕ) (left right : Option ℕ) (old new : Emitter) (out : Cell) (c2 c3 c4 : List LowStep) (p t n : ℕ) (null : Option ℕ) (f : Statement) → new.first ≡ old.first →
    new.own.items ≡ old.own.items ++ I32 ∷ I32 ∷ I64 ∷ [] → p ≡ free_of old → t ≡ free_of old + 1 → n ≡ free_of old + 2 → null ≡ joined_null p left right → c2 ≡ old.block.code.items ++ steps_of (join_block p left right) →
    c3 ≡ c2 ++ before_zero null t → c4 ≡ c3 ++ steps_of f → new.block.code.items ≡ c4 ++ after_unless null → Tests operator order x mx y my n t f →
    out ≡ record { value = t; length = t; null = null } → AddsComparison operator order x mx y my left right old new out
compared_adds operator order x mx y my left right old new out c2 c3 c4 p t n null f first own p_is t_is n_is null_is code2 code3 code4 code5 tests out_is =
    let m : ℕ = free_of old in
    let J : Option ℕ = joined_null m left right in
    let null_at : null ≡ J = null_is ∙ ap (λ k. joined_null k left right) p_is in
    let all : new.block.code.items ≡ old.block.code.items ++ (steps_of (join_block p left right) ++ (before_zero null t ++ (steps_of f ++ after_unless null))) =
    four old.block.code.items c2 c3 c4 new.block.code.items (steps_of (join_block p left right)) (before_zero null t) (steps_of f) (after_unless null) code2 code3 code4 code5 in
    let whole : new.block.code.items ≡ old.block.code.items ++ steps_of (seq (join_block p left right) (zero_if_null null t f)) =
    all ∙ ap (λ c. old.block.code.items ++ (steps_of (join_block p left right) ++ c)) (zero_steps null t f) in
    let at_p = subst (λ k. new.block.code.items ≡ old.block.code.items ++ steps_of (seq (join_block k left right) (zero_if_null null t f))) p_is whole in
    let at_null = subst (λ (k : Option ℕ). new.block.code.items ≡ old.block.code.items ++ steps_of (seq (join_block m left right) (zero_if_null k t f))) null_at at_p in
    record {
      first_is = first;
      own_is = own;
      f = f;
      code_is = subst (λ k. new.block.code.items ≡ old.block.code.items ++ steps_of (seq (join_block m left right) (zero_if_null J k f))) t_is at_null;
      tests = subst (λ k. Tests operator order x mx y my (m + 2) k f) t_is (subst (λ k. Tests operator order x mx y my k t f) n_is tests);
      out_is = out_is ∙ ap (λ k. let c : Cell = record { value = k; length = k; null = null } in c) t_is ∙ ap (λ (k : Option ℕ). let c : Cell = record { value = m + 1; length = m + 1; null = k } in c) null_at;
    }

-- what is emitted of two expressions, which were emitted one after the other
pub pair_emits : (known : List Known) (c : Condition) (a b : Expression) (start mid old new : Emitter) (left right : Operand) (out : Cell) (ea : Emits known a start mid left) (eb : Emits known b mid old right) (tail : ℕ → Statement) (mine : List ValType) (cell : ℕ → Cell) →
    new.first ≡ old.first → new.own.items ≡ old.own.items ++ mine → new.block.code.items ≡ old.block.code.items ++ steps_of (tail (free_of old)) → out ≡ cell (free_of old) →
    (Computes known b (free_of start + length ea.own) right eb.statement eb.own → free_of old ≡ free_of start + length ea.own + length eb.own →
    Decides known c (free_of start) (cell (free_of start + length ea.own + length eb.own)) (seq ea.statement (seq eb.statement (tail (free_of start + length ea.own + length eb.own)))) (ea.own ++ (eb.own ++ mine))) → EmitsTruth known c start new out
pair_emits known c a b start mid old new left right out ea eb tail mine cell first_is own_is code_is out_is decides =
    let m : ℕ = free_of start + length ea.own + length eb.own in
    let at_mid : free_of mid ≡ free_of start + length ea.own = free_after known a start mid left ea in
    let at_old : free_of old ≡ m = free_after known b mid old right eb ∙ ap (λ k. k + length eb.own) at_mid in
    let code : new.block.code.items ≡ old.block.code.items ++ steps_of (tail m) = subst (λ k. new.block.code.items ≡ old.block.code.items ++ steps_of (tail k)) at_old code_is in
    record {
      first_is = first_is ∙ eb.first_is ∙ ea.first_is;
      statement = seq ea.statement (seq eb.statement (tail m));
      own = ea.own ++ (eb.own ++ mine);
      code_is = three start.block.code.items mid.block.code.items old.block.code.items new.block.code.items (steps_of ea.statement) (steps_of eb.statement) (steps_of (tail m)) ea.code_is eb.code_is code;
      own_is = three start.own.items mid.own.items old.own.items new.own.items ea.own eb.own mine ea.own_is eb.own_is own_is;
      decides = subst (λ (o : Cell). Decides known c (free_of start) o (seq ea.statement (seq eb.statement (tail m))) (ea.own ++ (eb.own ++ mine))) (ap cell (sym at_old) ∙ sym out_is) (decides (subst (λ k. Computes known b k right eb.statement eb.own) at_mid eb.computes) at_old);
    }

-- two expressions and a test of them
module _ (known : List Known) (operator : Comparison) (order : ℤ → ℤ → Ordering) (mx my : ℕ) (a b : Expression) (start mid old new : Emitter) (left right : Operand) (out : Cell) (ea : Emits known a start mid left) (eb : Emits known b mid old right)
    (adds : AddsComparison operator order left.cell.value mx right.cell.value my left.cell.null right.cell.null old new out) where
  abbrev m : ℕ
  m = free_of start + length ea.own + length eb.own

  abbrev tail : ℕ → Statement
  tail k = seq (join_block k left.cell.null right.cell.null) (zero_if_null (joined_null k left.cell.null right.cell.null) (k + 1) adds.f)

  abbrev own : List ValType
  own = ea.own ++ (eb.own ++ (I32 ∷ I32 ∷ I64 ∷ []))

  pub comparison_emits : (Computes known b (free_of start + length ea.own) right eb.statement eb.own → Tests operator order left.cell.value mx right.cell.value my (m + 2) (m + 1) adds.f →
      Decides known (comparison operator a b) (free_of start) (record { value = m + 1; length = m + 1; null = joined_null m left.cell.null right.cell.null }) (seq ea.statement (seq eb.statement (tail m))) own) →
      EmitsTruth known (comparison operator a b) start new out
  comparison_emits decides =
      pair_emits known (comparison operator a b) a b start mid old new left right out ea eb tail (I32 ∷ I32 ∷ I64 ∷ []) (λ k. record { value = k + 1; length = k + 1; null = joined_null k left.cell.null right.cell.null }) adds.first_is adds.own_is adds.code_is adds.out_is
      (λ cb at. decides cb (subst (λ k. Tests operator order left.cell.value mx right.cell.value my (k + 2) (k + 1) adds.f) at adds.tests))

pub numbers_emit : (known : List Known) (operator : Comparison) (a b : Expression) (start mid old new : Emitter) (left right : Operand) (out : Cell) → AreTyped (comparison operator a b) → IsTrue (is_number (kind_of a)) → IsTrue (is_number (kind_of b)) →
    AreBelow (free_of start) known → Emits known a start mid left → Emits known b mid old right →
    AddsComparison operator (λ v w. order_of v left.scale w right.scale) left.cell.value left.most right.cell.value right.most left.cell.null right.cell.null old new out → EmitsTruth known (comparison operator a b) start new out
numbers_emit known operator a b start mid old new left right out typed na nb low ea eb adds =
    comparison_emits known operator (λ v w. order_of v left.scale w right.scale) left.most right.most a b start mid old new left right out ea eb adds
    (λ cb tests. numbers_decide known (free_of start) low operator a b left right ea.statement eb.statement adds.f ea.own eb.own typed na nb ea.computes cb
    (subst (λ k. Tests operator (λ v w. order_of v (scale_of a) w k) left.cell.value left.most right.cell.value right.most (free_of start + length ea.own + length eb.own + 2) (free_of start + length ea.own + length eb.own + 1) adds.f) eb.computes.scale_is
    (subst (λ k. Tests operator (λ v w. order_of v k w right.scale) left.cell.value left.most right.cell.value right.most (free_of start + length ea.own + length eb.own + 2) (free_of start + length ea.own + length eb.own + 1) adds.f) ea.computes.scale_is tests)))

pub dates_emit : (known : List Known) (operator : Comparison) (a b : Expression) (start mid old new : Emitter) (left right : Operand) (out : Cell) → AreTyped (comparison operator a b) → IsTrue (is_date (kind_of a)) → IsTrue (is_date (kind_of b)) →
    AreBelow (free_of start) known → Emits known a start mid left → Emits known b mid old right →
    AddsComparison operator (λ v w. order_of v 0 w 0) left.cell.value 99991231 right.cell.value 99991231 left.cell.null right.cell.null old new out → EmitsTruth known (comparison operator a b) start new out
dates_emit known operator a b start mid old new left right out typed da db low ea eb adds =
    comparison_emits known operator (λ v w. order_of v 0 w 0) 99991231 99991231 a b start mid old new left right out ea eb adds
    (λ cb tests. dates_decide known (free_of start) low operator a b left right ea.statement eb.statement adds.f ea.own eb.own typed da db ea.computes cb tests)

-- ---- conditions of one condition
pub truth_after : (known : List Known) (c : Condition) (old new : Emitter) (out : Cell) (h : EmitsTruth known c old new out) → free_of new ≡ free_of old + length h.own
truth_after known c old new out h =
    let long : length new.own.items ≡ length old.own.items + length h.own = ap length h.own_is ∙ length-append old.own.items h.own in
    omega (arith, h.first_is, long)

-- a test of a condition's truth, in a local of its own
tested_emits : (known : List Known) (c d : Condition) (start old new : Emitter) (cell : Cell) (null : Option ℕ) (t : ℕ) (ec : EmitsTruth known c start old cell) → AddsTest (is_false cell.value cell.null) old new t →
    Decides known d (free_of start) (record { value = free_of start + length ec.own; length = free_of start + length ec.own; null = null }) (seq ec.statement (assign (free_of start + length ec.own) (is_false cell.value cell.null))) (ec.own ++ I32 ∷ []) →
    EmitsTruth known d start new (record { value = t; length = t; null = null })
tested_emits known c d start old new cell null t ec adds decides =
    let m : ℕ = free_of start + length ec.own in
    let place : t ≡ m = adds.local_is ∙ truth_after known c start old cell ec in
    let e = is_false cell.value cell.null in
    record {
      first_is = adds.first_is ∙ ec.first_is;
      statement = seq ec.statement (assign m e);
      own = ec.own ++ I32 ∷ [];
      code_is = two start.block.code.items old.block.code.items new.block.code.items (steps_of ec.statement) (steps_of (assign m e)) ec.code_is
          (subst (λ k. new.block.code.items ≡ old.block.code.items ++ steps_of (assign k e)) place adds.code_is);
      own_is = two start.own.items old.own.items new.own.items ec.own (I32 ∷ []) ec.own_is adds.own_is;
      decides = subst (λ k. Decides known d (free_of start) (record { value = k; length = k; null = null }) (seq ec.statement (assign m e)) (ec.own ++ I32 ∷ [])) (sym place) decides;
    }

pub negation_emits : (known : List Known) (c : Condition) (start old new : Emitter) (cell : Cell) (t : ℕ) → EmitsTruth known c start old cell → AddsTest (is_false cell.value cell.null) old new t →
    EmitsTruth known (negation_of c) start new (record { value = t; length = t; null = cell.null })
negation_emits known c start old new cell t ec adds = tested_emits known c (negation_of c) start old new cell cell.null t ec adds (negation_decides known (free_of start) c cell ec.statement ec.own ec.decides)

pub is_false_emits : (known : List Known) (c : Condition) (start old new : Emitter) (cell : Cell) (t : ℕ) → EmitsTruth known c start old cell → AddsTest (is_false cell.value cell.null) old new t →
    EmitsTruth known (is c False) start new (record { value = t; length = t; null = None })
is_false_emits known c start old new cell t ec adds = tested_emits known c (is c False) start old new cell None t ec adds (is_false_decides known (free_of start) c cell ec.statement ec.own ec.decides)

pub is_true_emits : (known : List Known) (c : Condition) (start now : Emitter) (cell : Cell) → EmitsTruth known c start now cell → EmitsTruth known (is c True) start now (record { value = cell.value; length = cell.value; null = None })
is_true_emits known c start now cell ec = record {
  first_is = ec.first_is;
  statement = ec.statement;
  own = ec.own;
  code_is = ec.code_is;
  own_is = ec.own_is;
  decides = is_true_decides known (free_of start) c cell ec.statement ec.own ec.decides;
}
