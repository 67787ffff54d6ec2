-- Expressions that are emitted one after another.
use Rattle.std.proofs.Common.{◌≡◌, ℕ, ℤ, neg_ℤ, ◌+◌, List, [], ◌∷◌, ◌++◌, length, length-append, IsTrue, Option, Some, None, Result, Ok, refl, sym, ap, ◌∙◌, subst, arith}
use Rattle.qw_types.specs.Arithmetic.{bring}
use Rattle.qw_types.specs.declared.code.Code.{Code}
use Rattle.qw_scalar.specs.declared.expression.Operator.{Operator}
use Rattle.qw_scalar.specs.Evaluation.{applied}
use Rattle.qw_scalar.specs.Expression.{Expression, arithmetic, negative, brought, scale_of, scale_after}
use Rattle.qw_scalar.specs.Typing.{IsTyped, is_number, kind_of}
use Rattle.qw_module.specs.declared.instruction.ValType.{ValType}
use Rattle.qw_module.specs.declared.instruction.ValType.TheVariants.{I32, I64}
use Rattle.qw_low.specs.declared.step.LowStep.{LowStep}
use Rattle.qw_low.specs.Syntax.{Statement, seq}
use Rattle.qw_low.specs.Steps.{steps_of}
use Rattle.qw_low.proofs.Appended.{two, three, four}
use Rattle.qw_wide.specs.Numbers.{Operates, Converts}
use Rattle.qw_wide.specs.declared.arithmetic.Scaled.{Scaled}
use Rattle.qw_expr.specs.declared.emitter.Emitter.{Emitter}
use Rattle.qw_expr.specs.declared.operand.Operand.{Operand}
use Rattle.qw_expr.specs.Computes.{Known, AreBelow, Computes}
use Rattle.qw_expr.specs.Emits.{Emits, free_of}
use Rattle.qw_expr.specs.Inner.Nulls.{join_block, joined_null, unless_null, before_unless, after_unless}
use Rattle.qw_expr.specs.Inner.Operated.{number_at, Operated, Converted, AddsOperator, AddsOperation}
use Rattle.qw_expr.proofs.Binary.{arithmetic_computes}
use Rattle.qw_expr.proofs.Unary.{negative_computes, brought_computes}

pub nil : {A : Type 0} (xs : List A) → xs ++ [] ≡ xs
nil [] = refl
nil (x ∷ xs) = ap (λ ys. x ∷ ys) (nil xs)

pub unless_steps : (null : Option ℕ) (f : Statement) → before_unless null ++ (steps_of f ++ after_unless null) ≡ steps_of (unless_null null f)
unless_steps None f = nil (steps_of f)
unless_steps (Some n) f = refl

-- the next local after more of its own
pub free_after : (known : List Known) (e : Expression) (old new : Emitter) (out : Operand) (h : Emits known e old new out) → free_of new ≡ free_of old + length h.own
free_after known e old new out h =
    let long : length new.own.items ≡ length old.own.items + length h.own = ap length h.own_is ∙ length-append old.own.items h.own in
    omega (arith, h.first_is, long)

pub operated_emits : (known : List Known) (operator : Operator) (a b : Expression) (start mid old new : Emitter) (left right out : Operand) (code : List LowStep) (made : Scaled) → IsTyped (arithmetic operator a b) → AreBelow (free_of start) known →
    Emits known a start mid left → Emits known b mid old right → new.first ≡ old.first → new.own.items ≡ old.own.items ++ I32 ∷ I64 ∷ I64 ∷ [] → new.block.code.items ≡ old.block.code.items ++ code →
    Operated operator left.scale right.scale (free_of old) left right out code made → Emits known (arithmetic operator a b) start new out
operated_emits known operator a b start mid old new left right out code made typed low ea eb first_is own_is code_is done =
    let at_mid : free_of mid ≡ free_of start + length ea.own = free_after known a start mid left ea in
    let at_old : free_of old ≡ free_of start + length ea.own + length eb.own = free_after known b mid old right eb ∙ ap (λ k. k + length eb.own) at_mid in
    let cb : Computes known b (free_of start + length ea.own) right eb.statement eb.own = subst (λ k. Computes known b k right eb.statement eb.own) at_mid eb.computes in
    let one : Operated operator (scale_of a) right.scale (free_of old) left right out code made = subst (λ k. Operated operator k right.scale (free_of old) left right out code made) ea.computes.scale_is done in
    let both : Operated operator (scale_of a) (scale_of b) (free_of old) left right out code made = subst (λ k. Operated operator (scale_of a) k (free_of old) left right out code made) eb.computes.scale_is one in
    let all : Operated operator (scale_of a) (scale_of b) (free_of start + length ea.own + length eb.own) left right out code made =
    subst (λ k. Operated operator (scale_of a) (scale_of b) k left right out code made) at_old both in
    let m : ℕ = free_of start + length ea.own + length eb.own in
    let null : Option ℕ = joined_null m left.cell.null right.cell.null in
    record {
      first_is = first_is ∙ eb.first_is ∙ ea.first_is;
      statement = seq ea.statement (seq eb.statement (seq (join_block m left.cell.null right.cell.null) (unless_null null all.f)));
      own = ea.own ++ (eb.own ++ (I32 ∷ I64 ∷ I64 ∷ []));
      code_is = three start.block.code.items mid.block.code.items old.block.code.items new.block.code.items (steps_of ea.statement) (steps_of eb.statement)
          (steps_of (seq (join_block m left.cell.null right.cell.null) (unless_null null all.f))) ea.code_is eb.code_is
          (code_is ∙ ap (λ c. old.block.code.items ++ c) (all.code_is ∙ ap (λ c. steps_of (join_block m left.cell.null right.cell.null) ++ c) (unless_steps null all.f)));
      own_is = three start.own.items mid.own.items old.own.items new.own.items ea.own eb.own (I32 ∷ I64 ∷ I64 ∷ []) ea.own_is eb.own_is own_is;
      computes = subst (λ (o : Operand). Computes known (arithmetic operator a b) (free_of start) o (seq ea.statement (seq eb.statement (seq (join_block m left.cell.null right.cell.null) (unless_null null all.f)))) (ea.own ++ (eb.own ++ (I32 ∷ I64 ∷ I64 ∷ []))))
          (sym all.out_is)
          (arithmetic_computes known (free_of start) low operator a b typed left right ea.statement eb.statement ea.own eb.own ea.computes cb all.f made.local made.most all.operates (omega (arith, all.operates.place)));
    }

-- an operation on one number
module _ (known : List Known) (e a : Expression) (operation : ℤ → Result ℤ Code) (scale : ℕ) (start old new : Emitter) (operand out : Operand) (code : List LowStep) (made : Scaled) (ea : Emits known a start old operand)
    (computes : (f : Statement) → Converts operation operand.cell.value operand.most (free_of start + length ea.own) made.local made.most f →
    Computes known e (free_of start) (number_at made.local operand.cell.null scale made.most) (seq ea.statement (unless_null operand.cell.null f)) (ea.own ++ I64 ∷ [])) where
  pub converted_emits : new.first ≡ old.first → new.own.items ≡ old.own.items ++ I64 ∷ [] → new.block.code.items ≡ old.block.code.items ++ code →
      Converted operation scale (free_of old) operand out code made → Emits known e start new out
  converted_emits first_is own_is code_is done =
      let at_old : free_of old ≡ free_of start + length ea.own = free_after known a start old operand ea in
      let all : Converted operation scale (free_of start + length ea.own) operand out code made = subst (λ k. Converted operation scale k operand out code made) at_old done in
      record {
        first_is = first_is ∙ ea.first_is;
        statement = seq ea.statement (unless_null operand.cell.null all.f);
        own = ea.own ++ I64 ∷ [];
        code_is = two start.block.code.items old.block.code.items new.block.code.items (steps_of ea.statement) (steps_of (unless_null operand.cell.null all.f)) ea.code_is
            (code_is ∙ ap (λ c. old.block.code.items ++ c) (all.code_is ∙ unless_steps operand.cell.null all.f));
        own_is = two start.own.items old.own.items new.own.items ea.own (I64 ∷ []) ea.own_is own_is;
        computes = subst (λ (o : Operand). Computes known e (free_of start) o (seq ea.statement (unless_null operand.cell.null all.f)) (ea.own ++ I64 ∷ [])) (sym all.out_is) (computes all.f all.converts);
      }

-- ---- what the code does to an emitter
pub onto : {A : Type 0} (c0 c1 c2 x : List A) → c1 ≡ c0 → c2 ≡ c1 ++ x → c2 ≡ c0 ++ x
onto c0 c1 c2 x same more = more ∙ ap (λ c. c ++ x) same

pub next_local : (old mid : Emitter) (ty : ValType) (x : ℕ) → x ≡ free_of mid → mid.own.items ≡ old.own.items ++ ty ∷ [] → mid.first ≡ old.first → x ≡ free_of old + 1
next_local old mid ty x is own first =
    let long : length mid.own.items ≡ length old.own.items + 1 = ap length own ∙ length-append old.own.items (ty ∷ []) in
    omega (arith, is, long, first)

pub after_two : (old mid more : Emitter) (ty other : ValType) (x : ℕ) → x ≡ free_of more → mid.own.items ≡ old.own.items ++ ty ∷ [] → more.own.items ≡ mid.own.items ++ other ∷ [] → mid.first ≡ old.first → more.first ≡ mid.first → x ≡ free_of old + 2
after_two old mid more ty other x is own own_more first first_more =
    let long : length mid.own.items ≡ length old.own.items + 1 = ap length own ∙ length-append old.own.items (ty ∷ []) in
    let longer : length more.own.items ≡ length mid.own.items + 1 = ap length own_more ∙ length-append mid.own.items (other ∷ []) in
    omega (arith, is, long, longer, first, first_more)

pub operated_adds : (operator : Operator) (left right out : Operand) (old new : Emitter) (c2 c3 c4 : List LowStep) (p free : ℕ) (null : Option ℕ) (f : Statement) (made : Scaled) → new.first ≡ old.first →
    new.own.items ≡ old.own.items ++ I32 ∷ I64 ∷ I64 ∷ [] → p ≡ free_of old → free ≡ free_of old + 1 → null ≡ joined_null p left.cell.null right.cell.null →
    c2 ≡ old.block.code.items ++ steps_of (join_block p left.cell.null right.cell.null) → c3 ≡ c2 ++ before_unless null → c4 ≡ c3 ++ steps_of f → new.block.code.items ≡ c4 ++ after_unless null →
    Operates (λ v w. applied operator v left.scale w right.scale) left.cell.value left.most right.cell.value right.most free made.local made.most f → out ≡ number_at made.local null made.scale made.most →
    made.scale ≡ scale_after operator left.scale right.scale → AddsOperator operator left right old new out
operated_adds operator left right out old new c2 c3 c4 p free null f made first own p_is free_is null_is code2 code3 code4 code5 operates out_is scale_is =
    let m : ℕ = free_of old in
    let null_at : null ≡ joined_null m left.cell.null right.cell.null = null_is ∙ ap (λ k. joined_null k left.cell.null right.cell.null) p_is in
    let all : new.block.code.items ≡ old.block.code.items ++ (steps_of (join_block p left.cell.null right.cell.null) ++ (before_unless null ++ (steps_of f ++ after_unless null))) =
    four old.block.code.items c2 c3 c4 new.block.code.items (steps_of (join_block p left.cell.null right.cell.null)) (before_unless null) (steps_of f) (after_unless null) code2 code3 code4 code5 in
    let placed = subst (λ k. new.block.code.items ≡ old.block.code.items ++ (steps_of (join_block k left.cell.null right.cell.null) ++ (before_unless null ++ (steps_of f ++ after_unless null)))) p_is all in
    record {
      first_is = first;
      own_is = own;
      code = steps_of (join_block m left.cell.null right.cell.null) ++ (before_unless (joined_null m left.cell.null right.cell.null) ++ (steps_of f ++ after_unless (joined_null m left.cell.null right.cell.null)));
      made = made;
      code_is = subst (λ (k : Option ℕ). new.block.code.items ≡ old.block.code.items ++ (steps_of (join_block m left.cell.null right.cell.null) ++ (before_unless k ++ (steps_of f ++ after_unless k)))) null_at placed;
      operated = record {
        f = f;
        code_is = refl;
        operates = subst (λ k. Operates (λ v w. applied operator v left.scale w right.scale) left.cell.value left.most right.cell.value right.most k made.local made.most f) free_is operates;
        out_is = out_is ∙ ap (λ (k : Option ℕ). number_at made.local k made.scale made.most) null_at ∙ ap (λ k. number_at made.local (joined_null m left.cell.null right.cell.null) k made.most) scale_is;
      };
    }

pub converted_adds : (operation : ℤ → Result ℤ Code) (scale : ℕ) (operand out : Operand) (old new : Emitter) (c2 c3 : List LowStep) (free : ℕ) (f : Statement) (made : Scaled) → new.first ≡ old.first →
    new.own.items ≡ old.own.items ++ I64 ∷ [] → free ≡ free_of old → c2 ≡ old.block.code.items ++ before_unless operand.cell.null → c3 ≡ c2 ++ steps_of f → new.block.code.items ≡ c3 ++ after_unless operand.cell.null →
    Converts operation operand.cell.value operand.most free made.local made.most f → out ≡ number_at made.local operand.cell.null made.scale made.most → made.scale ≡ scale → AddsOperation operation scale operand old new out
converted_adds operation scale operand out old new c2 c3 free f made first own free_is code2 code3 code4 converts out_is scale_is = record {
  first_is = first;
  own_is = own;
  code = before_unless operand.cell.null ++ (steps_of f ++ after_unless operand.cell.null);
  made = made;
  code_is = three old.block.code.items c2 c3 new.block.code.items (before_unless operand.cell.null) (steps_of f) (after_unless operand.cell.null) code2 code3 code4;
  converted = record {
    f = f;
    code_is = refl;
    converts = subst (λ k. Converts operation operand.cell.value operand.most k made.local made.most f) free_is converts;
    out_is = out_is ∙ ap (λ k. number_at made.local operand.cell.null k made.most) scale_is;
  };
}

pub negative_emits : (known : List Known) (a : Expression) (start old new : Emitter) (operand out : Operand) → IsTyped (negative a) → AreBelow (free_of start) known → Emits known a start old operand →
    AddsOperation (λ v. Ok (neg_ℤ v)) operand.scale operand old new out → Emits known (negative a) start new out
negative_emits known a start old new operand out typed low ea adds =
    converted_emits known (negative a) a (λ v. Ok (neg_ℤ v)) operand.scale start old new operand out adds.code adds.made ea
    (λ f converts. subst (λ k. Computes known (negative a) (free_of start) (number_at adds.made.local operand.cell.null k adds.made.most) (seq ea.statement (unless_null operand.cell.null f)) (ea.own ++ I64 ∷ [])) (sym ea.computes.scale_is)
    (negative_computes known (free_of start) low a operand ea.statement f ea.own adds.made.local adds.made.most typed ea.computes converts))
    adds.first_is adds.own_is adds.code_is adds.converted

pub brought_emits : (known : List Known) (a : Expression) (scale : ℕ) (start old new : Emitter) (operand out : Operand) → IsTyped (brought a scale) → IsTrue (is_number (kind_of a)) → AreBelow (free_of start) known → Emits known a start old operand →
    AddsOperation (λ v. bring v operand.scale scale) scale operand old new out → Emits known (brought a scale) start new out
brought_emits known a scale start old new operand out typed numeric low ea adds =
    converted_emits known (brought a scale) a (λ v. bring v operand.scale scale) scale start old new operand out adds.code adds.made ea
    (λ f converts. brought_computes known (free_of start) low a scale operand ea.statement f ea.own adds.made.local adds.made.most typed numeric ea.computes
    (subst (λ k. Converts (λ v. bring v k scale) operand.cell.value operand.most (free_of start + length ea.own) adds.made.local adds.made.most f) ea.computes.scale_is converts))
    adds.first_is adds.own_is adds.code_is adds.converted
