-- Fields of dates, what stays at every scale, and the null value.
use Rattle.std.proofs.Common.{◌≡◌, ℕ, ◌+◌, List, [], ◌∷◌, ◌++◌, length, Option, Some, None, Result, Ok, Err, false, refl, sym, ap, ◌∙◌, subst, arith}
use Rattle.qw_types.specs.Arithmetic.{◌>>=◌}
use Rattle.qw_types.specs.declared.code.Code.{Code}
use Rattle.qw_types.specs.declared.kind.Kind.{Kind}
use Rattle.qw_types.specs.declared.kind.Kind.TheVariants as kind
use Rattle.qw_types.specs.declared.value.Val.{Val}
use Rattle.qw_types.specs.declared.value.Val.TheVariants as val
use Rattle.qw_scalar.specs.declared.expression.Field.{Field}
use Rattle.qw_scalar.specs.Evaluation.{raised, value_of, at_row}
use Rattle.qw_scalar.specs.Expression.{Expression, null, extract, brought, scale_of}
use Rattle.qw_scalar.specs.Typing.{IsTyped, IsValueOf, at_scale, is_number, kind_of}
use Rattle.qw_scalar.proofs.TypingLemmas.{typed_value}
use Rattle.qw_map.proofs.TurnFacts.{slice_get-set_same}
use Rattle.qw_module.specs.declared.instruction.ValType.TheVariants.{I32, I64}
use Rattle.qw_low.specs.Syntax.{Statement, seq, assign}
use Rattle.qw_low.specs.State.{Number, LowState}
use Rattle.qw_low.specs.Raising.{Kept}
use Rattle.qw_low.specs.Steps.{steps_of}
use Rattle.qw_low.proofs.Appended.{two}
use Rattle.qw_low.proofs.Results.{Kept-one, Comes, comes_assign}
use Rattle.qw_expr.specs.declared.emitter.Emitter.{Emitter}
use Rattle.qw_expr.specs.declared.operand.Operand.{Operand}
use Rattle.qw_expr.specs.Cells.{Holds}
use Rattle.qw_expr.specs.Computes.{Known, AreBelow, Computes}
use Rattle.qw_expr.specs.Emits.{Emits, free_of}
use Rattle.qw_expr.specs.Inner.Nulls.{unless_null}
use Rattle.qw_expr.specs.Inner.Fields.{field_block}
use Rattle.qw_expr.specs.Inner.Operated.{number_at}
use Rattle.qw_expr.specs.Inner.Truths.{i32, AddsTest}
use Rattle.qw_expr.specs.Inner.Literals.{AddsField, limit_of}
use Rattle.qw_expr.proofs.Binary.{if_ok_is, first_declared}
use Rattle.qw_expr.proofs.Unary.{extract_computes}
use Rattle.qw_expr.proofs.Emitted.{free_after}

-- ---- fields
pub field_emits : (known : List Known) (field : Field) (a : Expression) (start old new : Emitter) (operand out : Operand) → IsTyped (extract field a) → AreBelow (free_of start) known → Emits known a start old operand → AddsField field operand old new out →
    Emits known (extract field a) start new out
field_emits known field a start old new operand out typed low ea adds =
    let m : ℕ = free_of start + length ea.own in
    let at_old : free_of old ≡ m = free_after known a start old operand ea in
    let block : Statement = unless_null operand.cell.null (field_block field m operand.cell.value) in
    record {
      first_is = adds.first_is ∙ ea.first_is;
      statement = seq ea.statement block;
      own = ea.own ++ I64 ∷ [];
      code_is = two start.block.code.items old.block.code.items new.block.code.items (steps_of ea.statement) (steps_of block) ea.code_is
          (subst (λ k. new.block.code.items ≡ old.block.code.items ++ steps_of (unless_null operand.cell.null (field_block field k operand.cell.value))) at_old adds.code_is);
      own_is = two start.own.items old.own.items new.own.items ea.own (I64 ∷ []) ea.own_is adds.own_is;
      computes = subst (λ (o : Operand). Computes known (extract field a) (free_of start) o (seq ea.statement block) (ea.own ++ I64 ∷ [])) (ap (λ k. number_at k operand.cell.null 0 (limit_of field)) (sym at_old) ∙ sym adds.out_is)
          (extract_computes known (free_of start) low field a operand ea.statement ea.own typed ea.computes);
    }

-- ---- what is no number is of every scale
same_kind : (k : Option Kind) (s : ℕ) → is_number k ≡ false → k ≡ at_scale k s
same_kind None s other = refl
same_kind (Some (kind.Number t)) s other = absurd cc
same_kind (Some kind.Date) s other = refl
same_kind (Some kind.Text) s other = refl

raised_same : (k : Option Kind) (v : Val) (from to : ℕ) → is_number k ≡ false → IsValueOf k v → raised v from to ≡ Ok v
raised_same k val.Null from to other of = refl
raised_same None (val.Num n) from to other of = absurd cc
raised_same (Some (kind.Number t)) (val.Num n) from to other of = absurd cc
raised_same (Some kind.Date) (val.Num n) from to other of = absurd of
raised_same (Some kind.Text) (val.Num n) from to other of = absurd of
raised_same k (val.Date d) from to other of = refl
raised_same k (val.Text t) from to other of = refl

comes_same : {A : Type 0} (pages fuel more : ℕ) (P : A → LowState → Type 0) (r : Result A Code) (g : A → Result A Code) (a : Statement) (s : LowState) → ((v : A) → r ≡ Ok v → g v ≡ Ok v) → Comes pages fuel more P r a s →
    Comes pages fuel more P (r >>= g) a s
comes_same pages fuel more P (Ok v) g a s same h = rw (same v refl) h
comes_same pages fuel more P (Err code) g a s same h = h

pub unscaled_emits : (known : List Known) (a : Expression) (scale : ℕ) (start old : Emitter) (operand : Operand) → IsTyped (brought a scale) → is_number operand.kind ≡ false → Emits known a start old operand →
    Emits known (brought a scale) start old (record { cell = operand.cell; kind = operand.kind; scale = scale; most = operand.most })
unscaled_emits known a scale start old operand typed other ea =
    let none : is_number (kind_of a) ≡ false = ap is_number (sym ea.computes.kind_is) ∙ other in
    record {
      first_is = ea.first_is;
      statement = ea.statement;
      own = ea.own;
      code_is = ea.code_is;
      own_is = ea.own_is;
      computes = record {
        kind_is = ea.computes.kind_is ∙ same_kind (kind_of a) scale none;
        scale_is = refl;
        below = ea.computes.below;
        runs = λ pages fuel more row s enough within held has room.
            comes_same pages fuel more (λ v t. Kept (free_of start) s t × Holds operand v t) (value_of a (at_row row)) (λ v. raised v (scale_of a) scale) ea.statement s
            (λ v is_v. raised_same (kind_of a) v (scale_of a) scale none (if_ok_is (IsValueOf (kind_of a)) (value_of a (at_row row)) v is_v (typed_value a row typed.0 has)))
            (ea.computes.runs pages fuel more row s enough within held has room);
        typed = ea.computes.typed;
      };
    }

-- ---- the null value
abbrev pub null_at : ℕ → Operand
null_at n = record { cell = record { value = n; length = n; null = Some n }; kind = None; scale = 0; most = 0 }

null_computes : (known : List Known) (next : ℕ) → Computes known null next (null_at next) (assign next (i32 1)) (I32 ∷ [])
null_computes known next = record {
  kind_is = refl;
  scale_is = refl;
  below = (omega arith, omega arith, omega arith);
  runs = λ pages fuel more row s enough within held has room.
      comes_assign pages fuel more (omega (arith, enough)) (λ w t. Kept next s t × Holds (null_at next) w t) val.Null next (i32 1) (Number 1) s refl (omega (arith, room))
      (Kept-one s next (Number 1), (slice_get-set_same s.locals next (Number 1) (omega (arith, room)), tt));
  typed = λ types declared all. ((I32, first_declared types next I32 all, (omega arith, refl)), (tt, first_declared types next I32 all));
}

pub null_emits : (known : List Known) (old new : Emitter) (n : ℕ) → AddsTest (i32 1) old new n → Emits known null old new (null_at n)
null_emits known old new n adds = record {
  first_is = adds.first_is;
  statement = assign (free_of old) (i32 1);
  own = I32 ∷ [];
  code_is = subst (λ k. new.block.code.items ≡ old.block.code.items ++ steps_of (assign k (i32 1))) adds.local_is adds.code_is;
  own_is = adds.own_is;
  computes = subst (λ k. Computes known null (free_of old) (null_at k) (assign (free_of old) (i32 1)) (I32 ∷ [])) (sym adds.local_is) (null_computes known (free_of old));
}
