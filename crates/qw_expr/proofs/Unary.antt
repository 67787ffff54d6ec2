-- Expressions of one operand: opposites, numbers at another scale, fields of dates.
use Rattle.std.proofs.Common.{◌≡◌, ℕ, ℤ, pos, negsuc, neg_ℤ, int_div, ◌+◌, ◌^◌, ◌<◌, ◌≤◌, IsTrue, unsigned_abs, List, [], ◌∷◌, ◌++◌, length, Option, Some, None, Result, Ok, slice_get, slice_set, refl, subst, arith}
use Rattle.std.proofs.lemmas.Int.{ints}
use Rattle.qw_types.specs.Arithmetic.{◌>>=◌, bring}
use Rattle.qw_types.specs.Kind.{IsDateNumber}
use Rattle.qw_types.proofs.KindLemmas.{day_number}
use Rattle.qw_types.specs.declared.code.Code.{Code}
use Rattle.qw_types.specs.declared.kind.Kind.{Kind}
use Rattle.qw_types.specs.declared.kind.Kind.TheVariants as kind
use Rattle.qw_types.specs.declared.value.Val.{Val}
use Rattle.qw_types.specs.declared.value.Val.TheVariants as val
use Rattle.qw_scalar.specs.declared.expression.Field.{Field}
use Rattle.qw_scalar.specs.declared.expression.Field.TheVariants.{Year, Month, Day}
use Rattle.qw_scalar.specs.Columns.{HasColumns, HoldsIn}
use Rattle.qw_scalar.specs.Evaluation.{Environment, as_number, negated, extracted, field_of, raised, value_of, at_row}
use Rattle.qw_scalar.specs.Expression.{Expression, negative, extract, brought, scale_of}
use Rattle.qw_scalar.specs.Typing.{IsTyped, IsValueOf, at_scale, is_date, is_number, kind_of}
use Rattle.qw_scalar.proofs.TypingLemmas.{typed_value}
use Rattle.qw_map.proofs.TurnFacts.{slice_get-set_same}
use Rattle.qw_module.specs.declared.instruction.ValType.{ValType}
use Rattle.qw_module.specs.declared.instruction.ValType.TheVariants.{I64}
use Rattle.qw_low.specs.declared.cell.Cell.{Cell}
use Rattle.qw_low.specs.Typing as low
use Rattle.qw_low.specs.Syntax.{Expression as LowExpression, Statement, seq, assign}
use Rattle.qw_low.specs.State.{Number, LowState}
use Rattle.qw_low.specs.Meaning.{value}
use Rattle.qw_low.specs.Raising.{Kept}
use Rattle.qw_low.specs.Held.{HoldsNumber}
use Rattle.qw_low.proofs.Results.{Kept-one, Comes, comes_assign}
use Rattle.qw_wide.specs.Numbers.{HasNumber, Converts}
use Rattle.qw_wide.proofs.Words.{word, small, word_back, below_fits, quotient_below, word-div, held_word, word_held}
use Rattle.qw_expr.specs.declared.operand.Operand.{Operand}
use Rattle.qw_expr.specs.Cells.{Holds, DeclaresKind}
use Rattle.qw_scalar.specs.Units.{units}
use Rattle.qw_expr.specs.Computes.{Known, AreBelow, Computes}
use Rattle.qw_expr.specs.Inner.Operated.{number_at}
use Rattle.qw_expr.specs.Inner.Nulls.{unless_null}
use Rattle.qw_expr.specs.Inner.Fields.{field_block}
use Rattle.qw_expr.specs.Inner.Literals.{limit_of}
use Rattle.qw_expr.proofs.Nulls.{value_says}
use Rattle.qw_expr.proofs.Binary.{NumberOrNull, number_of_typed, if_ok_is, comes_of, comes_number, value_or_null, operand_declared}

-- an operation on one number, with null
module _ (known : List Known) (next : ℕ) (low_known : AreBelow next known) (e a : Expression) (g : Val → Result Val Code) (o : Operand) (sa : Statement) (owna : List ValType) (ca : Computes known a next o sa owna)
    (operation : ℤ → Result ℤ Code) (f : Statement) (out limit : ℕ) (converts : Converts operation o.cell.value o.most (next + length owna) out limit f)
    (means : (env : Environment) → (value_of e env ≡ (value_of a env >>= g)) × (units e env ≡ units a env)) (columns : (row : List Val) → HasColumns (HoldsIn row) e → HasColumns (HoldsIn row) a)
    (kinds : Some (kind.Number (scale_of e)) ≡ kind_of e) (at_null : g val.Null ≡ Ok val.Null) (at_number : (n : ℤ) → g (val.Num n) ≡ as_number (operation n)) (typed : IsTyped a) (numeric : IsTrue (is_number (kind_of a))) where
  abbrev result : Operand
  result = number_at out o.cell.null (scale_of e) limit

  does : (pages fuel more : ℕ) (row : List Val) (v : Val) (t : LowState) → 1 ≤ more → HasColumns (HoldsIn row) e → value_of a (at_row row) ≡ Ok v → (v ≡ val.Null → ⊥) → Holds o v t → next + length owna < length t.locals →
      Comes pages fuel more (λ w u. Kept (next + length owna) t u × Holds result w u) (g v) f t
  does pages fuel more row v t some has is_v other holds room = by_value v (number_of_typed a row v typed numeric (columns row has) is_v) other holds
    where
      by_value : (v : Val) → NumberOrNull v → (v ≡ val.Null → ⊥) → Holds o v t → Comes pages fuel more (λ w u. Kept (next + length owna) t u × Holds result w u) (g v) f t
      by_value val.Null nv other holds = absurd (other refl)
      by_value (val.Num n) nv other holds =
          rw (at_number n)
          (comes_number pages fuel more some (λ w u. Kept (next + length owna) t u × HasNumber out limit w u) (λ w u. Kept (next + length owna) t u × Holds result w u) (operation n) f t
          (λ w u has_w. (has_w.0, ((has_w.1.0, has_w.1.1, value_says (next + length owna) t u o.cell.null has_w.0 ca.below.2 holds.0.2), has_w.1.2)))
          (comes_of pages fuel more some (λ w u. Kept (next + length owna) t u × HasNumber out limit w u) (operation n) f t (converts.runs pages fuel t n (holds.0.0, holds.0.1, holds.1) room)))
      by_value (val.Date d) nv other holds = absurd nv
      by_value (val.Text x) nv other holds = absurd nv

  pub converted_computes : Computes known e next result (seq sa (unless_null o.cell.null f)) (owna ++ I64 ∷ [])
  converted_computes = value_or_null known next low_known e a g o result sa f owna refl kinds refl converts.place converts.place at_null means columns ca does
      (λ types declared free. converts.typed types (operand_declared types o a ca.kind_is numeric declared) free)

pub negative_computes : (known : List Known) (next : ℕ) → AreBelow next known → (a : Expression) (o : Operand) (sa f : Statement) (owna : List ValType) (out limit : ℕ) → IsTyped (negative a) → Computes known a next o sa owna →
    Converts (λ v. Ok (neg_ℤ v)) o.cell.value o.most (next + length owna) out limit f →
    Computes known (negative a) next (number_at out o.cell.null (scale_of a) limit) (seq sa (unless_null o.cell.null f)) (owna ++ I64 ∷ [])
negative_computes known next low_known a o sa f owna out limit typed ca converts =
    converted_computes known next low_known (negative a) a (λ x. Ok (negated x)) o sa owna ca (λ v. Ok (neg_ℤ v)) f out limit converts (λ env. (refl, refl)) (λ row has. has) refl refl (λ n. refl) typed.0 typed.1

number_at_scale : (k : Option Kind) (s : ℕ) → IsTrue (is_number k) → Some (kind.Number s) ≡ at_scale k s
number_at_scale None s is = absurd cc
number_at_scale (Some (kind.Number t)) s is = refl
number_at_scale (Some kind.Date) s is = absurd cc
number_at_scale (Some kind.Text) s is = absurd cc

pub brought_computes : (known : List Known) (next : ℕ) → AreBelow next known → (a : Expression) (s : ℕ) (o : Operand) (sa f : Statement) (owna : List ValType) (out limit : ℕ) → IsTyped (brought a s) → IsTrue (is_number (kind_of a)) →
    Computes known a next o sa owna → Converts (λ v. bring v (scale_of a) s) o.cell.value o.most (next + length owna) out limit f →
    Computes known (brought a s) next (number_at out o.cell.null s limit) (seq sa (unless_null o.cell.null f)) (owna ++ I64 ∷ [])
brought_computes known next low_known a s o sa f owna out limit typed numeric ca converts =
    converted_computes known next low_known (brought a s) a (λ x. raised x (scale_of a) s) o sa owna ca (λ v. bring v (scale_of a) s) f out limit converts (λ env. (refl, refl)) (λ row has. has)
    (number_at_scale (kind_of a) s numeric) refl (λ n. refl) typed.0 numeric

-- ---- fields
field_within : (field : Field) (d : ℤ) → IsDateNumber d → unsigned_abs (field_of field d) ≤ limit_of field
field_within Year (pos n) is = omega (arith, ints, is.1)
field_within Month (pos n) is = omega arith
field_within Day (pos n) is = omega arith
field_within field (negsuc n) is = absurd (omega (arith, ints, is.0))

date_small : (d : ℤ) → IsDateNumber d → unsigned_abs d < 10 ^ 18
date_small (pos n) is = omega (arith, ints, is.1)
date_small (negsuc n) is = absurd (omega (arith, ints, is.0))

field_word : (field : Field) (s : LowState) (n x : ℕ) (d : ℤ) → IsDateNumber d → HoldsNumber s x d → (e : LowExpression) × (field_block field n x ≡ assign n e) × (value s e ≡ Some (Number (word (field_of field d))))
field_word Year s n x d is holds = (_, refl, rw (held_word s x d holds, word-div d (pos 10000) (omega (arith, date_small d is)) (small (pos 10000) (omega arith)) (λ z. omega (arith, z))) refl)
field_word Month s n x d is holds =
    let size : unsigned_abs (int_div d (pos 100)) < 10 ^ 18 = quotient_below d (pos 100) (10 ^ 18) (date_small d is) in
    (_, refl, rw (held_word s x d holds, word-div d (pos 100) (omega (arith, date_small d is)) (small (pos 100) (omega arith)) (λ z. omega (arith, z)), word_back (int_div d (pos 100)) (small (int_div d (pos 100)) (omega (arith, size)))) refl)
field_word Day s n x d is holds = (_, refl, rw (held_word s x d holds, word_back d (small d (omega (arith, date_small d is)))) refl)

field_typed : (types : List ValType) (field : Field) (n x : ℕ) → slice_get types x ≡ Some I64 → slice_get types n ≡ Some I64 → low.IsTyped types (field_block field n x)
field_typed types Year n x is_x is_n = (I64, is_n, (is_x, (omega arith, refl), refl))
field_typed types Month n x is_x is_n = (I64, is_n, ((is_x, (omega arith, refl), refl), (omega arith, refl), refl))
field_typed types Day n x is_x is_n = (I64, is_n, (is_x, (omega arith, refl), refl))

pub date_declared : (types : List ValType) (c : Cell) (k : Option Kind) → IsTrue (is_date k) → DeclaresKind types c k → slice_get types c.value ≡ Some I64
date_declared types c None is declared = absurd cc
date_declared types c (Some (kind.Number s)) is declared = declared
date_declared types c (Some kind.Date) is declared = declared
date_declared types c (Some kind.Text) is declared = absurd cc

pub date_of : (k : Option Kind) (d : ℤ) → IsTrue (is_date k) → IsValueOf k (val.Date d) → IsDateNumber d
date_of None d is of = absurd cc
date_of (Some (kind.Number s)) d is of = absurd of
date_of (Some kind.Date) d is of = day_number d of
date_of (Some kind.Text) d is of = absurd of

pub no_number : (k : Option Kind) (v : ℤ) → IsTrue (is_date k) → IsValueOf k (val.Num v) → ⊥
no_number None v is of = absurd cc
no_number (Some (kind.Number s)) v is of = absurd cc
no_number (Some kind.Date) v is of = of
no_number (Some kind.Text) v is of = absurd cc

pub no_text : (k : Option Kind) (t : List ℕ) → IsTrue (is_date k) → IsValueOf k (val.Text t) → ⊥
no_text None t is of = absurd cc
no_text (Some (kind.Number s)) t is of = of
no_text (Some kind.Date) t is of = of
no_text (Some kind.Text) t is of = absurd cc

module _ (known : List Known) (next : ℕ) (low_known : AreBelow next known) (field : Field) (a : Expression) (o : Operand) (sa : Statement) (owna : List ValType) (typed : IsTyped (extract field a)) (ca : Computes known a next o sa owna) where
  abbrev n : ℕ
  n = next + length owna

  abbrev field_result : Operand
  field_result = number_at n o.cell.null 0 (limit_of field)

  gives : (pages fuel more : ℕ) (row : List Val) (v : Val) (t : LowState) → 1 ≤ more → HasColumns (HoldsIn row) (extract field a) → value_of a (at_row row) ≡ Ok v → (v ≡ val.Null → ⊥) → Holds o v t → n < length t.locals →
      Comes pages fuel more (λ w u. Kept n t u × Holds field_result w u) (Ok (extracted field v)) (field_block field n o.cell.value) t
  gives pages fuel more row v t some has is_v other holds room = by_value v (if_ok_is (IsValueOf (kind_of a)) (value_of a (at_row row)) v is_v (typed_value a row typed.0 has)) other holds
    where
      limit_small : (field : Field) → limit_of field ≤ 9999
      limit_small Year = omega arith
      limit_small Month = omega arith
      limit_small Day = omega arith

      by_value : (v : Val) → IsValueOf (kind_of a) v → (v ≡ val.Null → ⊥) → Holds o v t → Comes pages fuel more (λ w u. Kept n t u × Holds field_result w u) (Ok (extracted field v)) (field_block field n o.cell.value) t
      by_value val.Null of other holds = absurd (other refl)
      by_value (val.Num v) of other holds = absurd (no_number (kind_of a) v typed.1 of)
      by_value (val.Text x) of other holds = absurd (no_text (kind_of a) x typed.1 of)
      by_value (val.Date d) of other holds =
          let date : IsDateNumber d = date_of (kind_of a) d typed.1 of in
          let z : ℤ = field_of field d in
          let block = field_word field t n o.cell.value d date holds.0.0 in
          let within : unsigned_abs z ≤ limit_of field = field_within field d date in
          let size : unsigned_abs z < 10 ^ 18 = omega (arith, within, limit_small field) in
          let after : LowState = record t { locals = slice_set t.locals n (Number (word z)) } in
          rw (block.1) (comes_assign pages fuel more some (λ w u. Kept n t u × Holds field_result w u) (val.Num z) n block.0 (Number (word z)) t block.2 room (
            Kept-one t n (Number (word z)),
            (
              (
                word_held after n z (small z (omega (arith, size))) (slice_get-set_same t.locals n (Number (word z)) room),
                below_fits z size,
                value_says n t after o.cell.null (Kept-one t n (Number (word z))) ca.below.2 holds.0.1,
              ),
              within,
            ),
          ))

  pub extract_computes : Computes known (extract field a) next field_result (seq sa (unless_null o.cell.null (field_block field n o.cell.value))) (owna ++ I64 ∷ [])
  extract_computes = value_or_null known next low_known (extract field a) a (λ x. Ok (extracted field x)) o field_result sa (field_block field n o.cell.value) owna refl refl refl (omega arith) (omega arith) refl
      (λ env. (refl, refl)) (λ row has. has) ca gives
      (λ types declared free. (field_typed types field n o.cell.value (date_declared types o.cell (kind_of a) typed.1 (subst (DeclaresKind types o.cell) ca.kind_is declared.0)) free, free))
