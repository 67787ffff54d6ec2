-- Comparisons of emitted expressions.
use Rattle.std.proofs.Common.{◌≡◌, ℕ, ℤ, pos, negsuc, ◌+◌, ◌≤◌, Ordering, IsTrue, unsigned_abs, List, [], ◌∷◌, ◌++◌, length, length-append, Option, Some, None, Ok, slice_get, refl, sym, ap, ap₂, subst, arith}
use Rattle.std.proofs.lemmas.Int.{ints}
use Rattle.qw_types.specs.Arithmetic.{◌>>=◌, order_of}
use Rattle.qw_types.specs.Kind.{IsDateNumber}
use Rattle.qw_types.specs.declared.truth.Truth.{Truth}
use Rattle.qw_types.specs.declared.truth.Truth.TheVariants.{Unknown}
use Rattle.qw_types.specs.declared.value.Val.{Val}
use Rattle.qw_types.specs.declared.value.Val.TheVariants as val
use Rattle.qw_scalar.specs.declared.comparison.Comparison.{Comparison}
use Rattle.qw_scalar.specs.Columns.{HasColumns, HaveColumns, HoldsIn}
use Rattle.qw_scalar.specs.Evaluation.{Environment, answers, compared, truth_if, value_of, truth_of, at_row}
use Rattle.qw_scalar.specs.Expression.{Expression, comparison, scale_of}
use Rattle.qw_scalar.specs.Typing.{AreTyped, IsTyped, IsValueOf, is_date, is_number, kind_of}
use Rattle.qw_scalar.proofs.TypingLemmas.{typed_value}
use Rattle.qw_module.specs.declared.instruction.ValType.{ValType}
use Rattle.qw_module.specs.declared.instruction.ValType.TheVariants.{I32, I64}
use Rattle.qw_low.specs.declared.cell.Cell.{Cell}
use Rattle.qw_low.specs.Typing as low
use Rattle.qw_low.specs.Syntax.{Statement, seq}
use Rattle.qw_low.specs.State.{LowState}
use Rattle.qw_low.specs.Raising.{Kept}
use Rattle.qw_low.specs.Held.{SaysValue}
use Rattle.qw_low.proofs.Results.{Kept-then, Comes, comes_weaker, comes_then}
use Rattle.qw_wide.specs.Numbers.{HasNumber, Tests}
use Rattle.qw_wide.proofs.OrderRuns.{same_scale}
use Rattle.qw_wide.proofs.Words.{below_fits}
use Rattle.qw_expr.specs.declared.operand.Operand.{Operand}
use Rattle.qw_expr.specs.Cells.{Holds, HoldsTruth, IsBelowNull, DeclaresNull, DeclaresKind, DeclaresValue, Declares}
use Rattle.qw_scalar.specs.Units.{octets_in, octets_of, units_of}
use Rattle.qw_expr.specs.Computes.{Known, AreHeld, AreBelow, Computes, Decides}
use Rattle.qw_expr.specs.Inner.Nulls.{join_block, joined_null}
use Rattle.qw_expr.specs.Inner.Truths.{zero_if_null}
use Rattle.qw_expr.proofs.Nulls.{value_kept, known_kept, below_more}
use Rattle.qw_expr.proofs.Binary.{NumberOrNull, number_of_typed, if_ok_is, joined_below, first_declared, declares_first, declares_rest, join_typed, operand_declared}
use Rattle.qw_expr.proofs.Unary.{date_of, no_number, no_text, date_declared}
use Rattle.qw_expr.proofs.Comparisons.{ordered}
use Rattle.qw_expr.proofs.Unknowns.{decided}

pub compared_left : (o : Comparison) (x : Val) (sa : ℕ) (y : Val) (sb : ℕ) → x ≡ val.Null → compared o x sa y sb ≡ Unknown
compared_left o x sa y sb is = rw is refl

pub compared_right : (o : Comparison) (x : Val) (sa : ℕ) (y : Val) (sb : ℕ) → y ≡ val.Null → compared o x sa y sb ≡ Unknown
compared_right o val.Null sa y sb is = refl
compared_right o (val.Num a) sa y sb is = rw is refl
compared_right o (val.Date a) sa y sb is = rw is refl
compared_right o (val.Text a) sa y sb is = rw is refl

zero_typed : (types : List ValType) (null : Option ℕ) (t : ℕ) (body : Statement) → DeclaresNull types null → slice_get types t ≡ Some I32 → low.IsTyped types body → low.IsTyped types (zero_if_null null t body)
zero_typed types None t body declared is typed = typed
zero_typed types (Some n) t body declared is typed = (declared, (I32, is, (omega arith, refl)), typed)

second_declared : (types : List ValType) (n : ℕ) (mine : List ValType) → Declares types n (I32 ∷ I32 ∷ mine) → (slice_get types n ≡ Some I32) × (slice_get types (n + 1) ≡ Some I32) × Declares types (n + 2) mine
second_declared types n mine declares =
    let zeroth : n + 0 ≡ n = omega arith in
    (subst (λ k. slice_get types k ≡ Some I32) zeroth (declares 0 I32 refl), declares 1 I32 refl, declares_rest types n (I32 ∷ I32 ∷ []) mine declares)

module _ (known : List Known) (next : ℕ) (low_known : AreBelow next known) (o : Comparison) (a b : Expression) (oa ob : Operand) (sa sb : Statement) (owna ownb : List ValType)
    (ca : Computes known a next oa sa owna) (cb : Computes known b (next + length owna) ob sb ownb) where
  abbrev pub m : ℕ
  m = next + length owna + length ownb

  abbrev null : Option ℕ
  null = joined_null m oa.cell.null ob.cell.null

  abbrev pub cell : Cell
  cell = record { value = m + 1; length = m + 1; null = null }

  module _ (body : Statement) (mine : List ValType)
      (does : (pages fuel more : ℕ) (row : List Val) (x y : Val) (u t : LowState) → 1 + octets_in o x y ≤ more → more ≤ fuel → HaveColumns (HoldsIn row) (comparison o a b) → value_of a (at_row row) ≡ Ok x → value_of b (at_row row) ≡ Ok y →
      Holds oa x u → Holds ob y u → (x ≡ val.Null → ⊥) → (y ≡ val.Null → ⊥) → Kept m u t → SaysValue t null → m + 2 + length mine ≤ length u.locals →
      Comes pages fuel more (λ v w. Kept m u w × HoldsTruth cell v w) (Ok (compared o x (scale_of a) y (scale_of b))) body t)
      (typed_body : (types : List ValType) → DeclaresValue types oa → DeclaresValue types ob → slice_get types (m + 1) ≡ Some I32 → Declares types (m + 2) mine → low.IsTyped types body) where
    abbrev tail : Statement
    tail = seq (join_block m oa.cell.null ob.cell.null) (zero_if_null null (m + 1) body)

    abbrev own : List ValType
    own = owna ++ (ownb ++ (I32 ∷ I32 ∷ mine))

    long : length own ≡ length owna + length ownb + (2 + length mine)
    long = omega (arith, length-append owna (ownb ++ (I32 ∷ I32 ∷ mine)), length-append ownb (I32 ∷ I32 ∷ mine))

    runs : (pages fuel more : ℕ) (row : List Val) (s : LowState) → 1 + units_of (comparison o a b) (at_row row) ≤ more → more ≤ fuel → AreHeld known row s → HaveColumns (HoldsIn row) (comparison o a b) →
        next + length own ≤ length s.locals → Comes pages fuel more (λ v t. Kept next s t × HoldsTruth cell v t) (truth_of (comparison o a b) (at_row row)) (seq sa (seq sb tail)) s
    runs pages fuel more row s enough within held columns room =
        let env : Environment = at_row row in
        let some : 1 ≤ more = omega (arith, enough) in
        comes_then pages fuel more (λ v t. Kept next s t × Holds oa v t) (λ v t. Kept next s t × HoldsTruth cell v t) (value_of a env) (λ x. value_of b env >>= (λ y. Ok (compared o x (scale_of a) y (scale_of b)))) sa (seq sb tail) s
        (ca.runs pages fuel more row s (omega (arith, enough)) within held columns.0 (omega (arith, room, long)))
        (λ x t is_x left.
        comes_then pages fuel more (λ v w. Kept (next + length owna) t w × Holds ob v w) (λ v t. Kept next s t × HoldsTruth cell v t) (value_of b env) (λ y. Ok (compared o x (scale_of a) y (scale_of b))) sb tail t
        (cb.runs pages fuel more row t (omega (arith, enough)) within (known_kept next s t row known left.0 low_known held) columns.1 (omega (arith, room, long, left.0.many)))
        (λ y w is_y right.
        let r : Truth = compared o x (scale_of a) y (scale_of b) in
        let first : Holds oa x w = (value_kept (next + length owna) t w oa.cell x right.0 ca.below left.1.0, left.1.1) in
        let octets : octets_of o (value_of a env) (value_of b env) ≡ octets_in o x y = ap₂ (octets_of o) is_x is_y in
        let wide : m + 2 + length mine ≤ length w.locals = omega (arith, room, long, left.0.many, right.0.many) in
        comes_weaker pages fuel more (λ v v'. Kept m w v' × HoldsTruth cell v v') (λ v v'. Kept next s v' × HoldsTruth cell v v') (Ok r) tail w
        (λ v z is kept. (Kept-then next m s w z (omega arith) (Kept-then next (next + length owna) s t w (omega arith) left.0 right.0) kept.0, kept.1))
        (decided pages fuel more some w m oa ob (below_more (next + length owna) m oa.cell (omega arith) ca.below) cb.below (omega (arith, wide)) body x y r
        (compared_left o x (scale_of a) y (scale_of b)) (compared_right o x (scale_of a) y (scale_of b))
        (λ nx ny z kept says. does pages fuel more row x y w z (omega (arith, enough, octets)) within columns is_x is_y first right.1 nx ny kept says wide) first right.1)))

    pub comparison_decides : Decides known (comparison o a b) next cell (seq sa (seq sb tail)) own
    comparison_decides = record {
      below =
          let most : next + length own ≡ m + (1 + length mine) + 1 = omega (arith, long) in (
            omega (arith, long),
            omega (arith, long),
            subst (λ k. IsBelowNull k null) (sym most)
                (joined_below m (m + (1 + length mine)) oa.cell.null ob.cell.null (omega arith) (below_more (next + length owna) m oa.cell (omega arith) ca.below).2 cb.below.2),
          );
      runs = runs;
      typed = λ types declared declares.
          let rest = declares_rest types next owna (ownb ++ (I32 ∷ I32 ∷ mine)) declares in
          let last = declares_rest types (next + length owna) ownb (I32 ∷ I32 ∷ mine) rest in
          let words = second_declared types m mine last in
          let first = ca.typed types declared (declares_first types next owna (ownb ++ (I32 ∷ I32 ∷ mine)) declares) in
          let second = cb.typed types declared (declares_first types (next + length owna) ownb (I32 ∷ I32 ∷ mine) rest) in
          let joined = join_typed types m oa.cell.null ob.cell.null first.1.1 second.1.1 words.0 in
          ((first.0, (second.0, (joined.0, zero_typed types null (m + 1) body joined.1 words.1 (typed_body types first.1 second.1 words.1 words.2)))), (words.1, joined.1));
    }

  -- by the order of two numbers
  module _ (order : ℤ → ℤ → Ordering) (f : Statement) (ma mb : ℕ) (tests : Tests o order oa.cell.value ma ob.cell.value mb (m + 2) (m + 1) f)
      (numbers : (row : List Val) (x y : Val) (u : LowState) → HaveColumns (HoldsIn row) (comparison o a b) → value_of a (at_row row) ≡ Ok x → value_of b (at_row row) ≡ Ok y → Holds oa x u → Holds ob y u → (x ≡ val.Null → ⊥) → (y ≡ val.Null → ⊥) →
      (v w : ℤ) × HasNumber oa.cell.value ma v u × HasNumber ob.cell.value mb w u × (compared o x (scale_of a) y (scale_of b) ≡ truth_if (answers o (order v w))))
      (declared_a : (types : List ValType) → DeclaresValue types oa → slice_get types oa.cell.value ≡ Some I64) (declared_b : (types : List ValType) → DeclaresValue types ob → slice_get types ob.cell.value ≡ Some I64) where
    pub order_decides : Decides known (comparison o a b) next cell (seq sa (seq sb (seq (join_block m oa.cell.null ob.cell.null) (zero_if_null null (m + 1) f)))) (owna ++ (ownb ++ (I32 ∷ I32 ∷ I64 ∷ [])))
    order_decides = comparison_decides f (I64 ∷ [])
        (λ pages fuel more row x y u t enough within columns is_x is_y one other nx ny kept says room.
        let found = numbers row x y u columns is_x is_y one other nx ny in
        rw (found.4)
        (ordered pages fuel more (omega (arith, enough)) u m oa ob (below_more (next + length owna) m oa.cell (omega arith) ca.below) cb.below (omega (arith, room)) o order f ma mb tests found.0 found.1 found.2 found.3 t kept says))
        (λ types da db word declares.
        tests.typed types (declared_a types da) (declared_b types db) word (first_declared types (m + 2) I64 declares))

-- ---- numbers and dates
pub number_in : (known : List Known) (e : Expression) (row : List Val) (x : Val) (o : Operand) (u : LowState) → IsTyped e → IsTrue (is_number (kind_of e)) → HasColumns (HoldsIn row) e → value_of e (at_row row) ≡ Ok x → Holds o x u → (x ≡ val.Null → ⊥) →
    (v : ℤ) × (x ≡ val.Num v) × HasNumber o.cell.value o.most v u
number_in known e row x o u typed numeric columns is holds other = by_value x (number_of_typed e row x typed numeric columns is) holds other
  where
    by_value : (x : Val) → NumberOrNull x → Holds o x u → (x ≡ val.Null → ⊥) → (v : ℤ) × (x ≡ val.Num v) × HasNumber o.cell.value o.most v u
    by_value val.Null is holds other = absurd (other refl)
    by_value (val.Num v) is holds other = (v, refl, (holds.0.0, holds.0.1, holds.1))
    by_value (val.Date d) is holds other = absurd is
    by_value (val.Text t) is holds other = absurd is

pub compared_numbers : (o : Comparison) (x y : Val) (sa sb : ℕ) (v w : ℤ) → x ≡ val.Num v → y ≡ val.Num w → compared o x sa y sb ≡ truth_if (answers o (order_of v sa w sb))
compared_numbers o x y sa sb v w is_x is_y = rw (is_x, is_y) refl

pub numbers_decide : (known : List Known) (next : ℕ) → AreBelow next known → (o : Comparison) (a b : Expression) (oa ob : Operand) (sa sb f : Statement) (owna ownb : List ValType) → AreTyped (comparison o a b) → IsTrue (is_number (kind_of a)) → IsTrue (is_number (kind_of b)) →
    Computes known a next oa sa owna → Computes known b (next + length owna) ob sb ownb → Tests o (λ v w. order_of v (scale_of a) w (scale_of b)) oa.cell.value oa.most ob.cell.value ob.most (next + length owna + length ownb + 2) (next + length owna + length ownb + 1) f →
    let m = next + length owna + length ownb in let null = joined_null m oa.cell.null ob.cell.null in
    Decides known (comparison o a b) next (record { value = m + 1; length = m + 1; null = null })
    (seq sa (seq sb (seq (join_block m oa.cell.null ob.cell.null) (zero_if_null null (m + 1) f)))) (owna ++ (ownb ++ (I32 ∷ I32 ∷ I64 ∷ [])))
numbers_decide known next low_known o a b oa ob sa sb f owna ownb typed na nb ca cb tests =
    order_decides known next low_known o a b oa ob sa sb owna ownb ca cb (λ v w. order_of v (scale_of a) w (scale_of b)) f oa.most ob.most tests
    (λ row x y u columns is_x is_y one other nx ny.
    let first = number_in known a row x oa u typed.0.0 na columns.0 is_x one nx in
    let second = number_in known b row y ob u typed.0.1 nb columns.1 is_y other ny in
    (first.0, second.0, first.2, second.2, compared_numbers o x y (scale_of a) (scale_of b) first.0 second.0 first.1 second.1))
    (λ types declared. operand_declared types oa a ca.kind_is na declared) (λ types declared. operand_declared types ob b cb.kind_is nb declared)

-- the greatest date, as a number
pub date_in : (e : Expression) (row : List Val) (x : Val) (o : Operand) (u : LowState) → IsTyped e → IsTrue (is_date (kind_of e)) → HasColumns (HoldsIn row) e → value_of e (at_row row) ≡ Ok x → Holds o x u → (x ≡ val.Null → ⊥) →
    (v : ℤ) × (x ≡ val.Date v) × HasNumber o.cell.value 99991231 v u
date_in e row x o u typed dated columns is holds other = by_value x (if_ok_is (IsValueOf (kind_of e)) (value_of e (at_row row)) x is (typed_value e row typed columns)) holds other
  where
    within : (d : ℤ) → IsDateNumber d → unsigned_abs d ≤ 99991231
    within (pos n) is = omega (arith, ints, is.1)
    within (negsuc n) is = absurd (omega (arith, ints, is.0))

    by_value : (x : Val) → IsValueOf (kind_of e) x → Holds o x u → (x ≡ val.Null → ⊥) → (v : ℤ) × (x ≡ val.Date v) × HasNumber o.cell.value 99991231 v u
    by_value val.Null of holds other = absurd (other refl)
    by_value (val.Num v) of holds other = absurd (no_number (kind_of e) v dated of)
    by_value (val.Text t) of holds other = absurd (no_text (kind_of e) t dated of)
    by_value (val.Date d) of holds other =
        let most : unsigned_abs d ≤ 99991231 = within d (date_of (kind_of e) d dated of) in
        (d, refl, (holds.0.0, below_fits d (omega (arith, most)), most))

compared_dates : (o : Comparison) (x y : Val) (sa sb : ℕ) (v w : ℤ) → x ≡ val.Date v → y ≡ val.Date w → compared o x sa y sb ≡ truth_if (answers o (order_of v 0 w 0))
compared_dates o x y sa sb v w is_x is_y = rw (is_x, is_y) (ap (λ r. truth_if (answers o r)) (same_scale v w 0))

pub dates_decide : (known : List Known) (next : ℕ) → AreBelow next known → (o : Comparison) (a b : Expression) (oa ob : Operand) (sa sb f : Statement) (owna ownb : List ValType) → AreTyped (comparison o a b) → IsTrue (is_date (kind_of a)) → IsTrue (is_date (kind_of b)) →
    Computes known a next oa sa owna → Computes known b (next + length owna) ob sb ownb → Tests o (λ v w. order_of v 0 w 0) oa.cell.value 99991231 ob.cell.value 99991231 (next + length owna + length ownb + 2) (next + length owna + length ownb + 1) f →
    let m = next + length owna + length ownb in let null = joined_null m oa.cell.null ob.cell.null in
    Decides known (comparison o a b) next (record { value = m + 1; length = m + 1; null = null })
    (seq sa (seq sb (seq (join_block m oa.cell.null ob.cell.null) (zero_if_null null (m + 1) f)))) (owna ++ (ownb ++ (I32 ∷ I32 ∷ I64 ∷ [])))
dates_decide known next low_known o a b oa ob sa sb f owna ownb typed da db ca cb tests =
    order_decides known next low_known o a b oa ob sa sb owna ownb ca cb (λ v w. order_of v 0 w 0) f 99991231 99991231 tests
    (λ row x y u columns is_x is_y one other nx ny.
    let first = date_in a row x oa u typed.0.0 da columns.0 is_x one nx in
    let second = date_in b row y ob u typed.0.1 db columns.1 is_y other ny in
    (first.0, second.0, first.2, second.2, compared_dates o x y (scale_of a) (scale_of b) first.0 second.0 first.1 second.1))
    (λ types declared. date_declared types oa.cell (kind_of a) da (subst (DeclaresKind types oa.cell) ca.kind_is declared.0))
    (λ types declared. date_declared types ob.cell (kind_of b) db (subst (DeclaresKind types ob.cell) cb.kind_is declared.0))
