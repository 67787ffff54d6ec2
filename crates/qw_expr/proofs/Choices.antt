-- Choices between two results.
use Rattle.std.proofs.Common.{◌≡◌, ℕ, ◌+◌, ◌*◌, ◌<◌, ◌≤◌, Bool, true, false, IsTrue, List, ◌++◌, length, length-set, length-append, Option, Some, None, Result, Ok, Err, slice_get, slice_set, refl, sym, ◌∙◌, subst, inl, inr, ◌⊎◌, arith}
use Rattle.qw_types.specs.Arithmetic.{◌>>=◌}
use Rattle.qw_types.specs.declared.code.Code.{Code}
use Rattle.qw_types.specs.declared.kind.Kind.{Kind}
use Rattle.qw_types.specs.declared.kind.Kind.TheVariants as kind
use Rattle.qw_types.specs.declared.truth.Truth.{Truth}
use Rattle.qw_types.specs.declared.truth.Truth.TheVariants.{True, False, Unknown}
use Rattle.qw_types.specs.declared.value.Val.{Val}
use Rattle.qw_types.specs.declared.value.Val.TheVariants as val
use Rattle.qw_scalar.specs.Columns.{HasColumns, HoldsIn}
use Rattle.qw_scalar.specs.Evaluation.{Environment, chosen, same_truth, truth_of, value_of, at_row}
use Rattle.qw_scalar.specs.Expression.{Expression, Condition, choice}
use Rattle.qw_scalar.specs.Typing.{IsTyped, IsValueOf, agree, joined, kind_of}
use Rattle.qw_scalar.proofs.TypingLemmas.{typed_value}
use Rattle.qw_map.proofs.TurnFacts.{slice_get-set_same}
use Rattle.qw_module.specs.declared.instruction.ValType.{ValType}
use Rattle.qw_module.specs.declared.instruction.ValType.TheVariants.{I32, I64}
use Rattle.qw_low.specs.declared.cell.Cell.{Cell}
use Rattle.qw_low.specs.Typing as low
use Rattle.qw_low.specs.Syntax.{Statement, local, seq, conditional}
use Rattle.qw_low.specs.State.{Own, Number, Address, LowState}
use Rattle.qw_low.specs.Meaning.{Outcome, Completed, Exited, Stopped, Wrong, Unfinished, meaning}
use Rattle.qw_low.specs.Size.{size}
use Rattle.qw_low.specs.Promise.{Ends}
use Rattle.qw_low.specs.Raising.{Kept}
use Rattle.qw_low.specs.Held.{SaysNull, SaysValue}
use Rattle.qw_low.proofs.Results.{Kept-same, Kept-set, Kept-then, Comes, comes_weaker, comes_then, comes_choose}
use Rattle.qw_expr.specs.declared.choice.Place.{Place}
use Rattle.qw_expr.specs.declared.operand.Operand.{Operand}
use Rattle.qw_expr.specs.Cells.{Holds, HoldsValue, HoldsTruth, IsWithin, IsBelowNull, DeclaresNull, DeclaresKind, Declares}
use Rattle.qw_scalar.specs.Units.{units}
use Rattle.qw_expr.specs.Computes.{Known, AreHeld, AreBelow, Computes, Decides}
use Rattle.qw_expr.specs.Inner.Truths.{junction_null}
use Rattle.qw_expr.specs.Inner.Choices.{Suits, place_types, place_at, copy_block, chosen_at}
use Rattle.qw_expr.proofs.Nulls.{known_kept, below_more}
use Rattle.qw_expr.proofs.Binary.{if_ok_is, declares_first, declares_rest}
use Rattle.qw_expr.proofs.Junctions.{true_word}
use Rattle.qw_expr.proofs.Copies.{IsApart, copied}
use Rattle.qw_expr.proofs.JunctionsDecide.{unknown_typed}

-- ---- a result is in no local that its block keeps
ended : (m : ℕ) (P : LowState → Type 0) (out : Outcome) → Ends m P (λ t. ⊥) (λ code. ⊥) out → (t : LowState) × P t
ended m P (Completed k t) h = (t, h.1)
ended m P (Exited k t) h = absurd (h.1)
ended m P (Stopped code k t) h = absurd (h.1)
ended m P Wrong h = absurd h
ended m P Unfinished h = absurd h

not_there : (c : Cell) (v : Val) (x : ℕ) (t : LowState) → slice_get t.locals x ≡ Some (Address (Own 0) 0) → HoldsValue c v t → IsApart c v x
not_there c val.Null x t there holds = λ is.
    let bad : Some (Number 1) ≡ Some (Address (Own 0) 0) = sym (subst (SaysNull t) is holds) ∙ there in
    absurd cc
not_there c (val.Num v) x t there holds = λ is.
    let bad : Some (Number 0) ≡ Some (Address (Own 0) 0) = sym (subst (SaysValue t) is holds.2) ∙ there in
    absurd cc
not_there c (val.Date d) x t there holds = λ is.
    let bad : Some (Number 0) ≡ Some (Address (Own 0) 0) = sym (subst (SaysValue t) is holds.1) ∙ there in
    absurd cc
not_there c (val.Text o) x t there holds = (
  λ is.
      let bad : Some (Number 0) ≡ Some (Address (Own 0) 0) = sym (subst (SaysValue t) is holds.1) ∙ there in
      absurd cc,
  λ is.
      let bad : Some (Number (length o)) ≡ Some (Address (Own 0) 0) = sym (subst (λ k. slice_get t.locals k ≡ Some (Number (length o))) is holds.0.is_long) ∙ there in
      absurd cc,
)

pub apart : (known : List Known) (low next : ℕ) (e : Expression) (o : Operand) (a : Statement) (own : List ValType) → AreBelow low known → Computes known e next o a own → (pages fuel more : ℕ) (row : List Val) (s : LowState) (v : Val) (x : ℕ) →
    1 + units e (at_row row) ≤ more → more ≤ fuel → AreHeld known row s → HasColumns (HoldsIn row) e → next + length own ≤ length s.locals → value_of e (at_row row) ≡ Ok v → low ≤ x → x < next → IsApart o.cell v x
apart known low next e o a own below ca pages fuel more row s v x enough within held has room is_v past before =
    let u : LowState = record s { locals = slice_set s.locals x (Address (Own 0) 0) } in
    let long : length u.locals ≡ length s.locals = length-set s.locals x (Address (Own 0) 0) in
    let done = ca.runs pages fuel more row u enough within (known_kept low s u row known (Kept-set low s s x (Address (Own 0) 0) (Kept-same low s) past) below held) has (omega (arith, room, long)) in
    let left = ended (size a * more) (λ t. Kept next u t × Holds o v t) (meaning pages fuel a u)
    (subst (λ (r : Result Val Code). Comes pages fuel more (λ w t. Kept next u t × Holds o w t) r a u) is_v done) in
    not_there o.cell v x left.0 (left.1.0.below x before ∙ slice_get-set_same s.locals x (Address (Own 0) 0) (omega (arith, room, before))) left.1.1.0

-- ---- kinds of results
first_suits : (text : Bool) (k other : Option Kind) → IsTrue (agree k other) → Suits text (joined k other) → Suits text k
first_suits text None other a h = tt
first_suits text (Some (kind.Number s)) None a h = h
first_suits text (Some (kind.Number s)) (Some (kind.Number t)) a h = h
first_suits text (Some (kind.Number s)) (Some kind.Date) a h = h
first_suits text (Some (kind.Number s)) (Some kind.Text) a h = h
first_suits text (Some kind.Date) other a h = h
first_suits text (Some kind.Text) other a h = h

second_suits : (text : Bool) (k other : Option Kind) → IsTrue (agree k other) → Suits text (joined k other) → Suits text other
second_suits text None other a h = h
second_suits text (Some k) None a h = tt
second_suits text (Some (kind.Number s)) (Some (kind.Number t)) a h = h
second_suits text (Some (kind.Number s)) (Some kind.Date) a h = absurd cc
second_suits text (Some (kind.Number s)) (Some kind.Text) a h = absurd cc
second_suits text (Some kind.Date) (Some (kind.Number t)) a h = absurd cc
second_suits text (Some kind.Date) (Some kind.Date) a h = h
second_suits text (Some kind.Date) (Some kind.Text) a h = absurd cc
second_suits text (Some kind.Text) (Some (kind.Number t)) a h = absurd cc
second_suits text (Some kind.Text) (Some kind.Date) a h = absurd cc
second_suits text (Some kind.Text) (Some kind.Text) a h = h

pub results_suit : (text : Bool) (k other : Option Kind) → IsTrue (agree k other) → Suits text (joined k other) → Suits text k × Suits text other
results_suit text k other a h = (first_suits text k other a h, second_suits text k other a h)

-- ---- types
place_declared : (types : List ValType) (text : Bool) (m : ℕ) (k : Option Kind) → Suits text k → Declares types m (place_types text) → DeclaresKind types (record { value = (place_at text m).value; length = (place_at text m).length; null = None }) k
place_declared types text m None suits declares = tt
place_declared types true m (Some (kind.Number s)) suits declares = absurd cc
place_declared types true m (Some kind.Date) suits declares = absurd cc
place_declared types true m (Some kind.Text) suits declares =
    let zeroth : m + 0 ≡ m = omega arith in
    (subst (λ n. slice_get types n ≡ Some I32) zeroth (declares 0 I32 refl), declares 1 I32 refl)
place_declared types false m (Some (kind.Number s)) suits declares =
    let zeroth : m + 0 ≡ m = omega arith in
    subst (λ n. slice_get types n ≡ Some I64) zeroth (declares 0 I64 refl)
place_declared types false m (Some kind.Date) suits declares =
    let zeroth : m + 0 ≡ m = omega arith in
    subst (λ n. slice_get types n ≡ Some I64) zeroth (declares 0 I64 refl)
place_declared types false m (Some kind.Text) suits declares = absurd cc

word_declared : (types : List ValType) (text : Bool) (m : ℕ) → Declares types m (place_types text) → slice_get types (place_at text m).null ≡ Some I32
word_declared types true m declares = declares 2 I32 refl
word_declared types false m declares = declares 1 I32 refl

same_kind : (types : List ValType) (c d : Cell) (k : Option Kind) → c.value ≡ d.value → c.length ≡ d.length → DeclaresKind types c k → DeclaresKind types d k
same_kind types c d None one other h = tt
same_kind types c d (Some (kind.Number s)) one other h = subst (λ n. slice_get types n ≡ Some I64) one h
same_kind types c d (Some kind.Date) one other h = subst (λ n. slice_get types n ≡ Some I64) one h
same_kind types c d (Some kind.Text) one other h = (subst (λ n. slice_get types n ≡ Some I32) one h.0, subst (λ n. slice_get types n ≡ Some I32) other h.1)

copy_typed : (types : List ValType) (to : Place) (from : Cell) (k : Option Kind) → DeclaresKind types (record { value = to.value; length = to.length; null = None }) k → slice_get types to.null ≡ Some I32 → DeclaresKind types from k → DeclaresNull types from.null →
    low.IsTyped types (copy_block k to from)
copy_typed types to from None one word other null = (tt, (I32, word, unknown_typed types from.null null))
copy_typed types to from (Some (kind.Number s)) one word other null = ((I64, one, other), (I32, word, unknown_typed types from.null null))
copy_typed types to from (Some kind.Date) one word other null = ((I64, one, other), (I32, word, unknown_typed types from.null null))
copy_typed types to from (Some kind.Text) one word other null = (((I32, one.0, other.0), (I32, one.1, other.1)), (I32, word, unknown_typed types from.null null))

-- ---- null words and magnitudes
either_of : (w : ℕ) (a b : Option ℕ) → (junction_null w a b ≡ Some w) ⊎ ((junction_null w a b ≡ None) × ((a ≡ None) × (b ≡ None)))
either_of w None None = inr (refl, (refl, refl))
either_of w None (Some n) = inl refl
either_of w (Some m) n = inl refl

within_more : (m n : ℕ) (v : Val) → m ≤ n → IsWithin m v → IsWithin n v
within_more m n val.Null le h = tt
within_more m n (val.Num v) le h = omega (arith, le, h)
within_more m n (val.Date d) le h = tt
within_more m n (val.Text t) le h = tt

place_low : (text : Bool) (m : ℕ) → ((place_at text m).value < m + length (place_types text)) × ((place_at text m).length < m + length (place_types text)) × ((place_at text m).null < m + length (place_types text))
place_low true m = (omega arith, omega arith, omega arith)
place_low false m = (omega arith, omega arith, omega arith)

chosen_true : (t : Truth) (r q : Result Val Code) → same_truth t True ≡ true → chosen t r q ≡ r
chosen_true True r q h = refl
chosen_true False r q h = absurd cc
chosen_true Unknown r q h = absurd cc

chosen_other : (t : Truth) (r q : Result Val Code) → same_truth t True ≡ false → chosen t r q ≡ q
chosen_other True r q h = absurd cc
chosen_other False r q h = refl
chosen_other Unknown r q h = refl

-- a value as a result
abbrev as_result : Val → Result Val Code
as_result v = Ok v

same_value : (v z : Val) → as_result v ≡ as_result z → v ≡ z
same_value v z is = cc

-- ---- the block
four_long : (a b c d : List ValType) → length (a ++ (b ++ (c ++ d))) ≡ length a + (length b + (length c + length d))
four_long a b c d = omega (arith, length-append a (b ++ (c ++ d)), length-append b (c ++ d), length-append c d)

module _ (known : List Known) (next : ℕ) (low_known : AreBelow next known) (c : Condition) (a b : Expression) (text : Bool) (typed : IsTyped (choice c a b)) (suits : Suits text (kind_of (choice c a b))) (test : Cell) (oa ob : Operand)
    (sc sa sb : Statement) (ownc owna ownb : List ValType) (dc : Decides known c next test sc ownc) (ca : Computes known a (next + length ownc + length (place_types text)) oa sa owna)
    (cb : Computes known b (next + length ownc + length (place_types text) + length owna) ob sb ownb) where
  abbrev pub m : ℕ
  m = next + length ownc

  abbrev pub to : Place
  to = place_at text m

  abbrev pub out : Operand
  out = chosen_at to oa ob

  abbrev pub own : List ValType
  own = ownc ++ (place_types text ++ (owna ++ ownb))

  abbrev pub first : Statement
  first = seq sa (copy_block oa.kind to oa.cell)

  abbrev pub second : Statement
  second = seq sb (copy_block ob.kind to ob.cell)

  both_suit : Suits text (kind_of a) × Suits text (kind_of b)
  both_suit = results_suit text (kind_of a) (kind_of b) typed.1.1 suits

  -- one of the results, in its place
  module _ (pages fuel more : ℕ) (row : List Val) (s u : LowState) (within : more ≤ fuel) (some : 1 ≤ more) (kept : Kept next s u) (held : AreHeld known row u) (room : next + length own ≤ length u.locals) where
    placed : (e : Expression) (o : Operand) (at : ℕ) (body : Statement) (mine : List ValType) → Computes known e at o body mine → IsTyped e → HasColumns (HoldsIn row) e → Suits text (kind_of e) → m + length (place_types text) ≤ at → at + length mine ≤ length u.locals →
        1 + units e (at_row row) ≤ more → o.most ≤ out.most → (out.cell.null ≡ Some to.null) ⊎ ((out.cell.null ≡ None) × (o.cell.null ≡ None)) →
        Comes pages fuel more (λ v w. Kept next s w × Holds out v w) (value_of e (at_row row)) (seq body (copy_block o.kind to o.cell)) u
    placed e o at body mine ce typed_e has suits_e past room_e enough most nulls =
        let right : value_of e (at_row row) ≡ (value_of e (at_row row) >>= (λ v. Ok v)) = unit (value_of e (at_row row)) in
        subst (λ (r : Result Val Code). Comes pages fuel more (λ v w. Kept next s w × Holds out v w) r (seq body (copy_block o.kind to o.cell)) u) (sym right)
        (comes_then pages fuel more (λ v w. Kept at u w × Holds o v w) (λ v w. Kept next s w × Holds out v w) (value_of e (at_row row)) (λ v. Ok v) body (copy_block o.kind to o.cell) u
        (ce.runs pages fuel more row u enough within held has room_e)
        (λ v w is_v left.
        comes_weaker pages fuel more (λ z t. Kept m w t × HoldsValue out.cell z t) (λ z t. Kept next s t × Holds out z t) (Ok v) (copy_block o.kind to o.cell) w
        (λ z t is_z done. (Kept-then next m s w t (omega arith) (Kept-then next at s u w (omega (arith, past)) kept left.0) done.0, (done.1, within_more o.most out.most z most (subst (IsWithin o.most) (same_value v z is_z) left.1.1))))
        (copied pages fuel more some text o.kind m w o.cell v out.cell.null (subst (Suits text) (sym ce.kind_is) suits_e)
        (subst (λ (k : Option Kind). IsValueOf k v) (sym ce.kind_is) (if_ok_is (IsValueOf (kind_of e)) (value_of e (at_row row)) v is_v (typed_value e row typed_e has)))
        left.1.0 (below_more (at + length mine) (length w.locals) o.cell (omega (arith, room_e, left.0.many)) ce.below) (omega (arith, past, room_e, left.0.many)) nulls
        (λ x past_x before_x. apart known next at e o body mine low_known ce pages fuel more row u v x enough within held has room_e is_v (omega (arith, past_x)) (omega (arith, before_x, past))))))
      where
        unit : (r : Result Val Code) → r ≡ (r >>= (λ v. Ok v))
        unit (Ok v) = refl
        unit (Err code) = refl

  first_null : (out.cell.null ≡ Some to.null) ⊎ ((out.cell.null ≡ None) × (oa.cell.null ≡ None))
  first_null = by_case (either_of to.null oa.cell.null ob.cell.null)
    where
      by_case : (out.cell.null ≡ Some to.null) ⊎ ((out.cell.null ≡ None) × ((oa.cell.null ≡ None) × (ob.cell.null ≡ None))) → (out.cell.null ≡ Some to.null) ⊎ ((out.cell.null ≡ None) × (oa.cell.null ≡ None))
      by_case (inl there) = inl there
      by_case (inr none) = inr (none.0, none.1.0)

  second_null : (out.cell.null ≡ Some to.null) ⊎ ((out.cell.null ≡ None) × (ob.cell.null ≡ None))
  second_null = by_case (either_of to.null oa.cell.null ob.cell.null)
    where
      by_case : (out.cell.null ≡ Some to.null) ⊎ ((out.cell.null ≡ None) × ((oa.cell.null ≡ None) × (ob.cell.null ≡ None))) → (out.cell.null ≡ Some to.null) ⊎ ((out.cell.null ≡ None) × (ob.cell.null ≡ None))
      by_case (inl there) = inl there
      by_case (inr none) = inr (none.0, none.1.1)

  long : length own ≡ length ownc + (length (place_types text) + (length owna + length ownb))
  long = four_long ownc (place_types text) owna ownb

  abbrev pub block : Statement
  block = seq sc (conditional (local test.value) first second)

  runs : (pages fuel more : ℕ) (row : List Val) (s : LowState) → 1 + units (choice c a b) (at_row row) ≤ more → more ≤ fuel → AreHeld known row s → HasColumns (HoldsIn row) (choice c a b) → next + length own ≤ length s.locals →
      Comes pages fuel more (λ v t. Kept next s t × Holds out v t) (value_of (choice c a b) (at_row row)) block s
  runs pages fuel more row s enough within held has room =
      let env : Environment = at_row row in
      let some : 1 ≤ more = omega (arith, enough) in
      comes_then pages fuel more (λ t u. Kept next s u × HoldsTruth test t u) (λ v t. Kept next s t × Holds out v t) (truth_of c env) (λ t. chosen t (value_of a env) (value_of b env)) sc (conditional (local test.value) first second) s
      (dc.runs pages fuel more row s (omega (arith, enough)) within held has.0 (omega (arith, room, long)))
      (λ t u is_t left.
      let held_u = known_kept next s u row known left.0 low_known held in
      comes_choose pages fuel more some (λ v w. Kept next s w × Holds out v w) (chosen t (value_of a env) (value_of b env)) (local test.value) (same_truth t True) first second u (true_word test t u left.1)
      (λ taken. rw (chosen_true t (value_of a env) (value_of b env) taken)
      (placed pages fuel more row s u within some left.0 held_u (omega (arith, room, left.0.many)) a oa (m + length (place_types text)) sa owna ca typed.1.0.0 has.1.0 both_suit.0 (omega arith) (omega (arith, room, long, left.0.many)) (omega (arith, enough)) (omega arith) first_null))
      (λ no. rw (chosen_other t (value_of a env) (value_of b env) no)
      (placed pages fuel more row s u within some left.0 held_u (omega (arith, room, left.0.many)) b ob (m + length (place_types text) + length owna) sb ownb cb typed.1.0.1 has.1.1 both_suit.1 (omega arith) (omega (arith, room, long, left.0.many)) (omega (arith, enough)) (omega arith) second_null)))

  pub choice_computes : Computes known (choice c a b) next out block own
  choice_computes = record {
    kind_is = rw (ca.kind_is, cb.kind_is) refl;
    scale_is = rw (ca.scale_is, cb.scale_is) refl;
    below =
        let places = place_low text m in
        (omega (arith, places.0, long), omega (arith, places.1, long), null_low (either_of to.null oa.cell.null ob.cell.null));
    runs = runs;
    typed = λ types declared declares.
        let rest = declares_rest types next ownc (place_types text ++ (owna ++ ownb)) declares in
        let mine = declares_first types m (place_types text) (owna ++ ownb) rest in
        let results = declares_rest types m (place_types text) (owna ++ ownb) rest in
        let one = dc.typed types declared (declares_first types next ownc (place_types text ++ (owna ++ ownb)) declares) in
        let two = ca.typed types declared (declares_first types (m + length (place_types text)) owna ownb results) in
        let three = cb.typed types declared (declares_rest types (m + length (place_types text)) owna ownb results) in
        let word = word_declared types text m mine in
        let suits_a = subst (Suits text) (sym ca.kind_is) both_suit.0 in
        let suits_b = subst (Suits text) (sym cb.kind_is) both_suit.1 in
        let at : DeclaresKind types (record { value = to.value; length = to.length; null = None }) (kind_of (choice c a b)) = place_declared types text m (kind_of (choice c a b)) suits mine in
        let joined_is : joined oa.kind ob.kind ≡ kind_of (choice c a b) = rw (ca.kind_is, cb.kind_is) refl in (
          (
            one.0,
            (
              one.1.0,
              (two.0, copy_typed types to oa.cell oa.kind (place_declared types text m oa.kind suits_a mine) word two.1.0 two.1.1),
              (three.0, copy_typed types to ob.cell ob.kind (place_declared types text m ob.kind suits_b mine) word three.1.0 three.1.1),
            ),
          ),
          (
            same_kind types (record { value = to.value; length = to.length; null = None }) out.cell out.kind refl refl (subst (DeclaresKind types (record { value = to.value; length = to.length; null = None })) (sym joined_is) at),
            null_declared types word (either_of to.null oa.cell.null ob.cell.null),
          ),
        );
  }
    where
      null_low : (out.cell.null ≡ Some to.null) ⊎ ((out.cell.null ≡ None) × ((oa.cell.null ≡ None) × (ob.cell.null ≡ None))) → IsBelowNull (next + length own) out.cell.null
      null_low (inl there) =
          let places = place_low text m in
          subst (IsBelowNull (next + length own)) (sym there) (omega (arith, places.2, long))
      null_low (inr none) = subst (IsBelowNull (next + length own)) (sym none.0) tt

      null_declared : (types : List ValType) → slice_get types to.null ≡ Some I32 → (out.cell.null ≡ Some to.null) ⊎ ((out.cell.null ≡ None) × ((oa.cell.null ≡ None) × (ob.cell.null ≡ None))) → DeclaresNull types out.cell.null
      null_declared types word (inl there) = subst (DeclaresNull types) (sym there) word
      null_declared types word (inr none) = subst (DeclaresNull types) (sym none.0) tt
