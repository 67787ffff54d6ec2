-- A value that is copied to a place.
use Rattle.std.proofs.Common.{◌≡◌, ℕ, ◌+◌, ℤ, ◌<◌, ◌≤◌, Bool, true, false, IsTrue, List, length, length-set, get_or, Option, Some, None, Result, Ok, slice_get, slice_set, refl, sym, ap, ◌∙◌, subst, inl, inr, ◌⊎◌, arith}
use Rattle.std.proofs.lemmas.Option.{slice_get-get_or, slice_get_within}
use Rattle.qw_types.specs.Arithmetic.{fits}
use Rattle.qw_types.specs.declared.code.Code.{Code}
use Rattle.qw_types.specs.declared.kind.Kind.{Kind}
use Rattle.qw_types.specs.declared.kind.Kind.TheVariants as kind
use Rattle.qw_types.specs.declared.value.Val.{Val}
use Rattle.qw_types.specs.declared.value.Val.TheVariants as val
use Rattle.qw_scalar.specs.Typing.{IsValueOf}
use Rattle.qw_map.proofs.TurnFacts.{slice_get-set_same, slice_get-set_other}
use Rattle.qw_module.specs.Numbers.{truth}
use Rattle.qw_low.specs.declared.cell.Cell.{Cell}
use Rattle.qw_low.specs.Syntax.{Statement, local, skip, seq, assign}
use Rattle.qw_low.specs.State.{Value, Number, Address, LowState}
use Rattle.qw_low.specs.Meaning.{value}
use Rattle.qw_low.specs.Raising.{Kept}
use Rattle.qw_low.specs.Held.{HoldsNumber, HoldsText, SaysNull, SaysValue}
use Rattle.qw_low.proofs.Results.{Kept-same, Kept-set, Kept-one, Comes, comes_set, comes_assign, comes_then, comes_skip}
use Rattle.qw_expr.specs.Cells.{HoldsValue, IsBelow}
use Rattle.qw_expr.specs.Inner.Truths.{unknown_word}
use Rattle.qw_expr.specs.Inner.Choices.{Suits, place_types, place_at, copy_block}
use Rattle.qw_expr.proofs.Nulls.{number_kept, text_kept, sizes}

-- whether a value is null
abbrev pub is_none : Val → Bool
is_none val.Null = true
is_none (val.Num v) = false
is_none (val.Date d) = false
is_none (val.Text t) = false

-- its value's locals, null or not
abbrev pub HoldsPart : (x y : ℕ) → Val → LowState → Type 0
HoldsPart x y val.Null s = Unit {0}
HoldsPart x y (val.Num v) s = HoldsNumber s x v × IsTrue (fits v)
HoldsPart x y (val.Date d) s = HoldsNumber s x d
HoldsPart x y (val.Text t) s = HoldsText s x y t

part_of : (c : Cell) (v : Val) (s : LowState) → HoldsValue c v s → HoldsPart c.value c.length v s
part_of c val.Null s holds = tt
part_of c (val.Num v) s holds = (holds.0, holds.1)
part_of c (val.Date d) s holds = holds.0
part_of c (val.Text t) s holds = holds.0

part_kept : (n : ℕ) (s t : LowState) (x y : ℕ) (v : Val) → Kept n s t → x < n → y < n → HoldsPart x y v s → HoldsPart x y v t
part_kept n s t x y val.Null kept low_x low_y holds = tt
part_kept n s t x y (val.Num v) kept low_x low_y holds = (number_kept n s t x v kept low_x holds.0, holds.1)
part_kept n s t x y (val.Date d) kept low_x low_y holds = number_kept n s t x d kept low_x holds
part_kept n s t x y (val.Text o) kept low_x low_y holds = text_kept n s t x y o kept low_x low_y holds

-- the null word's value, where it isn't among what was set
word_of : (v : Val) (n : Option ℕ) (s u : LowState) (c : Cell) → c.null ≡ n → HoldsValue c v s → ((x : ℕ) → n ≡ Some x → slice_get u.locals x ≡ slice_get s.locals x) → value u (unknown_word n) ≡ Some (Number (truth (is_none v)))
word_of val.Null None s u c is holds same = absurd (subst (SaysNull s) is holds)
word_of val.Null (Some x) s u c is holds same = same x refl ∙ subst (SaysNull s) is holds
word_of (val.Num v) None s u c is holds same = refl
word_of (val.Num v) (Some x) s u c is holds same = same x refl ∙ subst (SaysValue s) is holds.2
word_of (val.Date d) None s u c is holds same = refl
word_of (val.Date d) (Some x) s u c is holds same = same x refl ∙ subst (SaysValue s) is holds.1
word_of (val.Text t) None s u c is holds same = refl
word_of (val.Text t) (Some x) s u c is holds same = same x refl ∙ subst (SaysValue s) is holds.1

-- without a null word there is a value
never_null : (v : Val) (c : Cell) (s : LowState) → c.null ≡ None → HoldsValue c v s → is_none v ≡ false
never_null val.Null c s none holds = absurd (subst (SaysNull s) none holds)
never_null (val.Num v) c s none holds = refl
never_null (val.Date d) c s none holds = refl
never_null (val.Text t) c s none holds = refl

-- a value from its parts
whole_of : (x y w : ℕ) (null : Option ℕ) (v : Val) (s : LowState) → (null ≡ Some w) ⊎ ((null ≡ None) × (is_none v ≡ false)) → HoldsPart x y v s → slice_get s.locals w ≡ Some (Number (truth (is_none v))) →
    HoldsValue (record { value = x; length = y; null = null }) v s
whole_of x y w null val.Null s (inl there) part word = rw there word
whole_of x y w null (val.Num v) s (inl there) part word = rw there (part.0, part.1, word)
whole_of x y w null (val.Date d) s (inl there) part word = rw there (part, word)
whole_of x y w null (val.Text t) s (inl there) part word = rw there (part, word)
whole_of x y w null val.Null s (inr never) part word = absurd cc
whole_of x y w null (val.Num v) s (inr never) part word = rw (never.0) (part.0, part.1, tt)
whole_of x y w null (val.Date d) s (inr never) part word = rw (never.0) (part, tt)
whole_of x y w null (val.Text t) s (inr never) part word = rw (never.0) (part, tt)

number_moved : (s : LowState) (m x : ℕ) (v : ℤ) (found : Value) → slice_get s.locals x ≡ Some found → m < length s.locals → HoldsNumber s x v → HoldsNumber (record s { locals = slice_set s.locals m found }) m v
number_moved s m x v found is room holds = (holds.0, slice_get-set_same s.locals m found room ∙ sym is ∙ holds.1, holds.2, holds.3)

part_moved : (s : LowState) (m x : ℕ) (k : Option Kind) (v : Val) (y z : ℕ) (found : Value) → Suits false k → IsValueOf k v → slice_get s.locals x ≡ Some found → m < length s.locals → HoldsPart x z v s → HoldsPart m y v (record s { locals = slice_set s.locals m found })
part_moved s m x k val.Null y z found suits of is room part = tt
part_moved s m x k (val.Num v) y z found suits of is room part = (number_moved s m x v found is room part.0, part.1)
part_moved s m x k (val.Date d) y z found suits of is room part = number_moved s m x d found is room part
part_moved s m x None (val.Text t) y z found suits of is room part = absurd cc
part_moved s m x (Some (kind.Number n)) (val.Text t) y z found suits of is room part = absurd of
part_moved s m x (Some kind.Date) (val.Text t) y z found suits of is room part = absurd of
part_moved s m x (Some kind.Text) (val.Text t) y z found suits of is room part = absurd cc

text_moved : (s : LowState) (m a c : ℕ) (octets : List ℕ) → m + 1 < length s.locals → (c ≡ m → ⊥) → HoldsText s a c octets →
    let one : LowState = record s { locals = slice_set s.locals m (get_or s.locals a (Number 0)) } in
    HoldsText (record one { locals = slice_set one.locals (m + 1) (get_or one.locals c (Number 0)) }) m (m + 1) octets
text_moved s m a c octets room apart holds =
    let found : Value = get_or s.locals a (Number 0) in
    let one : LowState = record s { locals = slice_set s.locals m found } in
    let next : Value = get_or one.locals c (Number 0) in
    let two : LowState = record one { locals = slice_set one.locals (m + 1) next } in
    let long : length one.locals ≡ length s.locals = length-set s.locals m found in
    let is_found = slice_get-get_or s.locals a (Number 0) (slice_get_within s.locals a (Address holds.part holds.offset) holds.is_at) in
    let there = slice_get-set_other s.locals m c found apart ∙ holds.is_long in
    let is_next = slice_get-get_or one.locals c (Number 0) (slice_get_within one.locals c (Number (length octets)) there) in
    let kept : Kept m s two = Kept-set m s one (m + 1) next (Kept-one s m found) (omega arith) in
    record {
      part = holds.part;
      offset = holds.offset;
      is_at = (Kept-one one (m + 1) next).below m (omega arith) ∙ slice_get-set_same s.locals m found (omega (arith, room)) ∙ sym is_found ∙ holds.is_at;
      is_long = slice_get-set_same one.locals (m + 1) next (omega (arith, room, long)) ∙ sym is_next ∙ there;
      short = holds.short;
      lies = record {
        size = holds.lies.size;
        sized = sizes m s two holds.part kept ∙ holds.lies.sized;
        inside = holds.lies.inside;
        each = λ i octet at. ap (λ (u : LowState). u.cells holds.part (holds.offset + i) 1) kept.others ∙ holds.lies.each i octet at;
      };
    }

-- where a value may be that is copied: not in the locals of its place
abbrev pub IsApart : Cell → Val → ℕ → Type 0
IsApart c val.Null x = c.null ≡ Some x → ⊥
IsApart c (val.Num v) x = c.null ≡ Some x → ⊥
IsApart c (val.Date d) x = c.null ≡ Some x → ⊥
IsApart c (val.Text t) x = (c.null ≡ Some x → ⊥) × (c.length ≡ x → ⊥)

null_apart : (c : Cell) (v : Val) (x : ℕ) → IsApart c v x → c.null ≡ Some x → ⊥
null_apart c val.Null x apart = apart
null_apart c (val.Num v) x apart = apart
null_apart c (val.Date d) x apart = apart
null_apart c (val.Text t) x apart = apart.0

module _ (most fuel N : ℕ) (some : 1 ≤ N) where
  at_state : {B : Type 0} (Q : B → LowState → Type 0) (r : Result B Code) (a b : Statement) (s after : LowState) → Comes most fuel N {A = ℕ} (λ n u. u ≡ after) (Ok 0) a s → Comes most fuel N Q r b after → Comes most fuel N Q r (seq a b) s
  at_state Q r a b s after first second = comes_then most fuel N {A = ℕ} (λ n u. u ≡ after) Q (Ok 0) (λ n. r) a b s first (λ n u same is_after. subst (λ (z : LowState). Comes most fuel N Q r b z) (sym is_after) second)

  module _ (m : ℕ) (t : LowState) (from : Cell) (v : Val) (holds : HoldsValue from v t) (low : IsBelow (length t.locals) from) (x y w : ℕ) (null : Option ℕ) (nulls : (null ≡ Some w) ⊎ ((null ≡ None) × (from.null ≡ None))) where
    abbrev Post : Val → LowState → Type 0
    Post a z = Kept m t z × HoldsValue (record { value = x; length = y; null = null }) a z

    -- the null word is set last
    word_last : (u : LowState) → Kept m t u → m ≤ w → x < w → y < w → w < length u.locals → HoldsPart x y v u → ((z : ℕ) → from.null ≡ Some z → slice_get u.locals z ≡ slice_get t.locals z) →
        Comes most fuel N Post (Ok v) (assign w (unknown_word from.null)) u
    word_last u kept le low_x low_y room part same =
        let word : ℕ = truth (is_none v) in
        let z : LowState = record u { locals = slice_set u.locals w (Number word) } in
        comes_assign most fuel N some Post v w (unknown_word from.null) (Number word) u (word_of v from.null t u from refl holds same) room (
          Kept-set m t u w (Number word) kept le,
          whole_of x y w null v z (by_null nulls) (part_kept w u z x y v (Kept-one u w (Number word)) low_x low_y part) (slice_get-set_same u.locals w (Number word) room),
        )
      where
        by_null : (null ≡ Some w) ⊎ ((null ≡ None) × (from.null ≡ None)) → (null ≡ Some w) ⊎ ((null ≡ None) × (is_none v ≡ false))
        by_null (inl there) = inl there
        by_null (inr none) = inr (none.0, never_null v from t (none.1) holds)

  other_null : (s : LowState) (x : ℕ) (found : Value) (n : Option ℕ) → (n ≡ Some x → ⊥) → (z : ℕ) → n ≡ Some z → slice_get (slice_set s.locals x found) z ≡ slice_get s.locals z
  other_null s x found n apart z is = slice_get-set_other s.locals x z found (λ e. apart (subst (λ k. n ≡ Some k) e is))

  -- a number or a date, or null that has a kind
  word_copied : (k : Option Kind) (m : ℕ) (t : LowState) (from : Cell) (v : Val) (null : Option ℕ) → Suits false k → IsValueOf k v → HoldsValue from v t → IsBelow (length t.locals) from → m + 1 < length t.locals →
      (null ≡ Some (m + 1)) ⊎ ((null ≡ None) × (from.null ≡ None)) → IsApart from v m →
      Comes most fuel N (λ a z. Kept m t z × HoldsValue (record { value = m; length = m; null = null }) a z) (Ok v) (seq (assign m (local from.value)) (assign (m + 1) (unknown_word from.null))) t
  word_copied k m t from v null suits of holds low room nulls apart =
      let found : Value = get_or t.locals from.value (Number 0) in
      let is = slice_get-get_or t.locals from.value (Number 0) low.0 in
      let u : LowState = record t { locals = slice_set t.locals m found } in
      let long : length u.locals ≡ length t.locals = length-set t.locals m found in
      comes_set most fuel N some (λ a z. Kept m t z × HoldsValue (record { value = m; length = m; null = null }) a z) (Ok v) m (local from.value) found (assign (m + 1) (unknown_word from.null)) t is (omega (arith, room))
      (word_last m t from v holds low m m (m + 1) null nulls u (Kept-one t m found) (omega arith) (omega arith) (omega arith) (omega (arith, room, long))
      (part_moved t m from.value k v m from.length found suits of is (omega (arith, room)) (part_of from v t holds))
      (other_null t m found from.null (null_apart from v m apart)))

  -- null alone
  null_copied : (x y w m : ℕ) (t : LowState) (from : Cell) (v : Val) (null : Option ℕ) → v ≡ val.Null → HoldsValue from v t → IsBelow (length t.locals) from → m ≤ w → x < w → y < w → w < length t.locals →
      (null ≡ Some w) ⊎ ((null ≡ None) × (from.null ≡ None)) →
      Comes most fuel N (λ a z. Kept m t z × HoldsValue (record { value = x; length = y; null = null }) a z) (Ok v) (seq skip (assign w (unknown_word from.null))) t
  null_copied x y w m t from v null is_val holds low le low_x low_y room nulls =
      at_state (λ a z. Kept m t z × HoldsValue (record { value = x; length = y; null = null }) a z) (Ok v) skip (assign w (unknown_word from.null)) t t (comes_skip most fuel N some {A = ℕ} (λ n u. u ≡ t) 0 t refl)
      (word_last m t from v holds low x y w null nulls t (Kept-same m t) le low_x low_y room (subst (λ (a : Val). HoldsPart x y a t) (sym is_val) tt) (λ z is. refl))

  -- a text
  text_copied : (m : ℕ) (t : LowState) (from : Cell) (v : Val) (null : Option ℕ) → IsValueOf (Some kind.Text) v → HoldsValue from v t → IsBelow (length t.locals) from → m + 2 < length t.locals →
      (null ≡ Some (m + 2)) ⊎ ((null ≡ None) × (from.null ≡ None)) → IsApart from v m → IsApart from v (m + 1) →
      Comes most fuel N (λ a z. Kept m t z × HoldsValue (record { value = m; length = m + 1; null = null }) a z) (Ok v)
      (seq (seq (assign m (local from.value)) (assign (m + 1) (local from.length))) (assign (m + 2) (unknown_word from.null))) t
  text_copied m t from v null of holds low room nulls apart further =
      let found : Value = get_or t.locals from.value (Number 0) in
      let u : LowState = record t { locals = slice_set t.locals m found } in
      let next : Value = get_or u.locals from.length (Number 0) in
      let z : LowState = record u { locals = slice_set u.locals (m + 1) next } in
      let long : length u.locals ≡ length t.locals = length-set t.locals m found in
      let longer : length z.locals ≡ length u.locals = length-set u.locals (m + 1) next in
      at_state (λ a b. Kept m t b × HoldsValue (record { value = m; length = m + 1; null = null }) a b) (Ok v) (seq (assign m (local from.value)) (assign (m + 1) (local from.length))) (assign (m + 2) (unknown_word from.null)) t z
      (comes_set most fuel N some {B = ℕ} (λ n b. b ≡ z) (Ok 0) m (local from.value) found (assign (m + 1) (local from.length)) t (slice_get-get_or t.locals from.value (Number 0) low.0) (omega (arith, room))
      (comes_assign most fuel N some {A = ℕ} (λ n b. b ≡ z) 0 (m + 1) (local from.length) next u (slice_get-get_or u.locals from.length (Number 0) (omega (arith, low.1, long))) (omega (arith, room, long)) refl))
      (word_last m t from v holds low m (m + 1) (m + 2) null nulls z (Kept-set m t u (m + 1) next (Kept-one t m found) (omega arith)) (omega arith) (omega arith) (omega arith) (omega (arith, room, long, longer))
      (moved v of apart holds)
      (λ i is. other_null u (m + 1) next from.null (null_apart from v (m + 1) further) i is ∙ other_null t m found from.null (null_apart from v m apart) i is))
    where
      moved : (a : Val) → IsValueOf (Some kind.Text) a → IsApart from a m → HoldsValue from a t →
          let found : Value = get_or t.locals from.value (Number 0) in
          let u : LowState = record t { locals = slice_set t.locals m found } in
          HoldsPart m (m + 1) a (record u { locals = slice_set u.locals (m + 1) (get_or u.locals from.length (Number 0)) })
      moved val.Null of apart holds = tt
      moved (val.Num n) of apart holds = absurd of
      moved (val.Date d) of apart holds = absurd of
      moved (val.Text o) of apart holds = text_moved t m from.value from.length o (omega (arith, room)) (apart.1) (holds.0)

  -- whatever it is
  pub copied : (text : Bool) (k : Option Kind) (m : ℕ) (t : LowState) (from : Cell) (v : Val) (null : Option ℕ) → Suits text k → IsValueOf k v → HoldsValue from v t → IsBelow (length t.locals) from → m + length (place_types text) ≤ length t.locals →
      (null ≡ Some (place_at text m).null) ⊎ ((null ≡ None) × (from.null ≡ None)) → ((x : ℕ) → m ≤ x → x < m + length (place_types text) → IsApart from v x) →
      Comes most fuel N (λ a z. Kept m t z × HoldsValue (record { value = (place_at text m).value; length = (place_at text m).length; null = null }) a z) (Ok v) (copy_block k (place_at text m) from) t
  copied true None m t from v null suits of holds low room nulls apart = null_copied m (m + 1) (m + 2) m t from v null of holds low (omega arith) (omega arith) (omega arith) (omega (arith, room)) nulls
  copied false None m t from v null suits of holds low room nulls apart = null_copied m m (m + 1) m t from v null of holds low (omega arith) (omega arith) (omega arith) (omega (arith, room)) nulls
  copied true (Some (kind.Number s)) m t from v null suits of holds low room nulls apart = absurd cc
  copied true (Some kind.Date) m t from v null suits of holds low room nulls apart = absurd cc
  copied true (Some kind.Text) m t from v null suits of holds low room nulls apart = text_copied m t from v null of holds low (omega (arith, room)) nulls (apart m (omega arith) (omega arith)) (apart (m + 1) (omega arith) (omega arith))
  copied false (Some (kind.Number s)) m t from v null suits of holds low room nulls apart = word_copied (Some (kind.Number s)) m t from v null refl of holds low (omega (arith, room)) nulls (apart m (omega arith) (omega arith))
  copied false (Some kind.Date) m t from v null suits of holds low room nulls apart = word_copied (Some kind.Date) m t from v null refl of holds low (omega (arith, room)) nulls (apart m (omega arith) (omega arith))
  copied false (Some kind.Text) m t from v null suits of holds low room nulls apart = absurd cc
