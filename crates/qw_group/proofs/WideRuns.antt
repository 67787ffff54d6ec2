-- What the blocks on two words come to.
use Rattle.std.proofs.Common.{◌≡◌, ◌≢◌, ℕ, suc, ◌+◌, ◌-◌, ◌*◌, ◌%◌, ◌^◌, ◌<◌, ◌≤◌, ◌==◌, nat_lt, not, Bool, true, false, ℤ, pos, negsuc, ◌+ℤ◌, unsigned_abs, FitsSigned, IsTrue, List, length, length-set, Some, slice_get, slice_set, refl, sym, ap, ◌∙◌, subst, ⊎_elim, arith, w64}
use Rattle.std.specs.Int.{cast_signed}
use Rattle.std.proofs.lemmas.Bool.{cases_lt, cases_eq, eq-eqb, ne_eqb, lt-ltb, le-ltb}
use Rattle.std.proofs.lemmas.Int.{ints, of_z-to_z}
use Rattle.qw_types.specs.Arithmetic.{fits, checked}
use Rattle.qw_map.proofs.TurnFacts.{slice_get-set_same, slice_get-set_other}
use Rattle.qw_module.specs.declared.instruction.ValType.TheVariants.{I64}
use Rattle.qw_module.specs.declared.instruction.Sign.TheVariants.{Unsigned}
use Rattle.qw_module.specs.declared.instruction.Binary.TheVariants.{Add}
use Rattle.qw_module.specs.declared.instruction.Relation.TheVariants.{Ne, Lt}
use Rattle.qw_module.specs.declared.instruction.Conversion.TheVariants.{Extend}
use Rattle.qw_module.specs.Numbers.{truth}
use Rattle.qw_low.specs.Syntax.{Expression, local, binop, relop, cvtop, seq, assign}
use Rattle.qw_low.specs.State.{Value, Number, LowState}
use Rattle.qw_low.specs.Meaning.{value, meaning}
use Rattle.qw_low.specs.Promise.{Ends}
use Rattle.qw_low.specs.Raising.{Kept, Leaves, Raises}
use Rattle.qw_low.specs.Held.{HoldsNumber}
use Rattle.qw_low.proofs.Promises.{assign_ends}
use Rattle.qw_low.proofs.Results.{Kept-same, Kept-set}
use Rattle.qw_low.proofs.BlockSteps.{assign_then}
use Rattle.qw_feed.proofs.Frames.{Never}
use Rattle.qw_group.specs.Wides.{i64}
use Rattle.qw_wide.proofs.Words.{word, word_back}
use Rattle.qw_wide.proofs.Relations.{fits_back}
use Rattle.qw_group.specs.Wides.{IsWide, HoldsWide, sign_of, add_128_block}
use Rattle.qw_group.specs.Inner.WideBlocks.{fit_block}
use Rattle.qw_group.proofs.WideFacts.{sign_word, sign-shifted, wide-add}

abbrev pub none : ℕ → Type 0
none code = ⊥

pub set_other : (xs : List Value) (x i : ℕ) (v w : Value) → (i ≡ x → ⊥) → slice_get xs i ≡ Some w → slice_get (slice_set xs x v) i ≡ Some w
set_other xs x i v w other is = slice_get-set_other xs x i v other ∙ is

pub sign_then : (s : LowState) (e : Expression) (v : ℤ) → FitsSigned w64 v → value s e ≡ Some (Number (word v)) → value s (sign_of e) ≡ Some (Number (sign_word v))
sign_then s e v fit is = rw (is, word_back v fit, sign-shifted v fit) refl

-- ---- an addition
module _ (most fuel n x : ℕ) (s : LowState) (z v : ℤ) (below : x < n) (has : HoldsWide s n z) (adds : slice_get s.locals x ≡ Some (Number (word v))) (fit : FitsSigned w64 v)
    (small : unsigned_abs (z +ℤ v) < 2 ^ 127) (room : n + 2 < length s.locals) where
  abbrev low' : ℕ
  low' = (has.low + word v) % 2 ^ 64

  abbrev high' : ℕ
  high' = ((has.high + sign_word v) % 2 ^ 64 + truth (nat_lt low' has.low)) % 2 ^ 64

  abbrev s1 : LowState
  s1 = record s { locals = slice_set s.locals (n + 2) (Number low') }

  abbrev s2 : LowState
  s2 = record s1 { locals = slice_set s1.locals (n + 1) (Number high') }

  abbrev s3 : LowState
  s3 = record s2 { locals = slice_set s2.locals n (Number low') }

  first : value s (binop I64 Add (local n) (local x)) ≡ Some (Number low')
  first = rw (has.low_at, adds) refl

  many1 : length s1.locals ≡ length s.locals
  many1 = length-set s.locals (n + 2) (Number low')

  many2 : length s2.locals ≡ length s.locals
  many2 = length-set s1.locals (n + 1) (Number high') ∙ many1

  own1 : slice_get s1.locals (n + 2) ≡ Some (Number low')
  own1 = slice_get-set_same s.locals (n + 2) (Number low') room

  second : value s1 (binop I64 Add (binop I64 Add (local (n + 1)) (sign_of (local x))) (cvtop (Extend Unsigned) (relop I64 (Lt Unsigned) (local (n + 2)) (local n)))) ≡ Some (Number high')
  second = rw (
    sign_then s1 (local x) v fit (set_other s.locals (n + 2) x (Number low') (Number (word v)) (λ e. omega (arith, e, below)) adds),
    set_other s.locals (n + 2) (n + 1) (Number low') (Number has.high) (λ e. omega (arith, e)) has.high_at,
    set_other s.locals (n + 2) n (Number low') (Number has.low) (λ e. omega (arith, e)) has.low_at,
    own1,
  ) refl

  third : value s2 (local (n + 2)) ≡ Some (Number low')
  third = set_other s1.locals (n + 1) (n + 2) (Number high') (Number low') (λ e. omega (arith, e)) own1

  added : Kept n s s3 × HoldsWide s3 n (z +ℤ v)
  added = (
    Kept-set n s s2 n (Number low') (Kept-set n s s1 (n + 1) (Number high') (Kept-set n s s (n + 2) (Number low') (Kept-same n s) (omega arith)) (omega arith)) (omega arith),
    record {
      low = low';
      high = high';
      low_at = slice_get-set_same s2.locals n (Number low') (omega (arith, many2, room));
      high_at = set_other s2.locals n (n + 1) (Number low') (Number high') (λ e. omega (arith, e)) (slice_get-set_same s1.locals (n + 1) (Number high') (omega (arith, many1, room)));
      is = wide-add has.low has.high z v has.is fit small;
    },
  )

  pub add_128_ends : Ends 17 (λ t. Kept n s t × HoldsWide t n (z +ℤ v)) Never none (meaning most fuel (add_128_block n x) s)
  add_128_ends =
      let P : LowState → Type 0 = λ t. Kept n s t × HoldsWide t n (z +ℤ v) in
      let e2 : Expression = binop I64 Add (binop I64 Add (local (n + 1)) (sign_of (local x))) (cvtop (Extend Unsigned) (relop I64 (Lt Unsigned) (local (n + 2)) (local n))) in
      assign_then P Never none most fuel s 13 (seq (assign (n + 1) e2) (assign n (local (n + 2)))) (n + 2) (binop I64 Add (local n) (local x)) (Number low') first room
      (assign_then P Never none most fuel s1 2 (assign n (local (n + 2))) (n + 1) e2 (Number high') second (omega (arith, many1, room))
      (assign_ends P Never none most fuel n (local (n + 2)) (Number low') s2 third (omega (arith, many2, room)) added))

-- ---- a sum's end
-- where the high word is the low one's sign, the low word is the number
narrow : (low high : ℕ) (z v : ℤ) → IsWide low high z → FitsSigned w64 v → word v ≡ low → high ≡ sign_word v → z ≡ v
narrow low high (pos a) (pos b) is fit low_is high_is = ap pos (omega (arith, is.value_is, low_is, high_is))
narrow low high (pos a) (negsuc b) is fit low_is high_is =
    let s_is : sign_word (negsuc b) ≡ 2 ^ 64 - 1 = refl in
    absurd (omega (arith, is.value_is, low_is, high_is, is.small, s_is))
narrow low high (negsuc a) (pos b) is fit low_is high_is = absurd (omega (arith, is.value_is, low_is, high_is, is.small, is.low_is))
narrow low high (negsuc a) (negsuc b) is fit low_is high_is =
    let s_is : sign_word (negsuc b) ≡ 2 ^ 64 - 1 = refl in
    let w_is : word (negsuc b) ≡ 2 ^ 64 - suc b = refl in
    ap negsuc (omega (arith, ints, fit, is.value_is, low_is, high_is, is.small, s_is, w_is))

-- and else it has more than 18 digits
broad : (low high : ℕ) (z v : ℤ) → IsWide low high z → FitsSigned w64 v → word v ≡ low → (high ≡ sign_word v → ⊥) → 2 ^ 63 ≤ unsigned_abs z
broad low high (pos a) (pos b) is fit low_is high_not = ⊎_elim (λ zeroth. absurd (high_not zeroth)) (λ (more : high ≢ 0). omega (arith, is.value_is, more)) (cases_eq high 0)
broad low high (pos a) (negsuc b) is fit low_is high_not =
    let w_is : word (negsuc b) ≡ 2 ^ 64 - suc b = refl in
    omega (arith, ints, fit, is.value_is, low_is, w_is)
broad low high (negsuc a) (pos b) is fit low_is high_not =
    let w_is : word (pos b) ≡ b = refl in
    omega (arith, ints, fit, is.value_is, low_is, is.high_is, is.small, w_is)
broad low high (negsuc a) (negsuc b) is fit low_is high_not = ⊎_elim
    (λ same. absurd (high_not same))
    (λ (other : high ≢ 2 ^ 64 - 1). omega (arith, is.value_is, other, is.high_is, is.low_is, is.small))
    (cases_eq high (2 ^ 64 - 1))

-- one comparison without sign tests the magnitude of any word
past_limit : (v : ℤ) → FitsSigned w64 v → nat_lt (2 * (10 ^ 18 - 1)) ((word v + (10 ^ 18 - 1)) % 2 ^ 64) ≡ not (fits v)
past_limit (pos a) fit = ⊎_elim
    (λ (less : a < 10 ^ 18). rw (lt-ltb a (10 ^ 18) less, le-ltb (2 * (10 ^ 18 - 1)) ((a + (10 ^ 18 - 1)) % 2 ^ 64) (omega (arith, less))) refl)
    (λ (more : 10 ^ 18 ≤ a). rw (le-ltb a (10 ^ 18) more, lt-ltb (2 * (10 ^ 18 - 1)) ((a + (10 ^ 18 - 1)) % 2 ^ 64) (omega (arith, ints, fit, more))) refl)
    (cases_lt a (10 ^ 18))
past_limit (negsuc a) fit = ⊎_elim
    (λ (less : suc a < 10 ^ 18). rw (lt-ltb (suc a) (10 ^ 18) less, le-ltb (2 * (10 ^ 18 - 1)) ((2 ^ 64 - suc a + (10 ^ 18 - 1)) % 2 ^ 64) (omega (arith, less))) refl)
    (λ (more : 10 ^ 18 ≤ suc a). rw (le-ltb (suc a) (10 ^ 18) more, lt-ltb (2 * (10 ^ 18 - 1)) ((2 ^ 64 - suc a + (10 ^ 18 - 1)) % 2 ^ 64) (omega (arith, ints, fit, more))) refl)
    (cases_lt (suc a) (10 ^ 18))

module _ (most fuel n : ℕ) (s : LowState) (z : ℤ) (has : HoldsWide s n z) where
  -- the low word, as a number
  abbrev v : ℤ
  v = cast_signed w64 has.low

  abbrev Fits : ℤ → LowState → Type 0
  Fits w t = (t ≡ s) × HoldsNumber t n w × IsTrue (fits w)

  abbrev test_one : Expression
  test_one = relop I64 Ne (local (n + 1)) (sign_of (local n))

  abbrev test_two : Expression
  test_two = relop I64 (Lt Unsigned) (i64 (2 * (10 ^ 18 - 1))) (binop I64 Add (local n) (i64 (10 ^ 18 - 1)))

  fit_v : FitsSigned w64 v
  fit_v = fits_back has.low v has.is.low_is refl

  back : word v ≡ has.low
  back = of_z-to_z w64 has.low has.is.low_is

  one_is : value s test_one ≡ Some (Number (truth (not (has.high == sign_word v))))
  one_is = rw (has.high_at, sign_then s (local n) v fit_v (has.low_at ∙ ap (λ (m : ℕ). Some (Number m)) (sym back))) refl

  two_is : value s test_two ≡ Some (Number (truth (not (fits v))))
  two_is = rw (has.low_at) (ap (λ (b : Bool). Some (Number (truth b))) (subst (λ (m : ℕ). nat_lt (2 * (10 ^ 18 - 1)) ((m + (10 ^ 18 - 1)) % 2 ^ 64) ≡ not (fits v)) back (past_limit v fit_v)))

  ends_by : (g : Bool) → (has.high == sign_word v) ≡ g → (z_in : Bool) → fits v ≡ z_in → (g ≡ true → z ≡ v) → (g ≡ false → fits z ≡ false) →
      Ends 16 (Leaves Fits (checked z)) Never (Raises (checked z)) (meaning most fuel (fit_block n) s)
  ends_by false g_is z_in z_is same not_in = rw (one_is, g_is, not_in refl) (omega arith, refl)
  ends_by true g_is true z_is same not_in = rw (same refl) (rw (one_is, g_is, two_is, z_is) (omega arith, (refl, (has.low, has.low_at, has.is.low_is, refl), z_is)))
  ends_by true g_is false z_is same not_in = rw (same refl) (rw (one_is, g_is, two_is, z_is) (omega arith, refl))

  pub fit_ends : Ends 16 (Leaves Fits (checked z)) Never (Raises (checked z)) (meaning most fuel (fit_block n) s)
  fit_ends = ⊎_elim
      (λ (same : has.high ≡ sign_word v). ends_by true (eq-eqb has.high (sign_word v) same) (fits v) refl (λ is. narrow has.low has.high z v has.is fit_v back same) (λ is. absurd cc))
      (λ (other : has.high ≢ sign_word v). ends_by false (ne_eqb has.high (sign_word v) other) (fits v) refl (λ is. absurd cc)
      (λ is. le-ltb (unsigned_abs z) (10 ^ 18) (let big = broad has.low has.high z v has.is fit_v back other in omega (arith, big))))
      (cases_eq has.high (sign_word v))
