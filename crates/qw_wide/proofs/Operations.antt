-- The blocks of arithmetic keep what `Numbers` says of them.
use Rattle.std.proofs.Common.{◌≡◌, ◌≢◌, ℕ, zero, suc, ◌+◌, ◌-◌, ◌*◌, ◌/◌, ◌^◌, ◌<◌, ◌≤◌, ◌==◌, max, Bool, true, false, ℤ, pos, ◌+ℤ◌, ◌-ℤ◌, ◌*ℤ◌, int_div, unsigned_abs, neg_ℤ, if◌then◌else◌, List, Some, Result, Ok, Err, slice_get, refl, sym, ap, ◌∙◌, subst, ⊎_elim, arith}
use Rattle.std.proofs.lemmas.Bool.{ltb-false, cases_lt, cases_eq, eq-eqb, ne_eqb}
use Rattle.std.proofs.lemmas.Int.{ints, unsigned_abs-mul}
use Rattle.std.proofs.lemmas.Nat.{mul-le}
use Rattle.std.proofs.Math.Nat.{div-le_self}
use Rattle.qw_types.specs.declared.code.Code.{Code}
use Rattle.qw_types.specs.declared.code.Code.TheVariants.{DivZero}
use Rattle.qw_types.specs.Arithmetic.{◌>>=◌, checked, sum_of, difference_of, product_of, quotient_of}
use Rattle.qw_module.specs.declared.instruction.ValType.{ValType}
use Rattle.qw_module.specs.declared.instruction.ValType.TheVariants.{I64}
use Rattle.qw_module.specs.declared.instruction.Binary.{Binary}
use Rattle.qw_module.specs.declared.instruction.Binary.TheVariants.{Add, Sub}
use Rattle.qw_module.specs.Numbers.{binary}
use Rattle.qw_low.specs.Syntax.{Statement}
use Rattle.qw_low.specs.State.{LowState}
use Rattle.qw_low.specs.Meaning.{meaning}
use Rattle.qw_low.specs.Size.{size}
use Rattle.qw_low.specs.Typing.{IsTyped}
use Rattle.qw_low.specs.Promise.{Ends}
use Rattle.qw_low.specs.Raising.{Kept, Leaves, Raises}
use Rattle.qw_low.proofs.Promises.{Ends-more}
use Rattle.qw_low.proofs.Results.{Kept-same, Comes, comes_weaker}
use Rattle.qw_wide.specs.Numbers.{HasNumber, Operates, Converts}
use Rattle.qw_wide.specs.Inner.Blocks.{is_past, capped, check_if, bring_block, brought_in, sum_block, opposite_block, product_block, quotient_block}
use Rattle.qw_wide.proofs.Words.{word, small, word-add, word-sub, quotient_below}
use Rattle.qw_wide.proofs.ArithmeticRuns.{Given, checked_in, checked_past, same_ok, no_ok, scaled_abs, power_small, brings, combines, opposes, multiplies_both, divides}

-- a block that comes to a result at its own size
pub once : {A : Type 0} (most fuel : ℕ) (P : A → LowState → Type 0) (r : Result A Code) (a : Statement) (s : LowState) → Comes most fuel 1 P r a s →
    Ends (size a) (Leaves P r) (λ t. ⊥) (Raises r) (meaning most fuel a s)
once most fuel P r a s h = Ends-more (Leaves P r) (λ t. ⊥) (Raises r) (size a * 1) (size a) (meaning most fuel a s) (omega arith) h

-- ---- magnitudes
pub checked_ok : (z v : ℤ) → checked z ≡ Ok v → (z ≡ v) × (unsigned_abs v < 10 ^ 18)
checked_ok z v is = ⊎_elim
    (λ (less : unsigned_abs z < 10 ^ 18).
    let same : z ≡ v = same_ok (sym (checked_in z less) ∙ is) in
    (same, subst (λ (w : ℤ). unsigned_abs w < 10 ^ 18) same less))
    (λ more. absurd (no_ok (sym is ∙ checked_past z more)))
    (cases_lt (unsigned_abs z) (10 ^ 18))

pub then_ok : {A B : Type 0} (r : Result A Code) (f : A → Result B Code) (v : B) → (r >>= f) ≡ Ok v → (x : A) × (r ≡ Ok x) × (f x ≡ Ok v)
then_ok (Ok x) f v is = (x, refl, is)
then_ok (Err code) f v is = absurd cc

times_more : (m n k : ℕ) → m ≤ n → m * 10 ^ k ≤ n * 10 ^ k
times_more m n k le = mul-le m (10 ^ k) n (10 ^ k) le (omega arith)

-- what no check is wanted for is in range
unchecked : (m n k : ℕ) → m ≤ n → is_past (n * 10 ^ k) ≡ false → m * 10 ^ k < 10 ^ 18
unchecked m n k le past = omega (arith, times_more m n k le, ltb-false (10 ^ 18 - 1) (n * 10 ^ k) past)

brought_most : (a v : ℤ) (m k : ℕ) → unsigned_abs a ≤ m → checked (a *ℤ pos (10 ^ k)) ≡ Ok v → unsigned_abs v ≤ capped (m * 10 ^ k)
brought_most a v m k le is =
    let ok = checked_ok (a *ℤ pos (10 ^ k)) v is in
    let size : unsigned_abs v ≡ unsigned_abs a * 10 ^ k = ap unsigned_abs (sym ok.0) ∙ scaled_abs a k in
    omega (arith, times_more (unsigned_abs a) m k le, ok.1, size)

-- ---- types
check_typed : (types : List ValType) (c : Bool) (limit x : ℕ) → limit < 2 ^ 62 → slice_get types x ≡ Some I64 → IsTyped types (check_if c limit x)
check_typed types false limit x low is = tt
check_typed types true limit x low is = (((is, (omega (arith, low), refl), refl), (omega (arith, low), refl), refl), omega arith, tt)

bring_typed : (types : List ValType) (c : Bool) (k n x : ℕ) → k ≤ 18 → slice_get types x ≡ Some I64 → slice_get types n ≡ Some I64 → IsTyped types (bring_block c k n x)
bring_typed types c zero n x low is_x is_n = tt
bring_typed types c (suc k) n x low is_x is_n =
    (check_typed types c ((10 ^ 18 - 1) / 10 ^ suc k) x (omega (arith, div-le_self (10 ^ 18 - 1) (10 ^ suc k))) is_x, (I64, is_n, (is_x, (omega (arith, power_small (suc k) low), refl), refl)))

brought_typed : (types : List ValType) (k n x : ℕ) → slice_get types x ≡ Some I64 → slice_get types n ≡ Some I64 → slice_get types (brought_in k n x) ≡ Some I64
brought_typed types zero n x is_x is_n = is_x
brought_typed types (suc k) n x is_x is_n = is_n

-- ---- bringing
pub bring_converts : (k x m n : ℕ) → k ≤ 18 → x < n →
    Converts (λ v. checked (v *ℤ pos (10 ^ k))) x m n (brought_in k n x) (capped (m * 10 ^ k)) (bring_block (is_past (m * 10 ^ k)) k n x)
bring_converts k x m n low below = record {
  place = in_place k below;
  runs = λ pages fuel s v has room.
      let r : Result ℤ Code = checked (v *ℤ pos (10 ^ k)) in
      once pages fuel (λ w t. Kept n s t × HasNumber (brought_in k n x) (capped (m * 10 ^ k)) w t) r (bring_block (is_past (m * 10 ^ k)) k n x) s
      (comes_weaker pages fuel 1 (Given n s (brought_in k n x)) (λ w t. Kept n s t × HasNumber (brought_in k n x) (capped (m * 10 ^ k)) w t) r (bring_block (is_past (m * 10 ^ k)) k n x) s
      (λ w t is given. (given.0, (given.1, given.2, brought_most v w m k has.2 is)))
      (brings pages fuel 1 (omega arith) s s (is_past (m * 10 ^ k)) k n x v (Kept-same n s) has.0 has.1 low room (unchecked (unsigned_abs v) m k has.2)));
  typed = λ types is_x is_n. (bring_typed types (is_past (m * 10 ^ k)) k n x low is_x is_n, brought_typed types k n x is_x is_n);
}
  where
    in_place : (k : ℕ) → x < n → brought_in k n x ≤ n
    in_place zero less = omega (arith, less)
    in_place (suc k) less = omega arith

-- ---- sums
module _ (operator : Binary) (made : ℤ → ℤ → ℤ)
    (makes : (v w : ℤ) → unsigned_abs v < 10 ^ 18 → unsigned_abs w < 10 ^ 18 → (binary I64 operator (word v) (word w) ≡ word (made v w)) × (unsigned_abs (made v w) < 2 ^ 62))
    (triangle : (v w : ℤ) → unsigned_abs (made v w) ≤ unsigned_abs v + unsigned_abs w) (ka kb x mx y my n : ℕ) (low_a : ka ≤ 18) (low_b : kb ≤ 18) (below_x : x < n) (below_y : y < n) where
  abbrev result : ℤ → ℤ → Result ℤ Code
  result a b = checked (a *ℤ pos (10 ^ ka)) >>= (λ v. checked (b *ℤ pos (10 ^ kb)) >>= (λ w. checked (made v w)))

  abbrev ma : ℕ
  ma = capped (mx * 10 ^ ka)

  abbrev mb : ℕ
  mb = capped (my * 10 ^ kb)

  abbrev block : Statement
  block = sum_block operator (is_past (mx * 10 ^ ka)) (is_past (my * 10 ^ kb)) (is_past (ma + mb)) ka kb n x y

  within : (a b v w : ℤ) → unsigned_abs a ≤ mx → unsigned_abs b ≤ my → unsigned_abs v ≡ unsigned_abs a * 10 ^ ka → unsigned_abs w ≡ unsigned_abs b * 10 ^ kb → is_past (ma + mb) ≡ false →
      unsigned_abs v < 10 ^ 18 → unsigned_abs w < 10 ^ 18 → unsigned_abs (made v w) < 10 ^ 18
  within a b v w le_a le_b is_v is_w past small_v small_w =
      omega (arith, triangle v w, times_more (unsigned_abs a) mx ka le_a, times_more (unsigned_abs b) my kb le_b, is_v, is_w, small_v, small_w, ltb-false (10 ^ 18 - 1) (ma + mb) past)

  bounded : (a b r : ℤ) → unsigned_abs a ≤ mx → unsigned_abs b ≤ my → result a b ≡ Ok r → unsigned_abs r ≤ capped (ma + mb)
  bounded a b r le_a le_b is =
      let first = then_ok (checked (a *ℤ pos (10 ^ ka))) (λ v. checked (b *ℤ pos (10 ^ kb)) >>= (λ w. checked (made v w))) r is in
      let second = then_ok (checked (b *ℤ pos (10 ^ kb))) (λ w. checked (made first.0 w)) r first.2 in
      let last = checked_ok (made first.0 second.0) r second.2 in
      let same : unsigned_abs (made first.0 second.0) ≡ unsigned_abs r = ap unsigned_abs last.0 in
      omega (arith, triangle first.0 second.0, brought_most a first.0 mx ka le_a first.1, brought_most b second.0 my kb le_b second.1, same, last.1)

  pub sum_operates : Operates result x mx y my n n (capped (ma + mb)) block
  sum_operates = record {
    place = omega arith;
    runs = λ pages fuel s a b has_a has_b room.
        once pages fuel (λ r t. Kept n s t × HasNumber n (capped (ma + mb)) r t) (result a b) block s
        (comes_weaker pages fuel 1 (Given n s n) (λ r t. Kept n s t × HasNumber n (capped (ma + mb)) r t) (result a b) block s
        (λ r t is given. (given.0, (given.1, given.2, bounded a b r has_a.2 has_b.2 is)))
        (combines pages fuel 1 (omega arith) operator made makes s (is_past (mx * 10 ^ ka)) (is_past (my * 10 ^ kb)) (is_past (ma + mb)) ka kb n x y a b has_a.0 has_b.0 has_a.1 has_b.1 below_x below_y low_a low_b room
        (unchecked (unsigned_abs a) mx ka has_a.2) (unchecked (unsigned_abs b) my kb has_b.2) (λ past v w is_v is_w small_v small_w. within a b v w has_a.2 has_b.2 is_v is_w past small_v small_w)));
    typed = λ types is_x is_y is_n is_m. (
      (
        bring_typed types (is_past (mx * 10 ^ ka)) ka n x low_a is_x is_n,
        (
          bring_typed types (is_past (my * 10 ^ kb)) kb (n + 1) y low_b is_y is_m,
          ((I64, is_n, (brought_typed types ka n x is_x is_n, brought_typed types kb (n + 1) y is_y is_m, refl)), check_typed types (is_past (ma + mb)) (10 ^ 18 - 1) n (omega arith) is_n),
        ),
      ),
      is_n,
    );
  }

add_makes : (v w : ℤ) → unsigned_abs v < 10 ^ 18 → unsigned_abs w < 10 ^ 18 → (binary I64 Add (word v) (word w) ≡ word (v +ℤ w)) × (unsigned_abs (v +ℤ w) < 2 ^ 62)
add_makes v w small_v small_w =
    let size : unsigned_abs (v +ℤ w) < 2 ^ 62 = omega (arith, ints, small_v, small_w) in
    (word-add v w (small v (omega (arith, small_v))) (small w (omega (arith, small_w))) (small (v +ℤ w) (omega (arith, size))), size)

sub_makes : (v w : ℤ) → unsigned_abs v < 10 ^ 18 → unsigned_abs w < 10 ^ 18 → (binary I64 Sub (word v) (word w) ≡ word (v -ℤ w)) × (unsigned_abs (v -ℤ w) < 2 ^ 62)
sub_makes v w small_v small_w =
    let size : unsigned_abs (v -ℤ w) < 2 ^ 62 = omega (arith, ints, small_v, small_w) in
    (word-sub v w (small v (omega (arith, small_v))) (small w (omega (arith, small_w))) (small (v -ℤ w) (omega (arith, size))), size)

add_triangle : (v w : ℤ) → unsigned_abs (v +ℤ w) ≤ unsigned_abs v + unsigned_abs w
add_triangle v w = omega (arith, ints)

sub_triangle : (v w : ℤ) → unsigned_abs (v -ℤ w) ≤ unsigned_abs v + unsigned_abs w
sub_triangle v w = omega (arith, ints)

larger_near : (sa sb : ℕ) → sa ≤ 18 → sb ≤ 18 → (max sa sb - sa ≤ 18) × (max sa sb - sb ≤ 18)
larger_near sa sb la lb = (omega arith, omega arith)

pub add_operates : (sa sb x mx y my n : ℕ) → sa ≤ 18 → sb ≤ 18 → x < n → y < n →
    let ma = capped (mx * 10 ^ (max sa sb - sa)) in let mb = capped (my * 10 ^ (max sa sb - sb)) in
    Operates (λ v w. sum_of v sa w sb) x mx y my n n (capped (ma + mb))
    (sum_block Add (is_past (mx * 10 ^ (max sa sb - sa))) (is_past (my * 10 ^ (max sa sb - sb))) (is_past (ma + mb)) (max sa sb - sa) (max sa sb - sb) n x y)
add_operates sa sb x mx y my n la lb below_x below_y =
    sum_operates Add (λ v w. v +ℤ w) add_makes add_triangle (max sa sb - sa) (max sa sb - sb) x mx y my n (larger_near sa sb la lb).0 (larger_near sa sb la lb).1 below_x below_y

pub sub_operates : (sa sb x mx y my n : ℕ) → sa ≤ 18 → sb ≤ 18 → x < n → y < n →
    let ma = capped (mx * 10 ^ (max sa sb - sa)) in let mb = capped (my * 10 ^ (max sa sb - sb)) in
    Operates (λ v w. difference_of v sa w sb) x mx y my n n (capped (ma + mb))
    (sum_block Sub (is_past (mx * 10 ^ (max sa sb - sa))) (is_past (my * 10 ^ (max sa sb - sb))) (is_past (ma + mb)) (max sa sb - sa) (max sa sb - sb) n x y)
sub_operates sa sb x mx y my n la lb below_x below_y =
    sum_operates Sub (λ v w. v -ℤ w) sub_makes sub_triangle (max sa sb - sa) (max sa sb - sb) x mx y my n (larger_near sa sb la lb).0 (larger_near sa sb la lb).1 below_x below_y

-- ---- opposites
pub opposite_converts : (x m n : ℕ) → Converts (λ v. Ok (neg_ℤ v)) x m n n m (opposite_block n x)
opposite_converts x m n = record {
  place = omega arith;
  runs = λ pages fuel s v has room.
      let same : unsigned_abs (neg_ℤ v) ≡ unsigned_abs v = omega (arith, ints) in
      once pages fuel (λ w t. Kept n s t × HasNumber n m w t) (Ok (neg_ℤ v)) (opposite_block n x) s
      (comes_weaker pages fuel 1 (Given n s n) (λ w t. Kept n s t × HasNumber n m w t) (Ok (neg_ℤ v)) (opposite_block n x) s
      (λ w t is given. (given.0, (given.1, given.2, omega (arith, ap unsigned_abs (same_ok is), same, has.2))))
      (opposes pages fuel 1 (omega arith) s s n x v (Kept-same n s) has.0 has.1 room));
  typed = λ types is_x is_n. ((I64, is_n, ((omega arith, refl), is_x, refl)), is_n);
}

-- ---- products
product_typed : (types : List ValType) (c : Bool) (n x y : ℕ) → slice_get types x ≡ Some I64 → slice_get types y ≡ Some I64 → slice_get types n ≡ Some I64 → IsTyped types (product_block c n x y)
product_typed types false n x y is_x is_y is_n = (I64, is_n, (is_x, is_y, refl))
product_typed types true n x y is_x is_y is_n = (
  (is_x, refl),
  (I64, is_n, (omega arith, refl)),
  (
    (I64, is_n, ((omega arith, refl), is_x, refl)),
    (
      ((is_n, (omega arith, refl), refl), (I64, is_n, ((omega arith, refl), is_n, refl)), tt),
      (
        (((is_y, is_n, refl), (is_n, is_n, refl), refl), omega arith, tt),
        (I64, is_n, (is_x, is_y, refl)),
      ),
    ),
  ),
)

pub product_operates : (x mx y my n : ℕ) → x < n → y < n → Operates product_of x mx y my n n (capped (mx * my)) (product_block (is_past (mx * my)) n x y)
product_operates x mx y my n below_x below_y = record {
  place = omega arith;
  runs = λ pages fuel s a b has_a has_b room.
      let more : unsigned_abs a * unsigned_abs b ≤ mx * my = mul-le (unsigned_abs a) (unsigned_abs b) mx my has_a.2 has_b.2 in
      once pages fuel (λ r t. Kept n s t × HasNumber n (capped (mx * my)) r t) (product_of a b) (product_block (is_past (mx * my)) n x y) s
      (comes_weaker pages fuel 1 (Given n s n) (λ r t. Kept n s t × HasNumber n (capped (mx * my)) r t) (product_of a b) (product_block (is_past (mx * my)) n x y) s
      (λ r t is given.
      let ok = checked_ok (a *ℤ b) r is in
      let same : unsigned_abs r ≡ unsigned_abs a * unsigned_abs b = ap unsigned_abs (sym ok.0) ∙ unsigned_abs-mul a b in
      (given.0, (given.1, given.2, omega (arith, same, ok.1, more))))
      (multiplies_both pages fuel 1 (omega arith) s n x y a b has_a.0 has_b.0 has_a.1 has_b.1 below_x below_y (omega (arith, room)) (is_past (mx * my)) (λ past. omega (arith, more, ltb-false (10 ^ 18 - 1) (mx * my) past))));
  typed = λ types is_x is_y is_n is_m. (product_typed types (is_past (mx * my)) n x y is_x is_y is_n, is_n);
}

-- ---- quotients
quotient_ok : (b r : ℤ) (q : Result ℤ Code) → (if unsigned_abs b == 0 then Err DivZero else q) ≡ Ok r → q ≡ Ok r
quotient_ok b r q is = ⊎_elim
    (λ zeroth. absurd (no_ok (sym is ∙ here zeroth)))
    (λ other. sym (there other) ∙ is)
    (cases_eq (unsigned_abs b) 0)
  where
    here : unsigned_abs b ≡ 0 → (if unsigned_abs b == 0 then Err DivZero else q) ≡ Err DivZero
    here e = rw (eq-eqb (unsigned_abs b) 0 e) refl

    there : unsigned_abs b ≢ 0 → (if unsigned_abs b == 0 then Err DivZero else q) ≡ q
    there e = rw (ne_eqb (unsigned_abs b) 0 e) refl

pub quotient_operates : (sa sb x mx y my n : ℕ) → sb ≤ 18 → x < n → y < n →
    Operates (λ v w. quotient_of v sa w sb) x mx y my n n (capped (mx * 10 ^ sb)) (quotient_block (is_past (mx * 10 ^ sb)) sb n x y)
quotient_operates sa sb x mx y my n low below_x below_y = record {
  place = omega arith;
  runs = λ pages fuel s a b has_a has_b room.
      let same : sa + sb - sa ≡ sb = omega arith in
      let r : Result ℤ Code = if unsigned_abs b == 0 then Err DivZero else checked (a *ℤ pos (10 ^ sb)) >>= (λ v. Ok (int_div v b)) in
      rw same
      (once pages fuel (λ q t. Kept n s t × HasNumber n (capped (mx * 10 ^ sb)) q t) r (quotient_block (is_past (mx * 10 ^ sb)) sb n x y) s
      (comes_weaker pages fuel 1 (Given n s n) (λ q t. Kept n s t × HasNumber n (capped (mx * 10 ^ sb)) q t) r (quotient_block (is_past (mx * 10 ^ sb)) sb n x y) s
      (λ q t is given. (given.0, (given.1, given.2, bounded a b q has_a.2 is)))
      (divides pages fuel 1 (omega arith) s n x y a b has_a.0 has_b.0 has_a.1 has_b.1 below_x below_y (omega (arith, room)) (is_past (mx * 10 ^ sb)) sb low (unchecked (unsigned_abs a) mx sb has_a.2))));
  typed = λ types is_x is_y is_n is_m.
      ((((is_y, refl), omega arith, tt), (bring_typed types (is_past (mx * 10 ^ sb)) sb n x low is_x is_n, (I64, is_n, (brought_typed types sb n x is_x is_n, is_y, refl)))), is_n);
}
  where
    bounded : (a b q : ℤ) → unsigned_abs a ≤ mx → (if unsigned_abs b == 0 then Err DivZero else checked (a *ℤ pos (10 ^ sb)) >>= (λ v. Ok (int_div v b))) ≡ Ok q → unsigned_abs q ≤ capped (mx * 10 ^ sb)
    bounded a b q le is =
        let first = then_ok (checked (a *ℤ pos (10 ^ sb))) (λ v. Ok (int_div v b)) q (quotient_ok b q (checked (a *ℤ pos (10 ^ sb)) >>= (λ v. Ok (int_div v b))) is) in
        let most : unsigned_abs first.0 ≤ capped (mx * 10 ^ sb) = brought_most a first.0 mx sb le first.1 in
        let least : unsigned_abs (int_div first.0 b) < suc (capped (mx * 10 ^ sb)) = quotient_below first.0 b (suc (capped (mx * 10 ^ sb))) (omega (arith, most)) in
        subst (λ (z : ℤ). unsigned_abs z ≤ capped (mx * 10 ^ sb)) (same_ok first.2) (omega (arith, least))
