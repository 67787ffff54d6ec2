-- AVG's end: the exact sum over the count with four digits more, truncated toward zero, or 2 is raised.
use Rattle.std.proofs.Common.{◌≡◌, ◌≢◌, ℕ, zero, suc, ◌+◌, ◌-◌, ◌*◌, ◌/◌, ◌%◌, ◌^◌, ◌<◌, ◌≤◌, ◌==◌, inl, inr, not, nat_lt, Bool, true, false, ℤ, pos, negsuc, ◌*ℤ◌, int_div, unsigned_abs, neg_ℤ, IsTrue, length, length-set, Some, slice_get, slice_set, mod-lt, refl, sym, ap, ◌∙◌, subst, ⊎_elim, arith}
use Rattle.std.proofs.lemmas.Bool.{cases_lt, cases_eq, lt-ltb, le-ltb, ne_eqb, eq-eqb}
use Rattle.std.proofs.lemmas.Nat.{div-mul-add}
use Rattle.qw_types.specs.Arithmetic.{fits, checked}
use Rattle.qw_module.specs.Numbers.{truth}
use Rattle.qw_map.proofs.TurnFacts.{slice_get-set_same}
use Rattle.qw_module.specs.declared.instruction.ValType.TheVariants.{I64}
use Rattle.qw_module.specs.declared.instruction.Sign.TheVariants.{Unsigned}
use Rattle.qw_module.specs.declared.instruction.Binary.TheVariants.{Sub}
use Rattle.qw_module.specs.declared.instruction.Relation.TheVariants.{Ne, Lt}
use Rattle.qw_module.specs.declared.instruction.Conversion.TheVariants.{Extend}
use Rattle.qw_low.specs.Syntax.{local, binop, cvtop, relop, Statement, skip, seq, assign, conditional}
use Rattle.qw_low.specs.State.{Number, LowState}
use Rattle.qw_low.specs.Meaning.{value, meaning}
use Rattle.qw_low.specs.Promise.{Ends}
use Rattle.qw_low.specs.Raising.{Kept, Leaves, Raises}
use Rattle.qw_low.specs.Held.{HoldsNumber}
use Rattle.qw_low.proofs.Promises.{Ends-more, Ends-weaker, Ends-then, assign_ends, conditional_ends}
use Rattle.qw_low.proofs.Results.{Kept-same, Kept-set, Kept-then}
use Rattle.qw_low.proofs.BlockSteps.{assign_then}
use Rattle.qw_feed.proofs.Frames.{Never}
use Rattle.qw_group.specs.Wides.{i64}
use Rattle.qw_wide.proofs.Words.{word, word_held, fits_small}
use Rattle.qw_group.specs.Wides.{bits_128, IsWide, HoldsWide}
use Rattle.qw_group.specs.Sums.{long_more, many_more, average_most}
use Rattle.qw_group.specs.Inner.WideBlocks.{opposite_128, average_block, averaging_block}
use Rattle.qw_group.proofs.WideRuns.{none, set_other}
use Rattle.qw_group.proofs.DigitRuns.{Averaged, average_ends}

abbrev pub is_below : ℤ → Bool
is_below (pos n) = false
is_below (negsuc n) = true

abbrev pub signed_by : Bool → ℕ → ℤ
signed_by false m = pos m
signed_by true m = neg_ℤ (pos m)

div-neg : (m c : ℕ) → 1 ≤ c → int_div (neg_ℤ (pos m)) (pos c) ≡ neg_ℤ (pos (m / c))
div-neg zero c some =
    let zeroth : 0 * c + 0 ≡ 0 = omega arith in
    let none' : 0 / c ≡ 0 = subst (λ (k : ℕ). k / c ≡ 0) zeroth (div-mul-add 0 c 0 some) in
    rw none' refl
div-neg (suc m) c some = refl

-- the average by sign and magnitude
average-by : (z : ℤ) (c : ℕ) → 1 ≤ c → int_div (z *ℤ pos (10 ^ 4)) (pos c) ≡ signed_by (is_below z) (unsigned_abs z * 10 ^ 4 / c)
average-by (pos n) c some = refl
average-by (negsuc n) c some = div-neg (suc n * 10 ^ 4) c some

high-sign : (low high : ℕ) (z : ℤ) → IsWide low high z → nat_lt (2 ^ 63 - 1) high ≡ is_below z
high-sign low high (pos n) is = le-ltb (2 ^ 63 - 1) high (omega (arith, is.value_is, is.small))
high-sign low high (negsuc n) is = lt-ltb (2 ^ 63 - 1) high (omega (arith, is.value_is, is.small, is.low_is))

-- the words of the opposite of a number below 0
opposite-is : (low high m : ℕ) → low < 2 ^ 64 → high < 2 ^ 64 → 1 ≤ m → m ≤ 2 ^ 127 → high * 2 ^ 64 + low ≡ 2 ^ 128 - m →
    (((0 + 2 ^ 64 - high) % 2 ^ 64 + 2 ^ 64 - truth (not (low == 0))) % 2 ^ 64) * 2 ^ 64 + (0 + 2 ^ 64 - low) % 2 ^ 64 ≡ m
opposite-is low high m low_is high_is some few is = ⊎_elim
    (λ (zeroth : low ≡ 0). rw (eq-eqb low 0 zeroth) (omega (arith, zeroth, is, some, few, high_is)))
    (λ (other : low ≢ 0). rw (ne_eqb low 0 other) (omega (arith, other, is, some, few, low_is, high_is)))
    (cases_eq low 0)

word-neg : (m : ℕ) → m < 10 ^ 18 → (0 + 2 ^ 64 - m) % 2 ^ 64 ≡ word (neg_ℤ (pos m))
word-neg zero small = refl
word-neg (suc m) small =
    let is : word (negsuc m) ≡ 2 ^ 64 - suc m = refl in
    omega (arith, small, is)

signed-small : (g : Bool) (m : ℕ) → unsigned_abs (signed_by g m) ≡ m
signed-small false m = refl
signed-small true zero = refl
signed-small true (suc m) = refl

module _ (most fuel f x c : ℕ) (below : x < f) (s : LowState) (z : ℤ) (has : HoldsWide s (f + 1) z) (x_is : slice_get s.locals x ≡ Some (Number c)) (some : 1 ≤ c) (small : c < 10 ^ 18) (bound : unsigned_abs z < c * 10 ^ 18)
    (room : f + 4 < length s.locals) (enough : 16 < fuel) where
  abbrev n : ℕ
  n = f + 1

  abbrev g : Bool
  g = is_below z

  abbrev d : ℕ
  d = unsigned_abs z

  abbrev s1 : LowState
  s1 = record s { locals = slice_set s.locals f (Number (truth g)) }

  many1 : length s1.locals ≡ length s.locals
  many1 = length-set s.locals f (Number (truth g))

  flag_is : value s (relop I64 (Lt Unsigned) (i64 (2 ^ 63 - 1)) (local (n + 1))) ≡ Some (Number (truth g))
  flag_is = rw (has.high_at, high-sign has.low has.high z has.is) refl

  low1 : slice_get s1.locals n ≡ Some (Number has.low)
  low1 = set_other s.locals f n (Number (truth g)) (Number has.low) (λ e. omega (arith, e)) has.low_at

  high1 : slice_get s1.locals (n + 1) ≡ Some (Number has.high)
  high1 = set_other s.locals f (n + 1) (Number (truth g)) (Number has.high) (λ e. omega (arith, e)) has.high_at

  -- the magnitude's words
  pub record Magnitude (t : LowState) : Type 0 where
    pub kept : Kept n s1 t
    pub low : ℕ
    pub high : ℕ
    pub low_at : slice_get t.locals n ≡ Some (Number low)
    pub high_at : slice_get t.locals (n + 1) ≡ Some (Number high)
    pub low_is : low < 2 ^ 64
    pub high_is : high < 2 ^ 64
    pub whole : high * 2 ^ 64 + low ≡ d

  magnitude : (y : ℤ) → y ≡ z → Ends 15 Magnitude Never none (meaning most fuel (conditional (local f) (opposite_128 n) skip) s1)
  magnitude (pos a) is =
      let flag : value s1 (local f) ≡ Some (Number 0) = slice_get-set_same s.locals f (Number (truth g)) (omega (arith, room)) ∙ ap (λ (y : ℤ). Some (Number (truth (is_below y)))) (sym is) in
      conditional_ends Magnitude Never none most fuel 13 (local f) (opposite_128 n) skip s1 (inr (
        flag,
        (
          omega arith,
          record {
            kept = Kept-same n s1;
            low = has.low;
            high = has.high;
            low_at = low1;
            high_at = high1;
            low_is = has.is.low_is;
            high_is = has.is.high_is;
            whole = subst (λ (y : ℤ). has.high * 2 ^ 64 + has.low ≡ unsigned_abs y) is (subst (λ (y : ℤ). has.high * 2 ^ 64 + has.low ≡ bits_128 y) (sym is) has.is.value_is);
          },
        ),
      ))
  magnitude (negsuc a) is =
      let flag : value s1 (local f) ≡ Some (Number 1) = slice_get-set_same s.locals f (Number (truth g)) (omega (arith, room)) ∙ ap (λ (y : ℤ). Some (Number (truth (is_below y)))) (sym is) in
      let low' : ℕ = (0 + 2 ^ 64 - has.low) % 2 ^ 64 in
      let high' : ℕ = ((0 + 2 ^ 64 - has.high) % 2 ^ 64 + 2 ^ 64 - truth (not (has.low == 0))) % 2 ^ 64 in
      let s2 : LowState = record s1 { locals = slice_set s1.locals (n + 1) (Number high') } in
      let first : value s1 (binop I64 Sub (binop I64 Sub (i64 0) (local (n + 1))) (cvtop (Extend Unsigned) (relop I64 Ne (local n) (i64 0)))) ≡ Some (Number high') = rw (high1, low1) refl in
      let low2 : slice_get s2.locals n ≡ Some (Number has.low) = set_other s1.locals (n + 1) n (Number high') (Number has.low) (λ e. omega (arith, e)) low1 in
      let second : value s2 (binop I64 Sub (i64 0) (local n)) ≡ Some (Number low') = rw low2 refl in
      let many2 : length s2.locals ≡ length s.locals = length-set s1.locals (n + 1) (Number high') ∙ many1 in
      let bits : has.high * 2 ^ 64 + has.low ≡ 2 ^ 128 - suc a = subst (λ (y : ℤ). has.high * 2 ^ 64 + has.low ≡ bits_128 y) (sym is) has.is.value_is in
      let few : suc a < 2 ^ 127 = subst (λ (y : ℤ). unsigned_abs y < 2 ^ 127) (sym is) has.is.small in
      conditional_ends Magnitude Never none most fuel 13 (local f) (opposite_128 n) skip s1 (inl (
        inl (0, flag),
        assign_then Magnitude Never none most fuel s1 4 (assign n (binop I64 Sub (i64 0) (local n))) (n + 1) (binop I64 Sub (binop I64 Sub (i64 0) (local (n + 1))) (cvtop (Extend Unsigned) (relop I64 Ne (local n) (i64 0)))) (Number high') first (omega (arith, many1, room))
            (assign_ends Magnitude Never none most fuel n (binop I64 Sub (i64 0) (local n)) (Number low') s2 second (omega (arith, many2, room)) (record {
              kept = Kept-set n s1 s2 n (Number low') (Kept-set n s1 s1 (n + 1) (Number high') (Kept-same n s1) (omega arith)) (omega arith);
              low = low';
              high = high';
              low_at = slice_get-set_same s2.locals n (Number low') (omega (arith, many2, room));
              high_at = set_other s2.locals n (n + 1) (Number low') (Number high') (λ e. omega (arith, e)) (slice_get-set_same s1.locals (n + 1) (Number high') (omega (arith, many1, room)));
              low_is = mod-lt (0 + 2 ^ 64 - has.low) (omega arith);
              high_is = mod-lt ((0 + 2 ^ 64 - has.high) % 2 ^ 64 + 2 ^ 64 - truth (not (has.low == 0))) (omega arith);
              whole = opposite-is has.low has.high (suc a) has.is.low_is has.is.high_is (omega arith) (omega (arith, few)) bits ∙ ap unsigned_abs is;
            })),
      ))

  abbrev m : ℕ
  m = d * 10 ^ 4 / c

  -- the average
  abbrev pub A : ℤ
  A = int_div (z *ℤ pos (10 ^ 4)) (pos c)

  A_is : A ≡ signed_by g m
  A_is = average-by z c some

  abbrev pub Given : ℤ → LowState → Type 0
  Given v t = Kept f s t × HoldsNumber t n v × IsTrue (fits v)

  abbrev Held : LowState → Type 0
  Held t = Kept f s t × (slice_get t.locals n ≡ Some (Number (word (signed_by g m)))) × (m < 10 ^ 18)

  abbrev Over : ℕ → Type 0
  Over code = (code ≡ 2) × (10 ^ 18 ≤ m)

  abbrev last : Statement
  last = conditional (local f) (assign n (binop I64 Sub (i64 0) (local n))) skip

  under : (t : LowState) → Kept n s1 t → Kept f s t
  under t kept = Kept-then f n s s1 t (omega arith) (Kept-set f s s f (Number (truth g)) (Kept-same f s) (omega arith)) kept

  -- the sign
  signs : (t : LowState) → Kept n s1 t → slice_get t.locals n ≡ Some (Number m) → m < 10 ^ 18 → (b : Bool) → b ≡ g → Ends 6 Held Never Over (meaning most fuel last t)
  signs t kept at few false is =
      let flag : value t (local f) ≡ Some (Number 0) = kept.below f (omega arith) ∙ (slice_get-set_same s.locals f (Number (truth g)) (omega (arith, room)) ∙ ap (λ (b : Bool). Some (Number (truth b))) (sym is)) in
      conditional_ends Held Never Over most fuel 4 (local f) (assign n (binop I64 Sub (i64 0) (local n))) skip t (inr (flag, (omega arith, (under t kept, at ∙ ap (λ (b : Bool). Some (Number (word (signed_by b m)))) is, few))))
  signs t kept at few true is =
      let flag : value t (local f) ≡ Some (Number 1) = kept.below f (omega arith) ∙ (slice_get-set_same s.locals f (Number (truth g)) (omega (arith, room)) ∙ ap (λ (b : Bool). Some (Number (truth b))) (sym is)) in
      let w : ℕ = word (neg_ℤ (pos m)) in
      let room_t : n < length t.locals = omega (arith, kept.many, many1, room) in
      let neg : value t (binop I64 Sub (i64 0) (local n)) ≡ Some (Number w) = rw at (ap (λ (k : ℕ). Some (Number k)) (word-neg m few)) in
      conditional_ends Held Never Over most fuel 4 (local f) (assign n (binop I64 Sub (i64 0) (local n))) skip t (inl (
        inl (0, flag),
        assign_ends Held Never Over most fuel n (binop I64 Sub (i64 0) (local n)) (Number w) t neg room_t
            (Kept-set f s t n (Number w) (under t kept) (omega arith), slice_get-set_same t.locals n (Number w) room_t ∙ ap (λ (b : Bool). Some (Number (word (signed_by b m)))) is, few),
      ))

  abbrev behind : ℕ
  behind = 11 + long_more d + (6 + (20 + many_more c))

  averages : (t : LowState) → Magnitude t → Ends (behind + 6) Held Never Over (meaning most fuel (seq (average_block n x) last) t)
  averages t h =
      let x_t : slice_get t.locals x ≡ Some (Number c) = h.kept.below x (omega (arith, below)) ∙ set_other s.locals f x (Number (truth g)) (Number c) (λ e. omega (arith, e, below)) x_is in
      let room_t : n + 3 < length t.locals = omega (arith, h.kept.many, many1, room) in
      let low_x : x < n = omega (arith, below) in
      Ends-then Held Never Over behind 6 (Averaged most fuel n x c low_x small t x_t d h.low h.high h.low_at h.high_at h.low_is h.whole some bound room_t enough) (meaning most fuel (average_block n x) t) (meaning most fuel last)
      (average_ends most fuel n x c low_x small t x_t d h.low h.high h.low_at h.high_at h.low_is h.whole some bound room_t enough)
      (λ u done. signs u (Kept-then n n s1 t u (omega arith) h.kept done.0) done.1 done.2 g refl)

  held : Ends (average_most z c) Held Never Over (meaning most fuel (averaging_block f x) s)
  held =
      Ends-more Held Never Over (4 + (15 + (behind + 6))) (average_most z c) (meaning most fuel (averaging_block f x) s) (omega arith)
      (assign_then Held Never Over most fuel s (15 + (behind + 6)) (seq (conditional (local f) (opposite_128 n) skip) (seq (average_block n x) last)) f (relop I64 (Lt Unsigned) (i64 (2 ^ 63 - 1)) (local (n + 1))) (Number (truth g)) flag_is (omega (arith, room))
      (Ends-then Held Never Over 15 (behind + 6) Magnitude (meaning most fuel (conditional (local f) (opposite_128 n) skip) s1) (meaning most fuel (seq (average_block n x) last))
      (Ends-weaker 15 15 Magnitude Magnitude Never Never none Over (meaning most fuel (conditional (local f) (opposite_128 n) skip) s1) (omega arith) (λ t y. y) (λ t y. y) (λ code y. absurd y) (magnitude z refl))
      averages))

  -- exactly the average, or its exception
  pub avg_ends : Ends (average_most z c) (Leaves Given (checked A)) Never (Raises (checked A)) (meaning most fuel (averaging_block f x) s)
  avg_ends = ⊎_elim
      (λ (few : m < 10 ^ 18).
      let fit : fits A ≡ true = lt-ltb (unsigned_abs A) (10 ^ 18) (subst (λ (k : ℕ). k < 10 ^ 18) (sym (ap unsigned_abs A_is ∙ signed-small g m)) few) in
      rw fit (Ends-weaker (average_most z c) (average_most z c) Held (Given A) Never Never Over (λ code. ⊥) (meaning most fuel (averaging_block f x) s) (omega arith)
      (λ t h. (h.0, word_held t n A (fits_small A fit) (h.1 ∙ ap (λ (v : ℤ). Some (Number (word v))) (sym A_is)), fit)) (λ t y. y) (λ code y. omega (arith, y.1, few)) held))
      (λ (many : 10 ^ 18 ≤ m).
      let fit : fits A ≡ false = le-ltb (unsigned_abs A) (10 ^ 18) (subst (λ (k : ℕ). 10 ^ 18 ≤ k) (sym (ap unsigned_abs A_is ∙ signed-small g m)) many) in
      rw fit (Ends-weaker (average_most z c) (average_most z c) Held (λ t. ⊥) Never Never Over (λ code. code ≡ 2) (meaning most fuel (averaging_block f x) s) (omega arith)
      (λ t h. omega (arith, h.2, many)) (λ t y. y) (λ code y. y.0) held))
      (cases_lt m (10 ^ 18))
