-- An average without sign: a quotient with four digits more, or 2 is raised where it has more than 18.
use Rattle.std.proofs.Common.{◌≡◌, ◌≢◌, ℕ, zero, suc, ◌+◌, ◌-◌, ◌*◌, ◌/◌, ◌%◌, ◌^◌, ◌<◌, ◌≤◌, ◌⊎◌, inl, inr, nat_le, nat_lt, Bool, false, length, length-set, Option, Some, slice_get, slice_set, mod-lt, refl, sym, ap, ◌∙◌, subst, ⊎_elim, arith, suc-mul}
use Rattle.std.proofs.lemmas.Bool.{cases_lt, lt-leb, le-leb, lt-ltb, le-ltb, ne_eqb}
use Rattle.std.proofs.lemmas.Nat.{div-mul-add, div-add-mod', mul-le}
use Rattle.std.proofs.Math.Nat.{mul_assoc}
use Rattle.qw_module.specs.Numbers.{truth}
use Rattle.qw_map.proofs.TurnFacts.{slice_get-set_same, slice_get-set_other}
use Rattle.qw_module.specs.declared.instruction.ValType.TheVariants.{I32, I64}
use Rattle.qw_module.specs.declared.instruction.Sign.TheVariants.{Unsigned}
use Rattle.qw_module.specs.declared.instruction.Binary.TheVariants.{Add, Sub, Mul}
use Rattle.qw_module.specs.declared.instruction.Division.TheVariants.{Div, Rem}
use Rattle.qw_module.specs.declared.instruction.Relation.TheVariants.{Le, Lt}
use Rattle.qw_low.specs.Syntax.{Expression, local, binop, divop, relop, Statement, skip, seq, assign, conditional, while, raise}
use Rattle.qw_low.specs.State.{Value, Number, LowState}
use Rattle.qw_low.specs.Meaning.{value, meaning}
use Rattle.qw_low.specs.Promise.{Ends, IsSet}
use Rattle.qw_low.specs.Raising.{Kept}
use Rattle.qw_low.proofs.Promises.{Ends-more, Ends-weaker, Ends-then, assign_ends, conditional_ends, turns_end}
use Rattle.qw_low.proofs.Results.{Kept-set}
use Rattle.qw_low.proofs.BlockSteps.{assign_then}
use Rattle.qw_feed.specs.Room.{i32}
use Rattle.qw_feed.proofs.Frames.{Never}
use Rattle.qw_group.specs.Wides.{i64}
use Rattle.qw_group.specs.Sums.{long_more, many_more}
use Rattle.qw_group.specs.Inner.WideBlocks.{digit_block, digit_turns, digits_block, average_block, quotient_block}
use Rattle.qw_group.proofs.WideFacts.{times-below, quotient-less}
use Rattle.qw_group.proofs.WideRuns.{none, set_other}
use Rattle.qw_group.proofs.QuotientRuns.{Parted, quotient_ends}

-- ---- a digit more, to a base
digit-whole : (q r c d base : ℕ) → q * c + r ≡ d → (q * base + r * base / c) * c + r * base % c ≡ d * base
digit-whole q r c d base is =
    let all : (q * c + r) * base ≡ d * base = ap (λ (m : ℕ). m * base) is in
    omega (arith, all, div-add-mod' (r * base) c)

-- 10 to the power of the digits that are there, where so many are left
scale-more : (j : ℕ) → suc j ≤ 4 → (10 ^ (4 - suc j) * 10 ≡ 10 ^ (4 - j)) × (10 ^ (4 - suc j) ≤ 1000)
scale-more zero few = (refl, omega arith)
scale-more (suc zero) few = (refl, omega arith)
scale-more (suc (suc zero)) few = (refl, omega arith)
scale-more (suc (suc (suc zero))) few = (refl, omega arith)
scale-more (suc (suc (suc (suc j)))) few = absurd (omega (arith, few))

module _ (most fuel n x c : ℕ) (below : x < n) (small : c < 10 ^ 18) (s0 : LowState) (x_is : slice_get s0.locals x ≡ Some (Number c)) where
  -- a quotient below a bound, and its remainder; and what the local behind them has
  pub record Digits (d bound : ℕ) (left : Option Value) (s : LowState) : Type 0 where
    pub kept : Kept n s0 s
    pub room : n + 3 < length s.locals
    pub q : ℕ
    pub r : ℕ
    pub q_at : slice_get s.locals n ≡ Some (Number q)
    pub r_at : slice_get s.locals (n + 2) ≡ Some (Number r)
    pub left_at : slice_get s.locals (n + 3) ≡ left
    pub whole : q * c + r ≡ d
    pub less : r < c
    pub low : q < bound

  abbrev scaled : ℕ → Expression
  scaled base = binop I64 Mul (local (n + 2)) (i64 base)

  abbrev more : ℕ → Expression
  more base = binop I64 Add (binop I64 Mul (local n) (i64 base)) (divop I64 (Div Unsigned) (local (n + 2)) (local x))

  abbrev rest : Expression
  rest = divop I64 (Rem Unsigned) (local (n + 2)) (local x)

  pub digit_ends : (d bound base : ℕ) (left : Option Value) (s : LowState) → 1 ≤ base → bound * base ≤ 10 ^ 18 → c * base ≤ 2 ^ 64 → Digits d bound left s →
      Ends 16 (Digits (d * base) (bound * base) left) Never none (meaning most fuel (digit_block n x base) s)
  digit_ends d bound base left s some few fit at =
      let m : ℕ = at.r * base in
      let q' : ℕ = at.q * base + m / c in
      let r' : ℕ = m % c in
      let s1 : LowState = record s { locals = slice_set s.locals (n + 2) (Number m) } in
      let s2 : LowState = record s1 { locals = slice_set s1.locals n (Number q') } in
      let defined : c ≢ 0 = λ z. omega (arith, z, at.less) in
      let within : m < c * base = let all = times-below at.r c base 0 at.less some in omega (arith, all) in
      let digit : m / c < base = quotient-less m base c within in
      let bounded : q' < bound * base = times-below at.q bound base (m / c) at.low digit in
      let scaled_is : at.r * base % 2 ^ 64 ≡ m = omega (arith, within, fit) in
      let sum : (at.q * base % 2 ^ 64 + m / c) % 2 ^ 64 ≡ q' = omega (arith, bounded, few) in
      let many1 : length s1.locals ≡ length s.locals = length-set s.locals (n + 2) (Number m) in
      let many2 : length s2.locals ≡ length s.locals = length-set s1.locals n (Number q') ∙ many1 in
      let kept1 : Kept n s0 s1 = Kept-set n s0 s (n + 2) (Number m) at.kept (omega arith) in
      let kept2 : Kept n s0 s2 = Kept-set n s0 s1 n (Number q') kept1 (omega arith) in
      let r1 : slice_get s1.locals (n + 2) ≡ Some (Number m) = slice_get-set_same s.locals (n + 2) (Number m) (omega (arith, at.room)) in
      let q1 : slice_get s1.locals n ≡ Some (Number at.q) = set_other s.locals (n + 2) n (Number m) (Number at.q) (λ e. omega (arith, e)) at.q_at in
      let r2 : slice_get s2.locals (n + 2) ≡ Some (Number m) = set_other s1.locals n (n + 2) (Number q') (Number m) (λ e. omega (arith, e)) r1 in
      let first : value s (scaled base) ≡ Some (Number m) = rw (at.r_at, scaled_is) refl in
      let second : value s1 (more base) ≡ Some (Number q') = rw (r1, q1, kept1.below x below, x_is, ne_eqb c 0 defined, sum) refl in
      let third : value s2 rest ≡ Some (Number r') = rw (r2, kept2.below x below, x_is, ne_eqb c 0 defined) refl in
      let P : LowState → Type 0 = Digits (d * base) (bound * base) left in
      assign_then P Never none most fuel s 12 (seq (assign n (more base)) (assign (n + 2) rest)) (n + 2) (scaled base) (Number m) first (omega (arith, at.room))
      (assign_then P Never none most fuel s1 4 (assign (n + 2) rest) n (more base) (Number q') second (omega (arith, many1, at.room))
      (assign_ends P Never none most fuel (n + 2) rest (Number r') s2 third (omega (arith, many2, at.room)) (record {
        kept = Kept-set n s0 s2 (n + 2) (Number r') kept2 (omega arith);
        room = omega (arith, at.room, many2, length-set s2.locals (n + 2) (Number r'));
        q = q';
        r = r';
        q_at = set_other s2.locals (n + 2) n (Number r') (Number q') (λ e. omega (arith, e)) (slice_get-set_same s1.locals n (Number q') (omega (arith, many1, at.room)));
        r_at = slice_get-set_same s2.locals (n + 2) (Number r') (omega (arith, many2, at.room));
        left_at = behind s2 (n + 2) (Number r') (omega arith) ∙ (behind s1 n (Number q') (omega arith) ∙ (behind s (n + 2) (Number m) (omega arith) ∙ at.left_at));
        whole = digit-whole at.q at.r c d base at.whole;
        less = mod-lt m (omega (arith, at.less));
        low = bounded;
      })))
    where
      behind : (t : LowState) (i : ℕ) (v : Value) → i < n + 3 → slice_get (slice_set t.locals i v) (n + 3) ≡ slice_get t.locals (n + 3)
      behind t i v less = slice_get-set_other t.locals i (n + 3) v (λ e. omega (arith, e, less))

  -- ---- four digits
  module _ (d : ℕ) where
    -- so many are left
    abbrev Left : ℕ → LowState → Type 0
    Left k s = Digits (d * 10 ^ (4 - k)) (10 ^ 14 * 10 ^ (4 - k)) (Some (Number k)) s × (k ≤ 4)

    abbrev fewer : Expression
    fewer = binop I32 Sub (local (n + 3)) (i32 1)

    abbrev body : Statement
    body = seq (digit_block n x 10) (assign (n + 3) fewer)

    lessens : (j : ℕ) (s : LowState) → suc j ≤ 4 → Digits (d * 10 ^ (4 - suc j) * 10) (10 ^ 14 * 10 ^ (4 - suc j) * 10) (Some (Number (suc j))) s → Ends 4 (Left j) Never none (meaning most fuel (assign (n + 3) fewer) s)
    lessens j s few at =
        let one : (suc j + 2 ^ 32 - 1) % 2 ^ 32 ≡ j = omega (arith, few) in
        let is : value s fewer ≡ Some (Number j) = rw (at.left_at, one) refl in
        let t : LowState = record s { locals = slice_set s.locals (n + 3) (Number j) } in
        let scale = scale-more j few in
        let same : (m : ℕ) → m * 10 ^ (4 - suc j) * 10 ≡ m * 10 ^ (4 - j) = λ m. mul_assoc m (10 ^ (4 - suc j)) 10 ∙ ap (λ (e : ℕ). m * e) scale.0 in
        assign_ends (Left j) Never none most fuel (n + 3) fewer (Number j) s is at.room (
          record {
            kept = Kept-set n s0 s (n + 3) (Number j) at.kept (omega arith);
            room = omega (arith, at.room, length-set s.locals (n + 3) (Number j));
            q = at.q;
            r = at.r;
            q_at = set_other s.locals (n + 3) n (Number j) (Number at.q) (λ e. omega (arith, e)) at.q_at;
            r_at = set_other s.locals (n + 3) (n + 2) (Number j) (Number at.r) (λ e. omega (arith, e)) at.r_at;
            left_at = slice_get-set_same s.locals (n + 3) (Number j) at.room;
            whole = at.whole ∙ same d;
            less = at.less;
            low = subst (λ (m : ℕ). at.q < m) (same (10 ^ 14)) at.low;
          },
          omega (arith, few),
        )

    turn : (k : ℕ) (s : LowState) → Left k s → ((value s (local (n + 3)) ≡ Some (Number 0)) × Left 0 s) ⊎ (IsSet (value s (local (n + 3))) × (j : ℕ) × (j < k) × Ends 20 (Left j) Never none (meaning most fuel body s))
    turn zero s at = inl (at.0.left_at, at)
    turn (suc j) s at =
        let scale = scale-more j at.1 in
        let D : ℕ = d * 10 ^ (4 - suc j) in
        let B : ℕ = 10 ^ 14 * 10 ^ (4 - suc j) in
        inr (
          inl (j, at.0.left_at),
          j,
          omega arith,
          Ends-then (Left j) Never none 16 4 (Digits (D * 10) (B * 10) (Some (Number (suc j)))) (meaning most fuel (digit_block n x 10) s) (meaning most fuel (assign (n + 3) fewer))
              (digit_ends D B 10 (Some (Number (suc j))) s (omega arith) (omega (arith, scale.1)) (omega (arith, small)) at.0)
              (λ t mid. lessens j t at.1 mid),
        )

    abbrev Four : LowState → Type 0
    Four t = Kept n s0 t × ((q r : ℕ) × (slice_get t.locals n ≡ Some (Number q)) × (q * c + r ≡ d * 10 ^ 4) × (r < c) × (q < 10 ^ 18))

    four_of : (left : Option Value) (t : LowState) → Digits (d * 10 ^ 4) (10 ^ 18) left t → Four t
    four_of left t at = (at.kept, (at.q, at.r, at.q_at, at.whole, at.less, at.low))

    one_by_one : (s : LowState) → 4 < fuel → Digits d (10 ^ 14) (slice_get s.locals (n + 3)) s → Ends 96 Four Never none (meaning most fuel (digit_turns n x) s)
    one_by_one s enough at =
        let t : LowState = record s { locals = slice_set s.locals (n + 3) (Number 4) } in
        assign_then Four Never none most fuel s 94 (while (local (n + 3)) body) (n + 3) (i32 4) (Number 4) refl at.room
        (Ends-weaker 94 94 (Left 0) Four Never Never none none (meaning most fuel (while (local (n + 3)) body) t) (omega arith) (λ u h. four_of (Some (Number 0)) u h.0) (λ u y. y) (λ code y. y)
        (turns_end 20 Left (Left 0) Never none (local (n + 3)) (meaning most fuel body) turn fuel 4 t enough (
          record {
            kept = Kept-set n s0 s (n + 3) (Number 4) at.kept (omega arith);
            room = omega (arith, at.room, length-set s.locals (n + 3) (Number 4));
            q = at.q;
            r = at.r;
            q_at = set_other s.locals (n + 3) n (Number 4) (Number at.q) (λ e. omega (arith, e)) at.q_at;
            r_at = set_other s.locals (n + 3) (n + 2) (Number 4) (Number at.r) (λ e. omega (arith, e)) at.r_at;
            left_at = slice_get-set_same s.locals (n + 3) (Number 4) at.room;
            whole = omega (arith, at.whole);
            less = at.less;
            low = omega (arith, at.low);
          },
          omega arith,
        )))

    pub digits_end : (s : LowState) → 4 < fuel → Digits d (10 ^ 14) (slice_get s.locals (n + 3)) s → Ends (20 + many_more c) Four Never none (meaning most fuel (digits_block n x) s)
    digits_end s enough at =
        let few : Expression = relop I64 (Lt Unsigned) (local x) (i64 (10 ^ 15)) in
        let test : value s few ≡ Some (Number (truth (nat_lt c (10 ^ 15)))) = rw (at.kept.below x below, x_is) refl in
        let left : Option Value = slice_get s.locals (n + 3) in
        ⊎_elim
        (λ (less : c < 10 ^ 15). Ends-more Four Never none 20 (20 + many_more c) (meaning most fuel (digits_block n x) s) (omega arith) (conditional_ends Four Never none most fuel 16 few (digit_block n x (10 ^ 4)) (digit_turns n x) s (inl (
          inl (0, test ∙ ap (λ (b : Bool). Some (Number (truth b))) (lt-ltb c (10 ^ 15) less)),
          Ends-weaker 16 16 (Digits (d * 10 ^ 4) (10 ^ 18) left) Four Never Never none none (meaning most fuel (digit_block n x (10 ^ 4)) s) (omega arith) (λ t h. four_of left t h) (λ t y. y) (λ code y. y)
              (digit_ends d (10 ^ 14) (10 ^ 4) left s (omega arith) (omega arith) (omega (arith, less)) at),
        ))))
        (λ (many : 10 ^ 15 ≤ c).
        let some : nat_lt c (10 ^ 15) ≡ false = le-ltb c (10 ^ 15) many in
        rw some (conditional_ends Four Never none most fuel 96 few (digit_block n x (10 ^ 4)) (digit_turns n x) s (inr (test ∙ ap (λ (b : Bool). Some (Number (truth b))) some, one_by_one s enough at))))
        (cases_lt c (10 ^ 15))

  -- ---- the whole: of a sum without sign, which has at most 18 digits for each row
  module _ (d low high : ℕ) (low_at : slice_get s0.locals n ≡ Some (Number low)) (high_at : slice_get s0.locals (n + 1) ≡ Some (Number high)) (low_is : low < 2 ^ 64) (whole : high * 2 ^ 64 + low ≡ d) (some : 1 ≤ c) (fits : d < c * 10 ^ 18)
      (room : n + 3 < length s0.locals) (enough : 16 < fuel) where
    abbrev pub Averaged : LowState → Type 0
    Averaged t = Kept n s0 t × (slice_get t.locals n ≡ Some (Number (d * 10 ^ 4 / c))) × (d * 10 ^ 4 / c < 10 ^ 18)

    abbrev pub TooLong : ℕ → Type 0
    TooLong code = (code ≡ 2) × (10 ^ 18 ≤ d * 10 ^ 4 / c)

    last : (t : LowState) → Four d t → Averaged t
    last t at =
        let q : ℕ = at.1.0 in
        let is : d * 10 ^ 4 / c ≡ q = ap (λ (m : ℕ). m / c) (sym at.1.3) ∙ div-mul-add q c at.1.1 at.1.4 in
        (at.0, at.1.2 ∙ ap (λ (m : ℕ). Some (Number m)) (sym is), subst (λ (m : ℕ). m < 10 ^ 18) (sym is) at.1.5)

    abbrev check : Statement
    check = conditional (relop I64 (Le Unsigned) (i64 (10 ^ 14)) (local n)) (raise 2) skip

    too-long : (q r : ℕ) → r < c → q * c + r ≡ d → 10 ^ 14 ≤ q → 10 ^ 18 ≤ d * 10 ^ 4 / c
    too-long q r less is long = ⊎_elim
        (λ (short : d * 10 ^ 4 / c < 10 ^ 18). absurd (
        let m : ℕ = d * 10 ^ 4 / c in
        let up : suc m * c ≤ 10 ^ 18 * c = mul-le (suc m) c (10 ^ 18) c short (omega arith) in
        let rest : d * 10 ^ 4 % c < c = mod-lt (d * 10 ^ 4) (omega (arith, less)) in
        let down : 10 ^ 14 * c ≤ q * c = mul-le (10 ^ 14) c q c long (omega arith) in
        omega (arith, up, down, is, div-add-mod' (d * 10 ^ 4) c, rest, suc-mul m c)))
        (λ (more' : 10 ^ 18 ≤ d * 10 ^ 4 / c). more')
        (cases_lt (d * 10 ^ 4 / c) (10 ^ 18))

    abbrev Whole : LowState → Type 0
    Whole = Parted most fuel n x c below some small s0 x_is low high d low_at high_at low_is whole fits room

    -- the check, and four digits
    ends : (t : LowState) → Whole t → Ends (6 + (20 + many_more c)) Averaged Never TooLong (meaning most fuel (seq check (digits_block n x)) t)
    ends t h =
        let test : value t (relop I64 (Le Unsigned) (i64 (10 ^ 14)) (local n)) ≡ Some (Number (truth (nat_le (10 ^ 14) h.q))) = rw (h.q_at) refl in
        let P : LowState → Type 0 = λ u. Digits d (10 ^ 14) (slice_get u.locals (n + 3)) u in
        Ends-then Averaged Never TooLong 6 (20 + many_more c) P (meaning most fuel check t) (meaning most fuel (digits_block n x))
        (⊎_elim
        (λ (short : h.q < 10 ^ 14). conditional_ends P Never TooLong most fuel 2 (relop I64 (Le Unsigned) (i64 (10 ^ 14)) (local n)) (raise 2) skip t (inr (
          test ∙ ap (λ (b : Bool). Some (Number (truth b))) (lt-leb (10 ^ 14) h.q short),
          (omega arith, record { kept = h.kept; room = omega (arith, h.kept.many, room); q = h.q; r = h.r; q_at = h.q_at; r_at = h.r_at; left_at = refl; whole = h.parts; less = h.less; low = short }),
        )))
        (λ (long : 10 ^ 14 ≤ h.q). conditional_ends P Never TooLong most fuel 2 (relop I64 (Le Unsigned) (i64 (10 ^ 14)) (local n)) (raise 2) skip t (inl (
          inl (0, test ∙ ap (λ (b : Bool). Some (Number (truth b))) (le-leb (10 ^ 14) h.q long)),
          (omega arith, (refl, too-long h.q h.r h.less h.parts long)),
        )))
        (cases_lt h.q (10 ^ 14)))
        (λ u at. Ends-weaker (20 + many_more c) (20 + many_more c) (Four d) Averaged Never Never none TooLong (meaning most fuel (digits_block n x) u) (omega arith) last (λ v y. y) (λ code y. absurd y) (digits_end d u (omega (arith, enough)) at))

    pub average_ends : Ends (11 + long_more d + (6 + (20 + many_more c))) Averaged Never TooLong (meaning most fuel (average_block n x) s0)
    average_ends = Ends-then Averaged Never TooLong (11 + long_more d) (6 + (20 + many_more c)) Whole (meaning most fuel (quotient_block n x) s0) (meaning most fuel (seq check (digits_block n x)))
        (Ends-weaker (11 + long_more d) (11 + long_more d) Whole Whole Never Never none TooLong (meaning most fuel (quotient_block n x) s0) (omega arith) (λ v y. y) (λ v y. y) (λ code y. absurd y)
        (quotient_ends most fuel n x c below some small s0 x_is low high d low_at high_at low_is whole fits room enough))
        ends
