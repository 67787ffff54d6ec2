-- A quotient of two words by a number, digit by digit.
use Rattle.std.proofs.Common.{◌≡◌, ◌≢◌, ℕ, zero, suc, ◌+◌, ◌-◌, ◌*◌, ◌/◌, ◌%◌, ◌^◌, ◌<◌, ◌≤◌, ◌==◌, ◌⊎◌, inl, inr, nat_lt, Bool, false, length, length-set, mod-lt, Some, slice_get, slice_set, refl, sym, ap, ◌∙◌, subst, arith}
use Rattle.std.proofs.lemmas.Bool.{ne_eqb, le-ltb}
use Rattle.std.proofs.lemmas.Nat.{div-add-mod'}
use Rattle.std.proofs.Math.Nat.{pow-succ', mul_assoc}
use Rattle.qw_map.proofs.TurnFacts.{slice_get-set_same}
use Rattle.qw_module.specs.Numbers.{truth}
use Rattle.qw_module.specs.declared.instruction.ValType.TheVariants.{I32, I64}
use Rattle.qw_module.specs.declared.instruction.Sign.TheVariants.{Unsigned}
use Rattle.qw_module.specs.declared.instruction.Binary.TheVariants.{Add, Sub, Shl, Shr}
use Rattle.qw_module.specs.declared.instruction.Division.TheVariants.{Div, Rem}
use Rattle.qw_low.specs.Syntax.{Expression, local, binop, divop, is_zero, Statement, seq, assign, while}
use Rattle.qw_low.specs.State.{Number, LowState}
use Rattle.qw_low.specs.Meaning.{value, meaning}
use Rattle.qw_low.specs.Promise.{Ends, IsSet}
use Rattle.qw_low.specs.Raising.{Kept}
use Rattle.qw_low.proofs.Promises.{Ends-more, Ends-weaker, assign_ends, conditional_ends, turns_end}
use Rattle.qw_low.proofs.Results.{Kept-same, Kept-set}
use Rattle.qw_low.proofs.BlockSteps.{assign_then}
use Rattle.qw_feed.specs.Room.{i32}
use Rattle.qw_feed.proofs.Frames.{Never}
use Rattle.qw_group.specs.Wides.{i64}
use Rattle.qw_group.specs.Sums.{long_more}
use Rattle.qw_group.specs.Inner.WideBlocks.{divide_turn, low_word_block, div_128_block, quotient_block}
use Rattle.qw_group.proofs.WideFacts.{Divided, Digit, Bit, Hex, bits_of, base_of, down_of, rest_of, shifted, rest-room, down-few, down-room, times-below, quotient-less, digit-more, divided-last}
use Rattle.qw_group.proofs.WideRuns.{none, set_other}

-- the words, the remainder and the count of turns
pub record Regs (n low high r k : ℕ) (s : LowState) : Type 0 where
  pub low_at : slice_get s.locals n ≡ Some (Number low)
  pub high_at : slice_get s.locals (n + 1) ≡ Some (Number high)
  pub rest_at : slice_get s.locals (n + 2) ≡ Some (Number r)
  pub left_at : slice_get s.locals (n + 3) ≡ Some (Number k)
  pub room : n + 3 < length s.locals

module _ (n low high r k : ℕ) (s : LowState) (h : Regs n low high r k s) where
  abbrev put : ℕ → ℕ → LowState
  put i m = record s { locals = slice_set s.locals i (Number m) }

  put_low : (m : ℕ) → Regs n m high r k (put n m)
  put_low m = record {
    low_at = slice_get-set_same s.locals n (Number m) (omega (arith, h.room));
    high_at = set_other s.locals n (n + 1) (Number m) (Number high) (λ e. omega (arith, e)) h.high_at;
    rest_at = set_other s.locals n (n + 2) (Number m) (Number r) (λ e. omega (arith, e)) h.rest_at;
    left_at = set_other s.locals n (n + 3) (Number m) (Number k) (λ e. omega (arith, e)) h.left_at;
    room = omega (arith, h.room, length-set s.locals n (Number m));
  }

  put_high : (m : ℕ) → Regs n low m r k (put (n + 1) m)
  put_high m = record {
    low_at = set_other s.locals (n + 1) n (Number m) (Number low) (λ e. omega (arith, e)) h.low_at;
    high_at = slice_get-set_same s.locals (n + 1) (Number m) (omega (arith, h.room));
    rest_at = set_other s.locals (n + 1) (n + 2) (Number m) (Number r) (λ e. omega (arith, e)) h.rest_at;
    left_at = set_other s.locals (n + 1) (n + 3) (Number m) (Number k) (λ e. omega (arith, e)) h.left_at;
    room = omega (arith, h.room, length-set s.locals (n + 1) (Number m));
  }

  put_rest : (m : ℕ) → Regs n low high m k (put (n + 2) m)
  put_rest m = record {
    low_at = set_other s.locals (n + 2) n (Number m) (Number low) (λ e. omega (arith, e)) h.low_at;
    high_at = set_other s.locals (n + 2) (n + 1) (Number m) (Number high) (λ e. omega (arith, e)) h.high_at;
    rest_at = slice_get-set_same s.locals (n + 2) (Number m) (omega (arith, h.room));
    left_at = set_other s.locals (n + 2) (n + 3) (Number m) (Number k) (λ e. omega (arith, e)) h.left_at;
    room = omega (arith, h.room, length-set s.locals (n + 2) (Number m));
  }

  put_left : (m : ℕ) → Regs n low high r m (put (n + 3) m)
  put_left m = record {
    low_at = set_other s.locals (n + 3) n (Number m) (Number low) (λ e. omega (arith, e)) h.low_at;
    high_at = set_other s.locals (n + 3) (n + 1) (Number m) (Number high) (λ e. omega (arith, e)) h.high_at;
    rest_at = set_other s.locals (n + 3) (n + 2) (Number m) (Number r) (λ e. omega (arith, e)) h.rest_at;
    left_at = slice_get-set_same s.locals (n + 3) (Number m) h.room;
    room = omega (arith, h.room, length-set s.locals (n + 3) (Number m));
  }

-- the expressions of a turn
abbrev rest_turn : (n bits : ℕ) → Expression
rest_turn n bits = binop I64 Add (binop I64 Shl (local (n + 2)) (i64 bits)) (binop I64 (Shr Unsigned) (local n) (i64 (64 - bits)))

abbrev quotient_by : (n x : ℕ) → Expression
quotient_by n x = divop I64 (Div Unsigned) (local n) (local x)

abbrev remainder_by : (n x : ℕ) → Expression
remainder_by n x = divop I64 (Rem Unsigned) (local n) (local x)

abbrev low_turn : (n x bits : ℕ) → Expression
low_turn n x bits = binop I64 Add (binop I64 Shl (local n) (i64 bits)) (quotient_by (n + 2) x)

abbrev fewer : ℕ → Expression
fewer n = binop I32 Sub (local (n + 3)) (i32 1)

rest_is : (v : Digit) (n r low : ℕ) (s : LowState) → slice_get s.locals (n + 2) ≡ Some (Number r) → slice_get s.locals n ≡ Some (Number low) → r * base_of v + down_of v low < 2 ^ 64 →
    value s (rest_turn n (bits_of v)) ≡ Some (Number (r * base_of v + down_of v low))
rest_is Bit n r low s r_at low_at few =
    let same : (r * 2 % 2 ^ 64 + low / 2 ^ 63) % 2 ^ 64 ≡ r * 2 + low / 2 ^ 63 = omega (arith, few) in
    rw (r_at, low_at, same) refl
rest_is Hex n r low s r_at low_at few =
    let same : (r * 16 % 2 ^ 64 + low / 2 ^ 60) % 2 ^ 64 ≡ r * 16 + low / 2 ^ 60 = omega (arith, few) in
    rw (r_at, low_at, same) refl

low_is : (v : Digit) (n x c t low : ℕ) (s : LowState) → slice_get s.locals (n + 2) ≡ Some (Number t) → slice_get s.locals n ≡ Some (Number low) → slice_get s.locals x ≡ Some (Number c) → c ≢ 0 → t / c < base_of v →
    value s (low_turn n x (bits_of v)) ≡ Some (Number (rest_of v low + t / c))
low_is Bit n x c t low s t_at low_at x_at some few =
    let same : (low * 2 % 2 ^ 64 + t / c) % 2 ^ 64 ≡ low * 2 % 2 ^ 64 + t / c = omega (arith, few) in
    rw (t_at, low_at, x_at, ne_eqb c 0 some, same) refl
low_is Hex n x c t low s t_at low_at x_at some few =
    let same : (low * 16 % 2 ^ 64 + t / c) % 2 ^ 64 ≡ low * 16 % 2 ^ 64 + t / c = omega (arith, few) in
    rw (t_at, low_at, x_at, ne_eqb c 0 some, same) refl

quotient_is : (n x c m : ℕ) (s : LowState) → slice_get s.locals n ≡ Some (Number m) → slice_get s.locals x ≡ Some (Number c) → c ≢ 0 → value s (quotient_by n x) ≡ Some (Number (m / c))
quotient_is n x c m s at x_at some = rw (at, x_at, ne_eqb c 0 some) refl

remainder_is : (n x c m : ℕ) (s : LowState) → slice_get s.locals n ≡ Some (Number m) → slice_get s.locals x ≡ Some (Number c) → c ≢ 0 → value s (remainder_by n x) ≡ Some (Number (m % c))
remainder_is n x c m s at x_at some = rw (at, x_at, ne_eqb c 0 some) refl

base-zero : (v : Digit) → base_of v ^ 0 ≡ 1
base-zero Bit = refl
base-zero Hex = refl

-- ---- the low word, behind a remainder
module _ (most fuel n x c d high : ℕ) (v : Digit) (below : x < n) (small : c * base_of v ≤ 2 ^ 64) (s0 : LowState) (x_is : slice_get s0.locals x ≡ Some (Number c)) where
  -- so many turns are left
  pub record Left (k : ℕ) (s : LowState) : Type 0 where
    pub kept : Kept n s0 s
    pub low : ℕ
    pub r : ℕ
    pub q : ℕ
    pub p : ℕ
    pub regs : Regs n low high r k s
    pub divided : Divided d c p r low q
    pub power : p * base_of v ^ k ≡ 2 ^ 64
    pub few : k ≤ 64

  module _ (j : ℕ) (s : LowState) (at : Left (suc j) s) where
    abbrev longer : ℕ
    longer = at.r * base_of v + down_of v at.low

    abbrev low1 : ℕ
    low1 = rest_of v at.low + longer / c

    abbrev r1 : ℕ
    r1 = longer % c

    some : c ≢ 0
    some zeroth = omega (arith, zeroth, at.divided.less)

    digit : longer / c < base_of v
    digit = quotient-less longer (base_of v) c (times-below at.r c (base_of v) (down_of v at.low) at.divided.less (down-few v at.low at.divided.low_is))

    abbrev u1 : LowState
    u1 = put n at.low high at.r (suc j) s at.regs (n + 2) longer

    regs1 : Regs n at.low high longer (suc j) u1
    regs1 = put_rest n at.low high at.r (suc j) s at.regs longer

    abbrev u2 : LowState
    u2 = put n at.low high longer (suc j) u1 regs1 n low1

    regs2 : Regs n low1 high longer (suc j) u2
    regs2 = put_low n at.low high longer (suc j) u1 regs1 low1

    abbrev u3 : LowState
    u3 = put n low1 high longer (suc j) u2 regs2 (n + 2) r1

    regs3 : Regs n low1 high r1 (suc j) u3
    regs3 = put_rest n low1 high longer (suc j) u2 regs2 r1

    kept1 : Kept n s0 u1
    kept1 = Kept-set n s0 s (n + 2) (Number longer) at.kept (omega arith)

    kept2 : Kept n s0 u2
    kept2 = Kept-set n s0 u1 n (Number low1) kept1 (omega arith)

    kept3 : Kept n s0 u3
    kept3 = Kept-set n s0 u2 (n + 2) (Number r1) kept2 (omega arith)

    first : value s (rest_turn n (bits_of v)) ≡ Some (Number longer)
    first = rest_is v n at.r at.low s at.regs.rest_at at.regs.low_at (down-room v at.r at.low c at.divided.less small at.divided.low_is)

    second : value u1 (low_turn n x (bits_of v)) ≡ Some (Number low1)
    second = low_is v n x c longer at.low u1 regs1.rest_at regs1.low_at (kept1.below x below ∙ x_is) some digit

    third : value u2 (remainder_by (n + 2) x) ≡ Some (Number r1)
    third = remainder_is (n + 2) x c longer u2 regs2.rest_at (kept2.below x below ∙ x_is) some

    fourth : value u3 (fewer n) ≡ Some (Number j)
    fourth =
        let less : (suc j + 2 ^ 32 - 1) % 2 ^ 32 ≡ j = omega (arith, at.few) in
        rw (regs3.left_at, less) refl

    turn_ends : Ends 24 (Left j) Never none (meaning most fuel (divide_turn n x (bits_of v)) s)
    turn_ends =
        assign_then (Left j) Never none most fuel s 16 (seq (assign n (low_turn n x (bits_of v))) (seq (assign (n + 2) (remainder_by (n + 2) x)) (assign (n + 3) (fewer n)))) (n + 2) (rest_turn n (bits_of v)) (Number longer) first (omega (arith, at.regs.room))
        (assign_then (Left j) Never none most fuel u1 8 (seq (assign (n + 2) (remainder_by (n + 2) x)) (assign (n + 3) (fewer n))) n (low_turn n x (bits_of v)) (Number low1) second (omega (arith, regs1.room))
        (assign_then (Left j) Never none most fuel u2 4 (assign (n + 3) (fewer n)) (n + 2) (remainder_by (n + 2) x) (Number r1) third (omega (arith, regs2.room))
        (assign_ends (Left j) Never none most fuel (n + 3) (fewer n) (Number j) u3 fourth regs3.room (record {
          kept = Kept-set n s0 u3 (n + 3) (Number j) kept3 (omega arith);
          low = low1;
          r = r1;
          q = at.q * base_of v + longer / c;
          p = at.p * base_of v;
          regs = put_left n low1 high r1 (suc j) u3 regs3 j;
          divided = digit-more d c at.p at.r at.low at.q (base_of v) (down_of v at.low) (rest_of v at.low) (shifted v at.low) (rest-room v at.low) (down-few v at.low at.divided.low_is) at.divided;
          power = mul_assoc at.p (base_of v) (base_of v ^ j) ∙ (ap (λ (m : ℕ). at.p * m) (sym (pow-succ' (base_of v) j)) ∙ at.power);
          few = omega (arith, at.few);
        }))))

  turn : (k : ℕ) (s : LowState) → Left k s → ((value s (local (n + 3)) ≡ Some (Number 0)) × Left 0 s) ⊎ (IsSet (value s (local (n + 3))) × (j : ℕ) × (j < k) × Ends 24 (Left j) Never none (meaning most fuel (divide_turn n x (bits_of v)) s))
  turn zero s at = inl (at.regs.left_at, at)
  turn (suc j) s at = inr (inl (j, at.regs.left_at), j, omega arith, turn_ends j s at)

  -- the quotient's word and the remainder, and the high word as it was
  pub record Quotient (t : LowState) : Type 0 where
    pub kept : Kept n s0 t
    pub low : ℕ
    pub rest : ℕ
    pub low_at : slice_get t.locals n ≡ Some (Number low)
    pub high_at : slice_get t.locals (n + 1) ≡ Some (Number high)
    pub rest_at : slice_get t.locals (n + 2) ≡ Some (Number rest)
    pub low_is : low < 2 ^ 64
    pub less : rest < c
    pub whole : low * c + rest ≡ d

  given : (t : LowState) → Left 0 t → Quotient t
  given t at =
      let one : at.p * 1 ≡ 2 ^ 64 = subst (λ (m : ℕ). at.p * m ≡ 2 ^ 64) (base-zero v) at.power in
      let power : at.p ≡ 2 ^ 64 = omega (arith, one) in
      let last : Divided d c (2 ^ 64) at.r at.low at.q = subst (λ (p : ℕ). Divided d c p at.r at.low at.q) power at.divided in
      record {
        kept = at.kept;
        low = at.low;
        rest = at.r;
        low_at = at.regs.low_at;
        high_at = at.regs.high_at;
        rest_at = at.regs.rest_at;
        low_is = last.low_is;
        less = last.less;
        whole = divided-last d c at.r at.low at.q last;
      }

  -- 27 instructions for a digit, and 4
  module _ (k low r : ℕ) (s : LowState) (kept : Kept n s0 s) (low_at : slice_get s.locals n ≡ Some (Number low)) (high_at : slice_get s.locals (n + 1) ≡ Some (Number high)) (rest_at : slice_get s.locals (n + 2) ≡ Some (Number r)) (room : n + 3 < length s.locals)
      (turns_are : 64 / bits_of v ≡ k) (all : base_of v ^ k ≡ 2 ^ 64) (few : k ≤ 64) (more : k < fuel) (low_is : low < 2 ^ 64) (less : r < c) (whole : r * 2 ^ 64 + low ≡ d) where
    abbrev u : LowState
    u = record s { locals = slice_set s.locals (n + 3) (Number k) }

    begun : Left k u
    begun = record {
      kept = Kept-set n s0 s (n + 3) (Number k) kept (omega arith);
      low = low;
      r = r;
      q = 0;
      p = 1;
      regs = record {
        low_at = set_other s.locals (n + 3) n (Number k) (Number low) (λ e. omega (arith, e)) low_at;
        high_at = set_other s.locals (n + 3) (n + 1) (Number k) (Number high) (λ e. omega (arith, e)) high_at;
        rest_at = set_other s.locals (n + 3) (n + 2) (Number k) (Number r) (λ e. omega (arith, e)) rest_at;
        left_at = slice_get-set_same s.locals (n + 3) (Number k) room;
        room = omega (arith, room, length-set s.locals (n + 3) (Number k));
      };
      divided = record { less = less; low_is = low_is; digits = omega arith; whole = omega (arith, whole) };
      power = omega (arith, all);
      few = few;
    }

    pub low_word_ends : Ends (k * 27 + 4) Quotient Never none (meaning most fuel (low_word_block n x (bits_of v)) s)
    low_word_ends =
        Ends-more Quotient Never none (2 + (k * 27 + 2)) (k * 27 + 4) (meaning most fuel (low_word_block n x (bits_of v)) s) (omega arith)
        (assign_then Quotient Never none most fuel s (k * 27 + 2) (while (local (n + 3)) (divide_turn n x (bits_of v))) (n + 3) (i32 (64 / bits_of v)) (Number k) (ap (λ (m : ℕ). Some (Number m)) turns_are) room
        (Ends-weaker (k * 27 + 2) (k * 27 + 2) (Left 0) Quotient Never Never none none (meaning most fuel (while (local (n + 3)) (divide_turn n x (bits_of v))) u) (omega arith) given (λ t y. y) (λ code y. y)
        (turns_end 24 Left (Left 0) Never none (local (n + 3)) (meaning most fuel (divide_turn n x (bits_of v))) turn fuel k u more begun)))

-- ---- both words, by a number below 2^63
pub bit-thin : (c : ℕ) → c < 2 ^ 63 → c * base_of Bit ≤ 2 ^ 64
bit-thin c small = omega (arith, small)

module _ (most fuel n x c : ℕ) (below : x < n) (some : 1 ≤ c) (small : c < 2 ^ 63) (s0 : LowState) (x_is : slice_get s0.locals x ≡ Some (Number c))
    (low high : ℕ) (low_at : slice_get s0.locals n ≡ Some (Number low)) (high_at : slice_get s0.locals (n + 1) ≡ Some (Number high)) (low_is : low < 2 ^ 64) (room : n + 3 < length s0.locals) (more : 64 < fuel) where
  abbrev s1 : LowState
  s1 = record s0 { locals = slice_set s0.locals (n + 2) (Number (high % c)) }

  abbrev s2 : LowState
  s2 = record s1 { locals = slice_set s1.locals (n + 1) (Number (high / c)) }

  defined : c ≢ 0
  defined zeroth = omega (arith, zeroth, some)

  many1 : length s1.locals ≡ length s0.locals
  many1 = length-set s0.locals (n + 2) (Number (high % c))

  many2 : length s2.locals ≡ length s0.locals
  many2 = length-set s1.locals (n + 1) (Number (high / c)) ∙ many1

  rest_kept : Kept n s0 s1
  rest_kept = Kept-set n s0 s0 (n + 2) (Number (high % c)) (Kept-same n s0) (omega arith)

  pub div_128_ends : Ends 1740 (Quotient most fuel n x c (high % c * 2 ^ 64 + low) (high / c) Bit below (bit-thin c small) s0 x_is) Never none (meaning most fuel (div_128_block n x) s0)
  div_128_ends =
      let d : ℕ = high % c * 2 ^ 64 + low in
      let P : LowState → Type 0 = Quotient most fuel n x c d (high / c) Bit below (bit-thin c small) s0 x_is in
      assign_then P Never none most fuel s0 1736 (seq (assign (n + 1) (quotient_by (n + 1) x)) (low_word_block n x 1)) (n + 2) (remainder_by (n + 1) x) (Number (high % c)) (remainder_is (n + 1) x c high s0 high_at x_is defined) (omega (arith, room))
      (assign_then P Never none most fuel s1 1732 (low_word_block n x 1) (n + 1) (quotient_by (n + 1) x) (Number (high / c))
      (quotient_is (n + 1) x c high s1 (set_other s0.locals (n + 2) (n + 1) (Number (high % c)) (Number high) (λ e. omega (arith, e)) high_at) (rest_kept.below x below ∙ x_is) defined) (omega (arith, many1, room))
      (low_word_ends most fuel n x c d (high / c) Bit below (bit-thin c small) s0 x_is 64 low (high % c) s2 (Kept-set n s0 s1 (n + 1) (Number (high / c)) rest_kept (omega arith))
      (set_other s1.locals (n + 1) n (Number (high / c)) (Number low) (λ e. omega (arith, e)) (set_other s0.locals (n + 2) n (Number (high % c)) (Number low) (λ e. omega (arith, e)) low_at))
      (slice_get-set_same s1.locals (n + 1) (Number (high / c)) (omega (arith, many1, room)))
      (set_other s1.locals (n + 1) (n + 2) (Number (high / c)) (Number (high % c)) (λ e. omega (arith, e)) (slice_get-set_same s0.locals (n + 2) (Number (high % c)) (omega (arith, room))))
      (omega (arith, many2, room)) refl refl (omega arith) more low_is (mod-lt high (omega (arith, some))) refl))

-- ---- a quotient of one word, by a number below 2^60
module _ (most fuel n x c : ℕ) (below : x < n) (some : 1 ≤ c) (small : c < 10 ^ 18) (s0 : LowState) (x_is : slice_get s0.locals x ≡ Some (Number c))
    (low high d : ℕ) (low_at : slice_get s0.locals n ≡ Some (Number low)) (high_at : slice_get s0.locals (n + 1) ≡ Some (Number high)) (low_is : low < 2 ^ 64) (whole : high * 2 ^ 64 + low ≡ d) (fits : d < c * 10 ^ 18) (room : n + 3 < length s0.locals) where
  -- the quotient in its word, and the remainder
  pub record Parted (t : LowState) : Type 0 where
    pub kept : Kept n s0 t
    pub q : ℕ
    pub r : ℕ
    pub q_at : slice_get t.locals n ≡ Some (Number q)
    pub r_at : slice_get t.locals (n + 2) ≡ Some (Number r)
    pub less : r < c
    pub parts : q * c + r ≡ d

  divisor_is : c ≢ 0
  divisor_is zeroth = omega (arith, zeroth, some)

  abbrev short : Statement
  short = seq (assign (n + 2) (remainder_by n x)) (assign n (quotient_by n x))

  abbrev long : Statement
  long = seq (assign (n + 2) (local (n + 1))) (low_word_block n x 4)

  -- the high word is 0
  one_word : high ≡ 0 → Ends 8 Parted Never none (meaning most fuel short s0)
  one_word zeroth =
      let t1 : LowState = record s0 { locals = slice_set s0.locals (n + 2) (Number (low % c)) } in
      let t2 : LowState = record t1 { locals = slice_set t1.locals n (Number (low / c)) } in
      let kept : Kept n s0 t1 = Kept-set n s0 s0 (n + 2) (Number (low % c)) (Kept-same n s0) (omega arith) in
      let many : length t1.locals ≡ length s0.locals = length-set s0.locals (n + 2) (Number (low % c)) in
      assign_then Parted Never none most fuel s0 4 (assign n (quotient_by n x)) (n + 2) (remainder_by n x) (Number (low % c)) (remainder_is n x c low s0 low_at x_is divisor_is) (omega (arith, room))
      (assign_ends Parted Never none most fuel n (quotient_by n x) (Number (low / c)) t1
      (quotient_is n x c low t1 (set_other s0.locals (n + 2) n (Number (low % c)) (Number low) (λ e. omega (arith, e)) low_at) (kept.below x below ∙ x_is) divisor_is) (omega (arith, many, room)) (record {
        kept = Kept-set n s0 t1 n (Number (low / c)) kept (omega arith);
        q = low / c;
        r = low % c;
        q_at = slice_get-set_same t1.locals n (Number (low / c)) (omega (arith, many, room));
        r_at = set_other t1.locals n (n + 2) (Number (low / c)) (Number (low % c)) (λ e. omega (arith, e)) (slice_get-set_same s0.locals (n + 2) (Number (low % c)) (omega (arith, room)));
        less = mod-lt low (omega (arith, some));
        parts = div-add-mod' low c ∙ omega (arith, zeroth, whole);
      }))

  -- it is below the divisor, and so the remainder as it is
  two_words : 16 < fuel → Ends 438 Parted Never none (meaning most fuel long s0)
  two_words more =
      let t1 : LowState = record s0 { locals = slice_set s0.locals (n + 2) (Number high) } in
      let kept : Kept n s0 t1 = Kept-set n s0 s0 (n + 2) (Number high) (Kept-same n s0) (omega arith) in
      let many : length t1.locals ≡ length s0.locals = length-set s0.locals (n + 2) (Number high) in
      let thin : c * base_of Hex ≤ 2 ^ 64 = omega (arith, small) in
      let less : high < c = omega (arith, whole, fits) in
      assign_then Parted Never none most fuel s0 436 (low_word_block n x 4) (n + 2) (local (n + 1)) (Number high) high_at (omega (arith, room))
      (Ends-weaker 436 436 (Quotient most fuel n x c d high Hex below thin s0 x_is) Parted Never Never none none (meaning most fuel (low_word_block n x 4) t1) (omega arith)
      (λ t h. record { kept = h.kept; q = h.low; r = h.rest; q_at = h.low_at; r_at = h.rest_at; less = h.less; parts = h.whole }) (λ t y. y) (λ code y. y)
      (low_word_ends most fuel n x c d high Hex below thin s0 x_is 16 low high t1 kept
      (set_other s0.locals (n + 2) n (Number high) (Number low) (λ e. omega (arith, e)) low_at)
      (set_other s0.locals (n + 2) (n + 1) (Number high) (Number high) (λ e. omega (arith, e)) high_at)
      (slice_get-set_same s0.locals (n + 2) (Number high) (omega (arith, room)))
      (omega (arith, many, room)) refl refl (omega arith) more low_is less whole))

  pub quotient_ends : 16 < fuel → Ends (11 + long_more d) Parted Never none (meaning most fuel (quotient_block n x) s0)
  quotient_ends more = by_high high refl
    where
      test : (h : ℕ) → h ≡ high → value s0 (is_zero I64 (local (n + 1))) ≡ Some (Number (truth (h == 0)))
      test h is = rw (high_at, is) refl

      by_high : (h : ℕ) → h ≡ high → Ends (11 + long_more d) Parted Never none (meaning most fuel (quotient_block n x) s0)
      by_high zero is = Ends-more Parted Never none 11 (11 + long_more d) (meaning most fuel (quotient_block n x) s0) (omega arith)
          (conditional_ends Parted Never none most fuel 8 (is_zero I64 (local (n + 1))) short long s0 (inl (inl (0, test 0 is), one_word (sym is))))
      by_high (suc h) is =
          let second : nat_lt d (2 ^ 64) ≡ false = le-ltb d (2 ^ 64) (omega (arith, is, whole)) in
          rw second (conditional_ends Parted Never none most fuel 438 (is_zero I64 (local (n + 1))) short long s0
          (inr (test (suc h) is ∙ ap (λ (b : Bool). Some (Number (truth b))) (ne_eqb (suc h) 0 (λ e. omega (arith, e))), two_words more)))
