-- The blocks of sums keep what is said of them.
use Rattle.std.proofs.Common.{◌≡◌, ℕ, ◌+◌, ◌*◌, ◌/◌, ◌%◌, ◌^◌, ◌<◌, ◌≤◌, ℤ, pos, ◌*ℤ◌, int_div, min, IsTrue, List, Some, slice_get, refl, sym, ap, ◌∙◌, arith}
use Rattle.std.proofs.lemmas.Nat.{div-mul-add, mod-mul-add}
use Rattle.std.proofs.Math.Nat.{div-le_self}
use Rattle.qw_types.specs.Arithmetic.{fits, checked}
use Rattle.qw_module.specs.declared.instruction.ValType.{ValType}
use Rattle.qw_module.specs.declared.instruction.ValType.TheVariants.{I32, I64}
use Rattle.qw_low.specs.State.{Number, LowState}
use Rattle.qw_low.specs.Held.{HoldsNumber}
use Rattle.qw_low.specs.Typing.{IsTyped}
use Rattle.qw_low.specs.Raising.{Kept, Leaves, Raises}
use Rattle.qw_low.specs.Meaning.{meaning}
use Rattle.qw_low.specs.Size.{size}
use Rattle.qw_low.proofs.Promises.{Ends-more, Ends-weaker}
use Rattle.qw_feed.proofs.Frames.{Never}
use Rattle.qw_wide.proofs.Words.{held_word}
use Rattle.qw_wide.proofs.Relations.{fits_back}
use Rattle.qw_group.specs.Sums.{Accumulates, Fits, Divides, Averages, average_most}
use Rattle.qw_group.specs.Wides.{add_128_block}
use Rattle.qw_group.specs.Inner.WideBlocks.{fit_block, low_word_block, div_128_block, quotient_block, digit_block, average_block, averaging_block}
use Rattle.qw_group.proofs.WideFacts.{Bit, joined, most-few}
use Rattle.qw_group.proofs.WideRuns.{none, add_128_ends, fit_ends}
use Rattle.qw_group.proofs.AverageRuns.{avg_ends}
use Rattle.qw_group.proofs.QuotientRuns.{Quotient, bit-thin, div_128_ends}

pub accumulates : (n x : ℕ) → Accumulates n x (add_128_block n x)
accumulates n x = record {
  runs = λ pages fuel s z v below wide number small room. add_128_ends pages fuel n x s z v below wide (held_word s x v number) (fits_back number.0 v number.2 number.3) small room;
  typed = λ types x_is low high own. (
    (I64, own, (low, x_is, refl)),
    ((I64, high, ((high, (x_is, (omega arith, refl), refl), refl), ((own, low, refl), refl), refl)), (I64, low, own)),
  );
  short = omega arith;
}

pub fits-kept : (n : ℕ) → Fits n (fit_block n)
fits-kept n = record {
  runs = λ pages fuel s z wide. fit_ends pages fuel n s z wide;
  typed = λ types low high. (
    ((high, (low, (omega arith, refl), refl), refl), omega arith, tt),
    (((omega arith, refl), (low, (omega arith, refl), refl), refl), omega arith, tt),
  );
  short = omega arith;
}

module _ (pages fuel n x c : ℕ) (below : x < n) (some : 1 ≤ c) (small : c < 2 ^ 63) (s : LowState) (x_is : slice_get s.locals x ≡ Some (Number c)) (low high : ℕ) where
  abbrev d : ℕ
  d = high * 2 ^ 64 + low

  abbrev Divided : LowState → Type 0
  Divided t = Kept n s t × ((q r : ℕ) × (slice_get t.locals n ≡ Some (Number (q % 2 ^ 64))) × (slice_get t.locals (n + 1) ≡ Some (Number (q / 2 ^ 64))) × (slice_get t.locals (n + 2) ≡ Some (Number r)) × (q ≡ d / c) × (r ≡ d % c))

  divided : (t : LowState) → Quotient pages fuel n x c (high % c * 2 ^ 64 + low) (high / c) Bit below (bit-thin c small) s x_is t → Divided t
  divided t h =
      let q : ℕ = high / c * 2 ^ 64 + h.low in
      let l : q % 2 ^ 64 ≡ h.low = omega (arith, h.low_is) in
      let u : q / 2 ^ 64 ≡ high / c = omega (arith, h.low_is) in
      let whole : q * c + h.rest ≡ d = joined high low c h.low h.rest h.whole in (
        h.kept,
        (
          q,
          h.rest,
          h.low_at ∙ ap (λ (m : ℕ). Some (Number m)) (sym l),
          h.high_at ∙ ap (λ (m : ℕ). Some (Number m)) (sym u),
          h.rest_at,
          sym (div-mul-add q c h.rest h.less) ∙ ap (λ (m : ℕ). m / c) whole,
          sym (mod-mul-add q c h.rest h.less) ∙ ap (λ (m : ℕ). m % c) whole,
        ),
      )

low_word_typed : (types : List ValType) (n x bits : ℕ) → 1 ≤ bits → bits ≤ 64 → slice_get types x ≡ Some I64 → slice_get types n ≡ Some I64 → slice_get types (n + 2) ≡ Some I64 → slice_get types (n + 3) ≡ Some I32 → IsTyped types (low_word_block n x bits)
low_word_typed types n x bits some few x_is low rest left =
    let turns : 64 / bits ≤ 64 = div-le_self 64 bits in (
      (I32, left, (omega (arith, turns), refl)),
      (
        left,
        (
          (I64, rest, ((rest, (omega (arith, few), refl), refl), (low, (omega arith, refl), refl), refl)),
          (
            (I64, low, ((low, (omega (arith, few), refl), refl), (rest, x_is, refl), refl)),
            ((I64, rest, (rest, x_is, refl)), (I32, left, (left, (omega arith, refl), refl))),
          ),
        ),
      ),
    )

divide_typed : (types : List ValType) (n x : ℕ) → slice_get types x ≡ Some I64 → slice_get types n ≡ Some I64 → slice_get types (n + 1) ≡ Some I64 → slice_get types (n + 2) ≡ Some I64 → slice_get types (n + 3) ≡ Some I32 →
    IsTyped types (div_128_block n x)
divide_typed types n x x_is low high rest left = (
  (I64, rest, (high, x_is, refl)),
  ((I64, high, (high, x_is, refl)), low_word_typed types n x 1 (omega arith) (omega arith) x_is low rest left),
)

quotient_typed : (types : List ValType) (n x : ℕ) → slice_get types x ≡ Some I64 → slice_get types n ≡ Some I64 → slice_get types (n + 1) ≡ Some I64 → slice_get types (n + 2) ≡ Some I64 → slice_get types (n + 3) ≡ Some I32 →
    IsTyped types (quotient_block n x)
quotient_typed types n x x_is low high rest left = (
  (high, refl),
  ((I64, rest, (low, x_is, refl)), (I64, low, (low, x_is, refl))),
  ((I64, rest, high), low_word_typed types n x 4 (omega arith) (omega arith) x_is low rest left),
)

pub divides : (n x : ℕ) → Divides n x (div_128_block n x)
divides n x = record {
  runs = λ pages fuel s low high c below low_at high_at low_is high_is x_is some small room more.
      Ends-weaker 1740 (size (div_128_block n x) * 65) (Quotient pages fuel n x c (high % c * 2 ^ 64 + low) (high / c) Bit below (bit-thin c small) s x_is) (Divided pages fuel n x c below some small s x_is low high) Never Never none none
      (meaning pages fuel (div_128_block n x) s) (omega arith)
      (divided pages fuel n x c below some small s x_is low high) (λ t y. y) (λ code y. y)
      (div_128_ends pages fuel n x c below some small s x_is low high low_at high_at low_is room more);
  typed = λ types x_is low high rest left. divide_typed types n x x_is low high rest left;
  short = omega arith;
}

-- ---- averages
digit_typed : (types : List ValType) (n x base : ℕ) → base < 2 ^ 64 → slice_get types x ≡ Some I64 → slice_get types n ≡ Some I64 → slice_get types (n + 2) ≡ Some I64 → IsTyped types (digit_block n x base)
digit_typed types n x base few x_is low rest = (
  (I64, rest, (rest, (omega (arith, few), refl), refl)),
  ((I64, low, ((low, (omega (arith, few), refl), refl), (rest, x_is, refl), refl)), (I64, rest, (rest, x_is, refl))),
)

average_typed : (types : List ValType) (n x : ℕ) → slice_get types x ≡ Some I64 → slice_get types n ≡ Some I64 → slice_get types (n + 1) ≡ Some I64 → slice_get types (n + 2) ≡ Some I64 → slice_get types (n + 3) ≡ Some I32 →
    IsTyped types (average_block n x)
average_typed types n x x_is low high rest left = (
  quotient_typed types n x x_is low high rest left,
  (
    (((omega arith, refl), low, refl), omega arith, tt),
    (
      (x_is, (omega arith, refl), refl),
      digit_typed types n x (10 ^ 4) (omega arith) x_is low rest,
      (
        (I32, left, (omega arith, refl)),
        (left, (digit_typed types n x 10 (omega arith) x_is low rest, (I32, left, (left, (omega arith, refl), refl)))),
      ),
    ),
  ),
)

three : (f : ℕ) → f + 1 + 2 ≡ f + 3
three f = omega arith

four : (f : ℕ) → f + 1 + 3 ≡ f + 4
four f = omega arith

pub averages : (f x : ℕ) → Averages f x (averaging_block f x)
averages f x = record {
  runs = λ pages fuel s z c below wide x_is some small bound room more.
      let r = checked (int_div (z *ℤ pos (10 ^ 4)) (pos c)) in
      let P : ℤ → LowState → Type 0 = λ v t. Kept f s t × HoldsNumber t (f + 1) v × IsTrue (fits v) in
      Ends-more (Leaves P r) Never (Raises r) (average_most z c) (min (size (averaging_block f x) * 17) (average_most z c)) (meaning pages fuel (averaging_block f x) s) (omega (arith, most-few z c))
      (avg_ends pages fuel f x c below s z wide x_is some small bound room more);
  typed = λ types x_is flag low high rest left.
      let up : f + 1 + 1 ≡ f + 2 = omega arith in
      let high_is : slice_get types (f + 1 + 1) ≡ Some I64 = ap (λ (i : ℕ). slice_get types i) up ∙ high in
      let rest_is : slice_get types (f + 1 + 2) ≡ Some I64 = ap (λ (i : ℕ). slice_get types i) (three f) ∙ rest in
      let left_is : slice_get types (f + 1 + 3) ≡ Some I32 = ap (λ (i : ℕ). slice_get types i) (four f) ∙ left in (
        (I32, flag, ((omega arith, refl), high_is, refl)),
        (
          (flag, ((I64, high_is, (((omega arith, refl), high_is, refl), ((low, (omega arith, refl), refl), refl), refl)), (I64, low, ((omega arith, refl), low, refl))), tt),
          (average_typed types (f + 1) x x_is low high_is rest_is left_is, (flag, (I64, low, ((omega arith, refl), low, refl)), tt)),
        ),
      );
  short = omega arith;
}
