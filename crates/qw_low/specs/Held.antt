-- What locals hold: numbers, texts and null words.
use Rattle.std.specs.Prelude.{◌≡◌, ℕ, ◌+◌, ◌<◌, ◌≤◌, ◌^◌, ℤ, List, length, Option, Some, None, slice_get}
use Rattle.std.specs.Int.{w64, cast_signed}
use Rattle.qw_low.specs.State.{Part, Number, Address, LowState, size_of}

-- a number, as a value of 64 bits whose signed reading it is (Core 1.0, 4.3.2)
abbrev pub HoldsNumber : LowState → (x : ℕ) → ℤ → Type 0
HoldsNumber s x v = (word : ℕ) × (slice_get s.locals x ≡ Some (Number word)) × (word < 2 ^ 64) × (cast_signed w64 word ≡ v)

-- a text lies at an offset of a part, octet by octet
pub record LiesAt (s : LowState) (p : Part) (offset : ℕ) (octets : List ℕ) : Type 0 where
  pub size : ℕ
  pub sized : size_of s p ≡ Some size
  pub inside : offset + length octets ≤ size
  pub each : (i octet : ℕ) → slice_get octets i ≡ Some octet → s.cells p (offset + i) 1 ≡ Some (Number octet)

-- a text, by its address and its length
pub record HoldsText (s : LowState) (address count : ℕ) (octets : List ℕ) : Type 0 where
  pub part : Part
  pub offset : ℕ
  pub is_at : slice_get s.locals address ≡ Some (Address part offset)
  pub is_long : slice_get s.locals count ≡ Some (Number (length octets))
  pub short : length octets < 2 ^ 32
  pub lies : LiesAt s part offset octets

-- a null word says that there is no value, or that there is one; without one there always is
abbrev pub SaysNull : LowState → Option ℕ → Type 0
SaysNull s None = ⊥
SaysNull s (Some x) = slice_get s.locals x ≡ Some (Number 1)

abbrev pub SaysValue : LowState → Option ℕ → Type 0
SaysValue s None = Unit {0}
SaysValue s (Some x) = slice_get s.locals x ≡ Some (Number 0)
