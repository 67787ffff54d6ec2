-- What a block promises that decides whether a text matches a pattern (ISO/IEC 9075:1992, 8.5).
use Rattle.std.specs.Prelude.{◌≡◌, ℕ, ◌+◌, ◌*◌, ◌≤◌, List, [], ◌∷◌, length, Some, slice_get}
use Rattle.qw_types.specs.Like.{fits_pattern}
use Rattle.qw_module.specs.declared.instruction.ValType.{ValType}
use Rattle.qw_module.specs.declared.instruction.ValType.TheVariants.{I32}
use Rattle.qw_module.specs.Numbers.{truth}
use Rattle.qw_low.specs.declared.cell.Cell.{Cell}
use Rattle.qw_low.specs.Syntax.{Statement}
use Rattle.qw_low.specs.State.{Number, LowState}
use Rattle.qw_low.specs.Meaning.{meaning}
use Rattle.qw_low.specs.Typing.{IsTyped}
use Rattle.qw_low.specs.Size.{size}
use Rattle.qw_low.specs.Promise.{Ends}
use Rattle.qw_low.specs.Raising.{Kept}
use Rattle.qw_low.specs.Held.{HoldsText}
use Rattle.qw_text.specs.Texts.{DeclaresText}

-- the types of the block's own locals, in their order
abbrev pub like_types : List ValType
like_types = I32 ∷ I32 ∷ I32 ∷ I32 ∷ I32 ∷ I32 ∷ I32 ∷ I32 ∷ []

-- how many places a text has, each paired with each of a pattern: those before its octets, and the one behind the last
abbrev pub pairs : (text pattern : List ℕ) → ℕ
pairs v w = (length v + 1) * (length w + 1)

-- a local has 1 where a text matches a pattern, and 0 where it doesn't
abbrev pub SaysLike : (out : ℕ) → (text pattern : List ℕ) → LowState → Type 0
SaysLike out v w t = slice_get t.locals out ≡ Some (Number (truth (fits_pattern w v)))

-- A block that begins with a text and a pattern in their locals, and whose own locals begin at `free`. Within as many instructions as it
-- has, times one more than the pairs of their places, it is completed, and there is the answer; it changes nothing but its own locals.
pub record Likes (out : ℕ) (text pattern : Cell) (free : ℕ) (a : Statement) : Type 0 where
  pub runs : (pages fuel more : ℕ) (s : LowState) (v w : List ℕ) → 1 + pairs v w ≤ more → more ≤ fuel →
      HoldsText s text.value text.length v → HoldsText s pattern.value pattern.length w → free + length like_types ≤ length s.locals →
      Ends (size a * more) (λ t. Kept free s t × SaysLike out v w t) (λ t. ⊥) (λ code. ⊥) (meaning pages fuel a s)
  pub typed : (types : List ValType) → DeclaresText types text → DeclaresText types pattern →
      ((i : ℕ) (t : ValType) → slice_get like_types i ≡ Some t → slice_get types (free + i) ≡ Some t) → IsTyped types a
  pub short : size a ≤ 142
