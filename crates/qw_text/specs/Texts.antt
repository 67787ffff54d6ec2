-- What blocks promise that compare two texts (ISO/IEC 9075:1992, 8.2), or fold one into a hash.
use Rattle.std.specs.Prelude.{◌≡◌, ℕ, ◌+◌, ◌*◌, ◌≤◌, min, ℤ, pos, List, [], ◌∷◌, length, Some, slice_get}
use Rattle.std.specs.Ordering.{int_cmp, is_eq}
use Rattle.qw_types.specs.TextOrder.{text_order}
use Rattle.qw_module.specs.declared.instruction.ValType.{ValType}
use Rattle.qw_module.specs.declared.instruction.ValType.TheVariants.{I32, I64}
use Rattle.qw_module.specs.Numbers.{truth}
use Rattle.qw_low.specs.declared.cell.Cell.{Cell}
use Rattle.qw_low.specs.Syntax.{Statement}
use Rattle.qw_low.specs.State.{Number, LowState}
use Rattle.qw_low.specs.Meaning.{meaning}
use Rattle.qw_low.specs.Typing.{IsTyped}
use Rattle.qw_low.specs.Size.{size}
use Rattle.qw_low.specs.Promise.{Ends}
use Rattle.qw_low.specs.Raising.{Kept}
use Rattle.qw_low.specs.Held.{HoldsNumber, HoldsText}
use Rattle.qw_layout.specs.Hash.{fold_octets}

-- the types of a block's own locals, in their order
abbrev pub own_types : List ValType
own_types = I32 ∷ I32 ∷ I64 ∷ I64 ∷ []

-- a text's address and its length are declared as i32
abbrev pub DeclaresText : List ValType → Cell → Type 0
DeclaresText types c = (slice_get types c.value ≡ Some I32) × (slice_get types c.length ≡ Some I32)

-- the octets that bound a comparison: those of the left text, or of the shorter one, behind whose end nothing is compared (8.2)
abbrev pub of_left : (left right : List ℕ) → ℕ
of_left v w = length v

abbrev pub of_shorter : (left right : List ℕ) → ℕ
of_shorter v w = min (length v) (length w)

-- A block that begins with two texts in their locals, and whose own locals begin at `free`. Within as many instructions as it has, times
-- one more than these octets, it is completed, and what is said of the texts holds; it changes nothing but its own locals.
pub record Compares (octets : (left right : List ℕ) → ℕ) (says : (left right : List ℕ) → LowState → Type 0) (left right : Cell) (free : ℕ) (a : Statement) : Type 0 where
  pub runs : (pages fuel more : ℕ) (s : LowState) (v w : List ℕ) → 1 + octets v w ≤ more → more ≤ fuel →
      HoldsText s left.value left.length v → HoldsText s right.value right.length w → free + length own_types ≤ length s.locals →
      Ends (size a * more) (λ t. Kept free s t × says v w t) (λ t. ⊥) (λ code. ⊥) (meaning pages fuel a s)
  pub typed : (types : List ValType) → DeclaresText types left → DeclaresText types right →
      ((i : ℕ) (t : ValType) → slice_get own_types i ≡ Some t → slice_get types (free + i) ≡ Some t) → IsTyped types a
  pub short : size a ≤ 62

-- a local has 1 where two texts are the same, and 0 where they are not
abbrev pub SaysSame : (out : ℕ) → (left right : List ℕ) → LowState → Type 0
SaysSame out v w t = slice_get t.locals out ≡ Some (Number (truth (is_eq (text_order v w))))

-- a local has a number that is below, at or above 0 as one text comes before another, is the same, or comes after it
abbrev pub SaysOrder : (out : ℕ) → (left right : List ℕ) → LowState → Type 0
SaysOrder out v w t = (z : ℤ) × HoldsNumber t out z × (int_cmp z (pos 0) ≡ text_order v w)

-- the types of the locals of a hash: the hash itself, an index and an octet
abbrev pub hash_types : List ValType
hash_types = I64 ∷ I32 ∷ I64 ∷ []

-- A block that begins with a text in its locals and a hash in the first of the locals that are the block's own. Within as many instructions
-- as it has, times one more than the octets of the text, it is completed, and there is the hash with those octets folded into it; it changes
-- nothing but its own locals.
pub record Folds (text : Cell) (hash : ℕ) (a : Statement) : Type 0 where
  pub runs : (pages fuel more : ℕ) (s : LowState) (v : List ℕ) (h : ℕ) → 1 + length v ≤ more → more ≤ fuel →
      HoldsText s text.value text.length v → slice_get s.locals hash ≡ Some (Number h) → hash + length hash_types ≤ length s.locals →
      Ends (size a * more) (λ t. Kept hash s t × (slice_get t.locals hash ≡ Some (Number (fold_octets h v)))) (λ t. ⊥) (λ code. ⊥) (meaning pages fuel a s)
  pub typed : (types : List ValType) → DeclaresText types text →
      ((i : ℕ) (t : ValType) → slice_get hash_types i ≡ Some t → slice_get types (hash + i) ≡ Some t) → IsTyped types a
  pub short : size a ≤ 26
