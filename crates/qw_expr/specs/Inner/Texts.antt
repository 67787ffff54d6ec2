-- Mirrors `src/text.rt`: comparisons of texts, and LIKE.
use Rattle.std.specs.Prelude.{◌≡◌, ℕ, ◌+◌, ◌*◌, ◌<◌, ◌≤◌, ◌^◌, ◌++◌, List, ◌∷◌, length, Some, slice_get}
use Rattle.qw_scalar.specs.declared.comparison.Comparison.{Comparison}
use Rattle.qw_scalar.specs.declared.comparison.Comparison.TheVariants.{Like, NotLike}
use Rattle.qw_scalar.specs.Evaluation.{answers_texts}
use Rattle.qw_scalar.specs.Units.{octets_for}
use Rattle.qw_module.specs.declared.instruction.ValType.{ValType}
use Rattle.qw_module.specs.declared.instruction.ValType.TheVariants.{I32}
use Rattle.qw_module.specs.Numbers.{truth}
use Rattle.qw_low.specs.declared.cell.Cell.{Cell}
use Rattle.qw_low.specs.Syntax.{Statement, seq}
use Rattle.qw_low.specs.State.{Number, LowState}
use Rattle.qw_low.specs.Meaning.{meaning}
use Rattle.qw_low.specs.Typing.{IsTyped}
use Rattle.qw_low.specs.Size.{size}
use Rattle.qw_low.specs.Steps.{steps_of}
use Rattle.qw_low.specs.Promise.{Ends}
use Rattle.qw_low.specs.Raising.{Kept}
use Rattle.qw_low.specs.Held.{HoldsText}
use Rattle.qw_text.specs.Likes.{like_types}
use Rattle.qw_text.specs.Texts.{DeclaresText, own_types}
use Rattle.qw_expr.specs.declared.emitter.Emitter.{Emitter}
use Rattle.qw_expr.specs.declared.text.TextLocals.{TextLocals}
use Rattle.qw_expr.specs.Cells.{Declares}
use Rattle.qw_expr.specs.Emits.{free_of}
use Rattle.qw_expr.specs.Inner.Nulls.{join_block, joined_null}
use Rattle.qw_expr.specs.Inner.Truths.{zero_if_null}

-- the types of the locals that the block of a question calls its own
abbrev pub texts_own : Comparison → List ValType
texts_own Like = like_types
texts_own NotLike = like_types
texts_own _ = own_types

-- how many steps it has at most, with those that leave its answer in another local
abbrev pub texts_steps : Comparison → ℕ
texts_steps Like = 171
texts_steps NotLike = 171
texts_steps _ = 110

-- a block leaves in `t` whether two texts answer a question; its own locals begin at `free`
pub record TestsTexts (operator : Comparison) (left right : Cell) (free t : ℕ) (a : Statement) : Type 0 where
  pub runs : (pages fuel more : ℕ) (s : LowState) (v w : List ℕ) → 1 + octets_for operator v w ≤ more → more ≤ fuel → HoldsText s left.value left.length v → HoldsText s right.value right.length w →
      t < free → free + length (texts_own operator) ≤ length s.locals →
      Ends (size a * more) (λ u. Kept t s u × (slice_get u.locals t ≡ Some (Number (truth (answers_texts operator v w))))) (λ u. ⊥) (λ code. ⊥) (meaning pages fuel a s)
  pub typed : (types : List ValType) → DeclaresText types left → DeclaresText types right → slice_get types t ≡ Some I32 → Declares types free (texts_own operator) → IsTyped types a

-- what a comparison of texts adds to an emitter
pub record AddsTexts (operator : Comparison) (left right : Cell) (old new : Emitter) (out : Cell) : Type 0 where
  pub first_is : new.first ≡ old.first
  pub own_is : new.own.items ≡ old.own.items ++ I32 ∷ I32 ∷ texts_own operator
  pub f : Statement
  pub code_is : new.block.code.items ≡ old.block.code.items ++ steps_of
      (seq (join_block (free_of old) left.null right.null) (zero_if_null (joined_null (free_of old) left.null right.null) (free_of old + 1) f))
  pub tests : TestsTexts operator left right (free_of old + 2) (free_of old + 1) f
  pub out_is : out ≡ record { value = free_of old + 1; length = free_of old + 1; null = joined_null (free_of old) left.null right.null }

-- Locals that a block calls its own are taken, of these types.
pub record TakesOwn (types : List ValType) (old new : Emitter) (free : ℕ) : Type 0 where
  pub first_is : new.first ≡ old.first
  pub own_is : new.own.items ≡ old.own.items ++ types
  pub code_is : new.block.code.items ≡ old.block.code.items
  pub free_is : free ≡ free_of old
  pub room : free + length types ≤ 2 ^ 32

-- the locals that it takes
pub record TakesTexts (operator : Comparison) (old new : Emitter) (to : TextLocals) : Type 0 where
  pub first_is : new.first ≡ old.first
  pub own_is : new.own.items ≡ old.own.items ++ I32 ∷ I32 ∷ texts_own operator
  pub code_is : new.block.code.items ≡ old.block.code.items
  pub null_is : to.null ≡ free_of old
  pub truth_is : to.truth ≡ free_of old + 1
  pub free_is : to.free ≡ free_of old + 2
  pub room : to.free + length (texts_own operator) ≤ 2 ^ 32
