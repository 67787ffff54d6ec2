-- The innermost blocks of a pipeline: conjuncts, which let a row pass where all of them are true, and items, which make a row's values; and what
-- their blocks promise.
use Rattle.std.specs.Prelude.{◌≡◌, ℕ, suc, ◌*◌, ◌<◌, ◌≤◌, Bool, true, false, List, [], ◌∷◌, length, Some, Result, Ok}
use Rattle.qw_types.specs.Arithmetic.{◌>>=◌}
use Rattle.qw_types.specs.declared.code.Code.{Code}
use Rattle.qw_types.specs.declared.truth.Truth.{Truth}
use Rattle.qw_types.specs.declared.truth.Truth.TheVariants.{True, False, Unknown}
use Rattle.qw_types.specs.declared.value.Val.{Val}
use Rattle.qw_scalar.specs.Evaluation.{chosen}
use Rattle.qw_scalar.specs.Typing.{IsValueOf}
use Rattle.qw_low.specs.Syntax.{Expression, Statement, skip, seq, conditional}
use Rattle.qw_low.specs.State.{Part, Number, LowState}
use Rattle.qw_low.specs.Meaning.{value, meaning}
use Rattle.qw_low.specs.Promise.{Ends}
use Rattle.qw_low.specs.Raising.{Leaves, Raises, Kept}
use Rattle.qw_low.specs.Size.{size}
use Rattle.qw_feed.specs.Cells.{Source, Supplies, Uses}

-- ---- the blocks
-- a conjunct: a block, which first reads the columns that are new with it, and an expression that is 1 behind the block where the conjunct is
-- true, and else 0
pub record Test : Type 0 where
  pub out : Expression
  pub block : Statement

abbrev pub tests_block : List Test → (rest : Statement) → Statement
tests_block [] rest = rest
tests_block (g ∷ gs) rest = seq g.block (conditional g.out (tests_block gs rest) skip)

-- an item's block, and where it leaves the value
pub record Item : Type 0 where
  pub out : Source
  pub block : Statement

abbrev pub items_block : List Item → Statement
items_block [] = skip
items_block (g ∷ gs) = seq g.block (items_block gs)

abbrev pub outs_of : List Item → List Source
outs_of [] = []
outs_of (g ∷ gs) = g.out ∷ outs_of gs

-- ---- what they come to
abbrev pub truth_word : Truth → ℕ
truth_word True = 1
truth_word False = 0
truth_word Unknown = 0

-- whether all conjuncts are true, from left to right: after one that isn't, none is evaluated (ISO/IEC 9075:1992, 7.6)
abbrev pub all_true : List (Result Truth Code) → Result Bool Code
all_true [] = Ok true
all_true (r ∷ rs) = r >>= (λ t. chosen t (all_true rs) (Ok false))

-- the values of all items, or the first exception (7.9)
abbrev pub all_values : List (Result Val Code) → Result (List Val) Code
all_values [] = Ok []
all_values (r ∷ rs) = r >>= (λ v. all_values rs >>= (λ vs. Ok (v ∷ vs)))

-- ---- what the blocks promise, within N times their size, where there are `many` locals
-- `Held` says what holds of a row at a stage, which is the number of conjuncts that are decided
module _ (most fuel N known many : ℕ) (Held : (stage : ℕ) → LowState → Type 0) where
  -- what a conjunct's block leaves: its truth, and what the next stage wants, in locals from `known` on
  abbrev pub IsDecided : (stage : ℕ) → Test → LowState → Truth → LowState → Type 0
  IsDecided k g s v t = Kept known s t × Held (suc k) t × (value t g.out ≡ Some (Number (truth_word v)))

  -- a conjunct's block leaves its truth, or raises its exception
  abbrev pub HasTest : (stage : ℕ) → Test → Result Truth Code → Type 0
  HasTest k g r = (s : LowState) → Held k s → many ≤ length s.locals → Ends (size g.block * N) (Leaves (IsDecided k g s) r) (λ t. ⊥) (Raises r) (meaning most fuel g.block s)

  abbrev pub AreTests : (stage : ℕ) → List Test → List (Result Truth Code) → Type 0
  AreTests k [] [] = Unit {0}
  AreTests k (g ∷ gs) (r ∷ rs) = HasTest k g r × AreTests (suc k) gs rs
  AreTests k _ _ = ⊥

-- the locals from 5 on, below one
abbrev pub Among : (next : ℕ) → ℕ → Type 0
Among next i = (5 ≤ i) × (i < next)

-- `Held` says what holds of a row whose items are made; a text lies where `Text` says
module _ (most fuel N many : ℕ) (Held : LowState → Type 0) (Text : Part → (offset : ℕ) → List ℕ → Type 0) where
  -- an item's block leaves its value in locals below those of the next one, or raises its exception
  abbrev pub HasItem : (next : ℕ) → Item → Result Val Code → Type 0
  HasItem next g r = (s : LowState) → Held s → many ≤ length s.locals →
      Ends (size g.block * N) (Leaves (λ v t. Kept next s t × (Supplies Text t.locals g.out.cell v × IsValueOf g.out.kind v)) r) (λ t. ⊥) (Raises r) (meaning most fuel g.block s)

  abbrev pub AreItems : (next : ℕ) → List Item → List (Result Val Code) → Type 0
  AreItems next [] [] = Unit {0}
  AreItems next (g ∷ gs) (r ∷ rs) = HasItem next g r × (later : ℕ) × (next ≤ later) × Uses (Among later) g.out.cell × AreItems later gs rs
  AreItems next _ _ = ⊥
