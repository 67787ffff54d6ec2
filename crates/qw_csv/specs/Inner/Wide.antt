-- Mirrors `wide::is_wide` and `wide::too_wide`: a record with more fields than there are columns, of which more may come.
use Rattle.std.specs.Prelude.{◌≡◌, ◌≤◌, ◌<◌, ◌+◌, ◌-◌, ℕ, Bool, true, false, List, [], ◌∷◌, length}
use Rattle.csv.specs.Reading.{Reached, default_config}
use Rattle.csv.specs.declared.parser.State.{State}
use Rattle.csv.specs.declared.parser.State.TheVariants.{StartRecord}
use Rattle.qw_types.specs.Limits.{most_rows}
use Rattle.qw_types.specs.declared.value.Val.{Val}
use Rattle.qw_csv.specs.declared.loading.LoadFault.{LoadFault}
use Rattle.qw_csv.specs.declared.loading.LoadFault.TheVariants.{BadHeader, FieldCount, TooManyRows}

-- the first record of a text has more than so many fields
pub record BeginsWide (text : List ℕ) (most : ℕ) : Type 0 where
  pub fields : List (List ℕ)
  pub state : State
  pub rest : List ℕ
  pub reached : Reached default_config StartRecord text (fields ∷ []) state rest
  pub wide : most < length fields

-- what is wrong with a record of too many fields behind the records that were taken, where so many rows are of the parts before
abbrev pub IsTooWide : (named : Bool) → (before : ℕ) → List (List Val) → LoadFault → Type 0
IsTooWide false before rows e = e ≡ BadHeader
IsTooWide true before rows (FieldCount row) = (length rows < most_rows) × (before ≤ length rows → row ≡ (length rows - before) + 1)
IsTooWide true before rows TooManyRows = most_rows ≤ length rows
IsTooWide true before rows _ = ⊥
