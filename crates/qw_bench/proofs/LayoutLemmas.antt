-- The columns of a layout: where they stand among those of the tables.
use Rattle.std.proofs.Common.{◌≡◌, ℕ, zero, suc, List, [], ◌∷◌, ◌++◌, length, Option, Some, None, slice_get, refl, ap, subst}
use Rattle.std.specs.List.{AllByRecursion}
use Rattle.std.specs.Option.{option_and_then}
use Rattle.std.proofs.lemmas.Option.{none-some, same_Some}
use Rattle.qw_types.specs.Contents.{Contents}
use Rattle.qw_map.specs.Columns.{areas_of, column_values, columns_start, map_of, tables_end}
use Rattle.qw_map.specs.declared.layout.Placed.{Placed}
use Rattle.qw_map.specs.declared.layout.Used.{Used}
use Rattle.qw_map.proofs.ColumnLemmas.{LieBetween, stands-between, tables-stand}
use Rattle.qw_bench.specs.Bench.{ArePlaced, IsColumnIn}

-- what holds of each holds of the one at an index
pub all-get : {A : Type 0} (P : A → Type 0) (xs : List A) (k : ℕ) (x : A) → slice_get xs k ≡ Some x → AllByRecursion P xs → P x
all-get P [] k x found all = absurd (none-some x found)
all-get P (y ∷ xs) zero x found all = subst P (same_Some y x found) all.0
all-get P (y ∷ xs) (suc k) x found all = all-get P xs k x found all.1

-- and what holds at each index holds of each
pub get-all : {A : Type 0} (P : A → Type 0) (xs : List A) → ((k : ℕ) (x : A) → slice_get xs k ≡ Some x → P x) → AllByRecursion P xs
get-all P [] each = tt
get-all P (x ∷ xs) each = (each 0 x refl, get-all P xs (λ k y found. each (suc k) y found))

-- where the map says that a column stands
abbrev pub place : List (List Placed) → Used → Option Placed
place map used = option_and_then (λ (columns : List Placed). slice_get columns used.column) (slice_get map used.table)

pub placed-get : (map : List (List Placed)) (columns : List Used) (placed : List Placed) → ArePlaced map columns placed → (k : ℕ) (used : Used) (one : Placed) →
    slice_get columns k ≡ Some used → slice_get placed k ≡ Some one → place map used ≡ Some one
placed-get map [] placed are k used one found there = absurd (none-some used found)
placed-get map (u ∷ columns) [] are k used one found there = absurd are
placed-get map (u ∷ columns) (p ∷ placed) are zero used one found there =
    let is : u ≡ used = same_Some u used found in
    let here : p ≡ one = same_Some p one there in
    rw (← is, ← here) are.0
placed-get map (u ∷ columns) (p ∷ placed) are (suc k) used one found there = placed-get map columns placed are.1 k used one found there

pub placed-many : (map : List (List Placed)) (columns : List Used) (placed : List Placed) → ArePlaced map columns placed → length placed ≡ length columns
placed-many map [] [] are = refl
placed-many map [] (p ∷ placed) are = absurd are
placed-many map (u ∷ columns) [] are = absurd are
placed-many map (u ∷ columns) (p ∷ placed) are = ap suc (placed-many map columns placed are.1)

-- the columns of a table that the map has
pub record HasTable (map : List (List Placed)) (used : Used) (one : Placed) : Type 0 where
  pub columns : List Placed
  pub table : slice_get map used.table ≡ Some columns
  pub column : slice_get columns used.column ≡ Some one

pub has-table : (map : List (List Placed)) (used : Used) (one : Placed) → place map used ≡ Some one → HasTable map used one
has-table map used one is = by_table (slice_get map used.table) refl is
  where
    by_table : (o : Option (List Placed)) → slice_get map used.table ≡ o → option_and_then (λ (columns : List Placed). slice_get columns used.column) o ≡ Some one → HasTable map used one
    by_table None o_is h = absurd (none-some one h)
    by_table (Some columns) o_is h = record { columns = columns; table = o_is; column = h }

module _ (tables : List Contents) (used : Used) (one : Placed) (is : place (map_of tables) used ≡ Some one) (in_tables : IsColumnIn tables used) where
  -- its parts lie before the end of the columns
  pub lies-between : LieBetween columns_start (tables_end columns_start tables) (areas_of used.ty used.not_null one)
  lies-between =
      let at = has-table (map_of tables) used one is in
      let stands = stands-between columns_start (tables_end columns_start tables) in_tables.1 (column_values in_tables.0.rows used.column) one
      (tables-stand columns_start tables used.table in_tables.0 at.columns in_tables.2 at.table used.column in_tables.1 one in_tables.3 at.column) in
      rw (in_tables.4, in_tables.5) at stands

-- one column more
pub placed-more : (map : List (List Placed)) (columns : List Used) (placed : List Placed) (used : Used) (one : Placed) → ArePlaced map columns placed →
    place map used ≡ Some one → ArePlaced map (columns ++ used ∷ []) (placed ++ one ∷ [])
placed-more map [] [] used one are is = (is, tt)
placed-more map [] (p ∷ placed) used one are is = absurd are
placed-more map (u ∷ columns) [] used one are is = absurd are
placed-more map (u ∷ columns) (p ∷ placed) used one are is = (are.0, placed-more map columns placed used one are.1 is)
