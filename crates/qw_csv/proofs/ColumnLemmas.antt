-- The columns of rows that are kept column by column, one by one.
use Rattle.std.proofs.Common.{◌≡◌, ◌+◌, ap, subst, ℕ, zero, suc, List, [], ◌∷◌, ◌++◌, length, take, Some, refl, arith}
use Rattle.std.specs.Prelude.{slice_get}
use Rattle.std.specs.List.{AllByRecursion}
use Rattle.qw_types.specs.Value.{IsSized}
use Rattle.qw_types.specs.declared.schema.ColumnType.{ColumnType}
use Rattle.qw_csv.specs.declared.storage.Values.{Values}
use Rattle.qw_csv.specs.LoadedColumn.{columns_from}
use Rattle.qw_csv.specs.Inner.Rows.{AreStored, IsStoredColumn, rows_in}
use Rattle.qw_csv.specs.Inner.Storage.{AreKept, values_in}
use Rattle.qw_csv.proofs.CellLemmas.{values_kept}
use Rattle.qw_csv.proofs.LoadedColumnFacts.{columns_from-at}
use Rattle.qw_csv.proofs.RowLemmas.{column_there}

all_at : {X : Type 0} (P : X → Type 0) (xs : List X) (k : ℕ) (x : X) → AllByRecursion P xs → slice_get xs k ≡ Some x → P x
all_at P [] k x all is = absurd (cc is)
all_at P (y ∷ xs) zero x all is = let e : y ≡ x = cc is in subst P e all.0
all_at P (y ∷ xs) (suc k) x all is = all_at P xs k x all.1 is

take_next : {X : Type 0} (xs : List X) (k : ℕ) (x : X) → slice_get xs k ≡ Some x → take (suc k) xs ≡ take k xs ++ x ∷ []
take_next [] k x is = absurd (cc is)
take_next (y ∷ xs) zero x is = let e : y ≡ x = cc is in rw e refl
take_next (y ∷ xs) (suc k) x is = ap (λ (zs : List _). y ∷ zs) (take_next xs k x is)

module _ (count : ℕ) (types : List ColumnType) (columns : List Values) (k : ℕ) (type : ColumnType) (kept : Values) (stored : AreStored count types columns)
    (found : slice_get types k ≡ Some type) (there : slice_get columns k ≡ Some kept) where
  -- values and a type that are found at one index are a column's
  pub column_stored : IsStoredColumn count type kept
  column_stored =
      let h = column_there count types columns k type stored.kept found in
      let same : h.kept ≡ kept = cc (h.there, there) in
      record {
        sized = all_at (λ (t : ColumnType). IsSized t.ty) types k type stored.sized found;
        few = stored.few;
        kept = subst (λ (v : Values). AreKept type v) same h.valid;
        long = subst (λ (v : Values). length (values_in v) ≡ count) same h.long;
      }

  -- and it is the next one
  pub columns_next : take (suc k) (columns_from types 0 (rows_in count columns))
      ≡ take k (columns_from types 0 (rows_in count columns)) ++ record { type = type; values = values_in kept } ∷ []
  columns_next =
      let zero_first : 0 + k ≡ k = omega arith in
      let values = values_kept columns k kept count there column_stored.long in
      take_next (columns_from types 0 (rows_in count columns)) k (record { type = type; values = values_in kept })
      (rw (zero_first, values) at (columns_from-at types 0 (rows_in count columns) k type found))
