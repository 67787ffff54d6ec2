-- The columns of a query's layout are those that it reads: where the readers find them, and that the layout goes with what is promised.
use Rattle.std.proofs.Common.{◌≡◌, ◌∙◌, ℕ, zero, suc, ◌/◌, Contains, Some, slice_get, List, [], ◌∷◌, length, refl, sym, ap, subst, arith}
use Rattle.std.specs.List.{AllByRecursion}
use Rattle.std.proofs.lemmas.List.{length-map}
use Rattle.std.proofs.lemmas.Option.{same_Some}
use Rattle.std.proofs.lemmas.Slice.Zip.{AllZip-long}
use Rattle.qw_types.specs.declared.schema.ColumnType.{ColumnType}
use Rattle.qw_map.specs.declared.layout.Used.{Used}
use Rattle.qw_meaning.specs.Select.{Entry}
use Rattle.qw_physical.specs.Named.{IsDeclared, columns_of_entries, numbers}
use Rattle.qw_physical.specs.declared.pipeline.ReadColumn.{ReadColumn}
use Rattle.qw_physical.proofs.QueryFew.{AreSizedColumns}
use Rattle.qw_promise.specs.Compiled.{IsUsedOf}
use Rattle.qw_compile.specs.UsedColumns.{AreUsedAt, IsUsedAt}
use Rattle.qw_compile.proofs.QueryReach.{table_at, table_of}
use Rattle.qw_compile.proofs.QueryRuns.{AreLaid, IsLaid}
use Rattle.qw_compile.proofs.UsedSteps.{declared_in}

pub used_many : (entries : List Entry) (columns : List ReadColumn) (used : List Used) → AreUsedAt entries (numbers columns) used → length used ≡ length columns
used_many entries columns used h = AllZip-long (IsUsedAt entries) (numbers columns) used h ∙ length-map columns (λ (c : ReadColumn). c.number)

-- ---- where they lie
module _ (entries : List Entry) where
  abbrev AreDeclared : List ReadColumn → Type 0
  AreDeclared columns = AllByRecursion (IsDeclared (columns_of_entries entries)) columns

  one_laid : (column : ReadColumn) (used : Used) → IsUsedAt entries column.number used → AreDeclared (column ∷ []) → AreSizedColumns (column ∷ []) → IsLaid (table_of entries) used column
  one_laid column used h declared sized =
      let mine : ColumnType = record { ty = used.ty; not_null = used.not_null } in
      let its : ColumnType = record { ty = column.ty; not_null = column.not_null } in
      let same : mine ≡ its = same_Some mine its (sym h.declared ∙ declared_in entries column h.entry h.stands declared.0) in
      record {
        type_is = ap (λ (c : ColumnType). c.ty) same;
        null_is = ap (λ (c : ColumnType). c.not_null) same;
        number_is = (let place = h.column_is in omega (arith, place));
        table_is = h.table_is ∙ sym (ap table_at h.stands);
        sized = sized.0;
      }

  each_laid : (columns : List ReadColumn) (used : List Used) → AreUsedAt entries (numbers columns) used → AreDeclared columns → AreSizedColumns columns
      → (k : ℕ) (column : ReadColumn) → slice_get columns k ≡ Some column → (one : Used) × (slice_get used k ≡ Some one) × IsLaid (table_of entries) one column
  each_laid [] used h declared sized k column there = absurd cc
  each_laid (c ∷ columns) [] h declared sized k column there = absurd h
  each_laid (c ∷ columns) (u ∷ used) h declared sized zero column there = (u, refl, subst (IsLaid (table_of entries) u) (same_Some c column there) (one_laid c u h.0 (declared.0, tt) (sized.0, tt)))
  each_laid (c ∷ columns) (u ∷ used) h declared sized (suc k) column there = each_laid columns used h.1 declared.1 sized.1 k column there

  pub are_laid : (columns : List ReadColumn) (used : List Used) → AreUsedAt entries (numbers columns) used → AreDeclared columns → AreSizedColumns columns → AreLaid (table_of entries) used columns
  are_laid columns used h declared sized = record { many = used_many entries columns used h; each = each_laid columns used h declared sized }

-- ---- of which entries they are
contains_at : (entries : List Entry) (k : ℕ) (e : Entry) → slice_get entries k ≡ Some e → Contains entries e
contains_at [] k e there = absurd cc
contains_at (x ∷ entries) zero e there = (0, omega arith, same_Some x e there)
contains_at (x ∷ entries) (suc k) e there = let rest = contains_at entries k e there in (suc rest.0, omega (arith, rest.1), rest.2)

module _ (entries : List Entry) where
  one_used : (number : ℕ) (used : Used) → IsUsedAt entries number used → IsUsedOf entries used
  one_used number used h = (
    h.entry,
    contains_at entries (number / 64) h.entry h.stands,
    sym h.table_is,
    ap (λ (k : ℕ). slice_get h.entry.columns k) h.column_is ∙ h.declared,
  )

  pub are_used : (ns : List ℕ) (used : List Used) → AreUsedAt entries ns used → AllByRecursion (IsUsedOf entries) used
  are_used [] [] h = tt
  are_used [] (u ∷ used) h = absurd h
  are_used (n ∷ ns) [] h = absurd h
  are_used (n ∷ ns) (u ∷ used) h = (one_used n u h.0, are_used ns used h.1)
