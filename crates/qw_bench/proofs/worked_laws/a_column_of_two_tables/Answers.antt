use Rattle.std.proofs.Common.{◌≡◌, ℕ, true, false, List, [], ◌∷◌, Some, slice_get, refl, sym, ap, ◌∙◌, subst}
use Rattle.std.proofs.lemmas.Option.{none-some, same_Some}
use Rattle.qw_types.specs.Contents.{Contents}
use Rattle.qw_types.specs.declared.schema.ColumnType.{ColumnType}
use Rattle.qw_types.specs.declared.value.Ty.TheVariants.{Integer, Date}
use Rattle.qw_map.specs.declared.layout.Used.{Used}
use Rattle.qw_bench.specs.Bench.{IsColumnIn}
use Rattle.qw_bench.proofs.worked_laws.a_column_of_two_tables.Goals as goal

abbrev a : ColumnType
a = record { ty = Integer; not_null = true }

abbrev b : ColumnType
b = record { ty = Date; not_null = false }

abbrev table_of : ColumnType → Contents
table_of column = record { columns = column ∷ []; rows = [] }

abbrev both : List Contents
both = table_of a ∷ table_of b ∷ []

-- what is the only column of one of them is of that type
of_type : (tables : List Contents) (used : Used) (column : ColumnType) → slice_get tables used.table ≡ Some (table_of column) → used.column ≡ 0 → IsColumnIn tables used →
    (column.ty ≡ used.ty) × (column.not_null ≡ used.not_null)
of_type tables used column there at h =
    let table : table_of column ≡ h.0 = same_Some (table_of column) h.0 (sym there ∙ h.2) in
    let found : slice_get (table_of column).columns 0 ≡ Some h.1 =
    subst (λ (k : ℕ). slice_get (table_of column).columns k ≡ Some h.1) at (subst (λ (t : Contents). slice_get t.columns used.column ≡ Some h.1) (sym table) h.3) in
    let same : column ≡ h.1 = same_Some column h.1 found in
    (ap (λ (c : ColumnType). c.ty) same ∙ h.4, ap (λ (c : ColumnType). c.not_null) same ∙ h.5)

no_date : Date ≡ Integer → ⊥
no_date e = cc

no_integer : Integer ≡ Date → ⊥
no_integer e = cc

no_null : false ≡ true → ⊥
no_null e = cc

second_column : (used : Used) → used.table ≡ 1 → used.column ≡ 1 → IsColumnIn both used → ⊥
second_column used is at h =
    let there : slice_get both 1 ≡ Some h.0 = subst (λ (k : ℕ). slice_get both k ≡ Some h.0) is h.2 in
    let table : table_of b ≡ h.0 = same_Some (table_of b) h.0 there in
    none-some h.1 (subst (λ (k : ℕ). slice_get (table_of b).columns k ≡ Some h.1) at (subst (λ (t : Contents). slice_get t.columns used.column ≡ Some h.1) (sym table) h.3))

pub returns : goal.returns
returns c = λ first second tables used first_is second_is tables_is used_is.
    rw (used_is, tables_is, first_is, second_is) (
      (table_of b, b, refl, refl, refl, refl),
      λ h. no_date (of_type both (record { table = 1; column = 0; ty = Integer; not_null = false }) b refl refl h).0,
      λ h. no_null (of_type both (record { table = 1; column = 0; ty = Date; not_null = true }) b refl refl h).1,
      λ h. no_integer (of_type both (record { table = 0; column = 0; ty = Date; not_null = false }) a refl refl h).0,
      λ h. second_column (record { table = 1; column = 1; ty = Date; not_null = false }) refl refl h,
      λ h. none-some h.0 h.2,
    )
