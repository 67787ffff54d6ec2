-- Where many columns of INTEGERs end, for the worked laws.
use Rattle.std.proofs.Common.{◌≡◌, ℕ, zero, suc, ◌+◌, ◌*◌, true, List, [], ◌∷◌, length, replicate, refl, ap, ◌∙◌, subst, arith}
use Rattle.std.specs.Prelude.{slice_index_or}
use Rattle.std.specs.List.{AllByRecursion, AllZip}
use Rattle.std.proofs.lemmas.List.{length-map}
use Rattle.qw_types.specs.Contents.{Contents, AreLoaded, IsOfColumnType}
use Rattle.qw_types.specs.Value.{text_octets}
use Rattle.qw_types.specs.declared.schema.ColumnType.{ColumnType}
use Rattle.qw_types.specs.declared.value.Ty.TheVariants.{Integer}
use Rattle.qw_types.specs.declared.value.Val.{Val}
use Rattle.qw_types.specs.declared.value.Val.TheVariants as val
use Rattle.qw_map.specs.Columns.{to_eight, column_values, columns_end, placed_at, column_end, tables_end}

-- INTEGER NOT NULL
abbrev pub whole : ColumnType
whole = record { ty = Integer; not_null = true }

-- a value of it, and a place where there is none, has no octets of a text
value-plain : (n : ℕ) (row : List Val) → AllZip IsOfColumnType (replicate n whole) row → (k : ℕ) → text_octets (slice_index_or row k val.Null ∷ []) ≡ 0
value-plain n [] typed k = refl
value-plain zero (value ∷ row) typed k = absurd typed
value-plain (suc n) (val.Null ∷ row) typed zero = refl
value-plain (suc n) (val.Num number ∷ row) typed zero = refl
value-plain (suc n) (val.Date number ∷ row) typed zero = absurd typed.0
value-plain (suc n) (val.Text octets ∷ row) typed zero = absurd typed.0
value-plain (suc n) (value ∷ row) typed (suc k) = value-plain n row typed.1 k

first-plain : (value : Val) (values : List Val) → text_octets (value ∷ []) ≡ 0 → text_octets (value ∷ values) ≡ text_octets values
first-plain val.Null values h = refl
first-plain (val.Num number) values h = refl
first-plain (val.Date number) values h = refl
first-plain (val.Text octets) values h = omega (arith, h)

column-plain : (n : ℕ) (rows : List (List Val)) → AllByRecursion (AllZip IsOfColumnType (replicate n whole)) rows → (k : ℕ) → text_octets (column_values rows k) ≡ 0
column-plain n [] typed k = refl
column-plain n (row ∷ rows) typed k =
    first-plain (slice_index_or row k val.Null) (column_values rows k) (value-plain n row typed.0 k) ∙ column-plain n rows typed.1 k

ends : (n at first : ℕ) (rows : List (List Val)) → ((k : ℕ) → text_octets (column_values rows k) ≡ 0) →
    columns_end at (replicate n whole) first rows ≡ at + n * to_eight (4 * length rows)
ends zero at first rows plain = omega arith
ends (suc n) at first rows plain =
    let many : length (column_values rows first) ≡ length rows = length-map rows (λ (row : List Val). slice_index_or row first val.Null) in
    let here : column_end true (placed_at at Integer (column_values rows first)) ≡ at + to_eight (4 * length rows) = rw (many, plain first) (omega arith) in
    let rest = ends n (column_end true (placed_at at Integer (column_values rows first))) (suc first) rows plain in
    omega (arith, rest, here)

pub tables-end-is : (n : ℕ) (table : Contents) → AreLoaded table → table.columns ≡ replicate n whole →
    tables_end 64 (table ∷ []) ≡ 64 + n * to_eight (4 * length table.rows)
tables-end-is n table loaded are =
    ap (λ (columns : List ColumnType). columns_end 64 columns 0 table.rows) are
    ∙ ends n 64 0 table.rows (column-plain n table.rows
    (subst (λ (columns : List ColumnType). AllByRecursion (AllZip IsOfColumnType columns) table.rows) are loaded.typed))
