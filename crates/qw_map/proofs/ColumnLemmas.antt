-- Columns depend on the octets of their parts alone; and where the columns of tables lie.
use Rattle.std.proofs.Common.{◌≡◌, ℕ, zero, suc, ◌+◌, ◌-◌, ◌*◌, ◌/◌, ◌<◌, ◌≤◌, Bool, true, false, List, [], ◌∷◌, length, take, drop, Some, slice_get, refl, sym, ap, ◌∙◌, arith, ◌%◌, ◌^◌}
use Rattle.std.specs.Prelude.{slice_index}
use Rattle.std.specs.List.{AllByRecursion}
use Rattle.std.proofs.lemmas.Option.{same_Some, none-some, slice_get_within}
use Rattle.qw_types.specs.Contents.{Contents}
use Rattle.qw_types.specs.Value.{text_octets}
use Rattle.qw_types.specs.declared.schema.ColumnType.{ColumnType}
use Rattle.qw_types.specs.declared.value.Ty.{Ty}
use Rattle.qw_types.specs.declared.value.Ty.TheVariants.{Integer, Decimal, Date, Varchar}
use Rattle.qw_types.specs.declared.value.Val.{Val}
use Rattle.qw_types.specs.declared.value.Val.TheVariants as val
use Rattle.qw_linear.specs.Memory.{page, number_at}
use Rattle.qw_map.specs.Areas.{Area}
use Rattle.qw_map.specs.Columns.{values_size, nulls_size, areas_of, is_null_at, text_offset, stored_at, HasOffsets, HoldsColumn, to_eight, column_values, placed_at, column_end, columns_start, column_pages, placed_columns, columns_end, placed_tables, tables_end, map_of, Holds}
use Rattle.qw_map.specs.declared.layout.Placed.{Placed}
use Rattle.qw_map.proofs.AccessLemmas.{AreKept, lies-within, covered-first, covered-after, number-kept, octets-kept}
use Rattle.qw_map.proofs.AreaLemmas.{all-weaker}

-- ---- texts one after another
pub text_octets-taken : (values : List Val) (n : ℕ) → text_octets (take n values) ≤ text_octets values
text_octets-taken values zero = omega arith
text_octets-taken [] (suc n) = omega arith
text_octets-taken (val.Null ∷ values) (suc n) = text_octets-taken values n
text_octets-taken (val.Num number ∷ values) (suc n) = text_octets-taken values n
text_octets-taken (val.Date number ∷ values) (suc n) = text_octets-taken values n
text_octets-taken (val.Text octets ∷ values) (suc n) = let rest : text_octets (take n values) ≤ text_octets values = text_octets-taken values n in omega arith

-- ---- a column in another memory, which isn't shorter and keeps the octets of its parts
module _ (before after : List ℕ) (longer : length before ≤ length after) (not_null : Bool) (placed : Placed) where
  -- a number among the values
  values-same : (ty : Ty) → AreKept before after (areas_of ty not_null placed) → (at width : ℕ) → placed.values ≤ at →
      at + width ≤ placed.values + values_size ty placed.rows → number_at after at width ≡ number_at before at width
  values-same ty kept at width low high = number-kept before after (areas_of ty not_null placed) kept at width
      (covered-first (record { start = placed.values; size = values_size ty placed.rows })
      (record { start = placed.octets; size = placed.size } ∷ record { start = placed.nulls; size = nulls_size not_null placed.rows } ∷ []) at width low high)

  -- the octets of a text
  texts-same : (ty : Ty) → AreKept before after (areas_of ty not_null placed) → (at width : ℕ) → placed.octets ≤ at → at + width ≤ placed.octets + placed.size →
      at + width ≤ length before → take width (drop at after) ≡ take width (drop at before)
  texts-same ty kept at width low high room = octets-kept before after (areas_of ty not_null placed) kept at width
      (covered-after (record { start = placed.values; size = values_size ty placed.rows } ∷ [])
      (record { start = placed.octets; size = placed.size } ∷ record { start = placed.nulls; size = nulls_size not_null placed.rows } ∷ []) at width
      (covered-first (record { start = placed.octets; size = placed.size }) (record { start = placed.nulls; size = nulls_size not_null placed.rows } ∷ []) at width low high))
      room longer

  -- an octet of null bits
  octet-same : (ty : Ty) → AreKept before after (areas_of ty not_null placed) → (row : ℕ) → row < 8 * nulls_size not_null placed.rows →
      number_at after (placed.nulls + row / 8) 1 ≡ number_at before (placed.nulls + row / 8) 1
  octet-same ty kept row within = number-kept before after (areas_of ty not_null placed) kept (placed.nulls + row / 8) 1
      (covered-after (record { start = placed.values; size = values_size ty placed.rows } ∷ record { start = placed.octets; size = placed.size } ∷ [])
      (record { start = placed.nulls; size = nulls_size not_null placed.rows } ∷ []) (placed.nulls + row / 8) 1
      (covered-first (record { start = placed.nulls; size = nulls_size not_null placed.rows }) [] (placed.nulls + row / 8) 1 (omega arith) (omega (arith, within))))

  -- null bits
  nulls-same : (ty : Ty) → AreKept before after (areas_of ty not_null placed) → (row : ℕ) → row < placed.rows →
      is_null_at after not_null placed row ≡ is_null_at before not_null placed row
  nulls-same ty kept row within = at_not_null not_null refl
    where
      at_not_null : (b : Bool) → not_null ≡ b → is_null_at after not_null placed row ≡ is_null_at before not_null placed row
      at_not_null true is = rw is refl
      at_not_null false is =
          let size : nulls_size not_null placed.rows ≡ (placed.rows + 7) / 8 = rw is refl in
          let octet : number_at after (placed.nulls + row / 8) 1 ≡ number_at before (placed.nulls + row / 8) 1 =
          number-kept before after (areas_of ty not_null placed) kept (placed.nulls + row / 8) 1
          (covered-after (record { start = placed.values; size = values_size ty placed.rows } ∷ record { start = placed.octets; size = placed.size } ∷ [])
          (record { start = placed.nulls; size = nulls_size not_null placed.rows } ∷ []) (placed.nulls + row / 8) 1
          (covered-first (record { start = placed.nulls; size = nulls_size not_null placed.rows }) [] (placed.nulls + row / 8) 1 (omega arith) (omega (arith, size)))) in
          rw octet refl

  offsets-same : (limit : ℕ) → AreKept before after (areas_of (Varchar limit) not_null placed) → (row : ℕ) → row ≤ placed.rows →
      text_offset after placed row ≡ text_offset before placed row
  offsets-same limit kept row within = values-same (Varchar limit) kept (placed.values + 4 * row) 4 (omega arith) (omega arith)

  module _ (values : List Val) where
    -- what stands in the place of a row's value
    stored-same : (ty : Ty) → HoldsColumn before ty not_null placed values → AreKept before after (areas_of ty not_null placed) → (row : ℕ) → row < placed.rows →
        stored_at after ty placed row ≡ stored_at before ty placed row
    stored-same Integer holds kept row within = rw (values-same Integer kept (placed.values + 4 * row) 4 (omega arith) (omega arith)) refl
    stored-same (Decimal precision scale) holds kept row within =
        rw (values-same (Decimal precision scale) kept (placed.values + 8 * row) 8 (omega arith) (omega arith)) refl
    stored-same Date holds kept row within = rw (values-same Date kept (placed.values + 4 * row) 4 (omega arith) (omega arith)) refl
    stored-same (Varchar limit) holds kept row within =
        let from : ℕ = text_offset before placed row in
        let to : ℕ = text_offset before placed (row + 1) in
        let from_is : from ≡ text_octets (take row values) = holds.offsets row (omega (arith, holds.rows_are)) in
        let to_is : to ≡ text_octets (take (row + 1) values) = holds.offsets (row + 1) (omega (arith, holds.rows_are)) in
        let from_low : from ≤ placed.size = omega (arith, from_is, holds.size_is, text_octets-taken values row) in
        let to_low : to ≤ placed.size = omega (arith, to_is, holds.size_is, text_octets-taken values (row + 1)) in
        let in_memory : placed.octets + placed.size ≤ length before = holds.inside.1.0 in
        rw (offsets-same limit kept row (omega arith), offsets-same limit kept (row + 1) (omega arith))
        (ap val.Text (texts-same (Varchar limit) kept (placed.octets + from) (to - from) (omega arith) (omega arith) (omega arith)))

    offsets-kept : (ty : Ty) → HoldsColumn before ty not_null placed values → AreKept before after (areas_of ty not_null placed) → HasOffsets after ty placed values
    offsets-kept Integer holds kept = tt
    offsets-kept (Decimal precision scale) holds kept = tt
    offsets-kept Date holds kept = tt
    offsets-kept (Varchar limit) holds kept = λ row within. offsets-same limit kept row (omega (arith, holds.rows_are)) ∙ holds.offsets row within

    pub column-kept : (ty : Ty) → HoldsColumn before ty not_null placed values → AreKept before after (areas_of ty not_null placed) →
        HoldsColumn after ty not_null placed values
    column-kept ty holds kept = record {
      rows_are = holds.rows_are;
      size_is = holds.size_is;
      inside = all-weaker (λ (area : Area). area.start + area.size ≤ length before) (λ (area : Area). area.start + area.size ≤ length after)
          (λ area h. omega arith) (areas_of ty not_null placed) holds.inside;
      each = λ row value found.
          let within : row < placed.rows = let inside = slice_get_within values row value found in omega (arith, holds.rows_are) in
          rw (nulls-same ty kept row within, stored-same ty holds kept row within) (holds.each row value found);
      blanks = λ row found.
          let within : row < placed.rows = let inside = slice_get_within values row val.Null found in omega (arith, holds.rows_are) in
          stored-same ty holds kept row within ∙ holds.blanks row found;
      offsets = offsets-kept ty holds kept;
      spare = λ row behind within. ap (λ (octet : ℕ). octet / 2 ^ (row % 8) % 2) (octet-same ty kept row within) ∙ holds.spare row behind within;
    }

-- ---- where the columns of tables lie
-- areas lie between two addresses
abbrev pub LieBetween : (low high : ℕ) → List Area → Type 0
LieBetween low high areas = AllByRecursion (λ (area : Area). (low ≤ area.start) × (area.start + area.size ≤ high)) areas

pub to_eight-above : (n : ℕ) → n ≤ to_eight n
to_eight-above n = omega arith

-- the parts of a column lie before its end
pub placed-between : (at : ℕ) (ty : Ty) (not_null : Bool) (values : List Val) →
    LieBetween at (column_end not_null (placed_at at ty values)) (areas_of ty not_null (placed_at at ty values))
placed-between at ty not_null values =
    let first : values_size ty (length values) ≤ to_eight (values_size ty (length values)) = to_eight-above (values_size ty (length values)) in
    let second : text_octets values ≤ to_eight (text_octets values) = to_eight-above (text_octets values) in
    let third : nulls_size not_null (length values) ≤ to_eight (nulls_size not_null (length values)) = to_eight-above (nulls_size not_null (length values)) in
    ((omega arith, omega arith), ((omega arith, omega arith), ((omega arith, omega arith), tt)))

pub column-end-above : (at : ℕ) (ty : Ty) (not_null : Bool) (values : List Val) → at ≤ column_end not_null (placed_at at ty values)
column-end-above at ty not_null values = omega arith

pub columns-end-above : (at : ℕ) (columns : List ColumnType) (first : ℕ) (rows : List (List Val)) → at ≤ columns_end at columns first rows
columns-end-above at [] first rows = omega arith
columns-end-above at (column ∷ columns) first rows =
    let one = column-end-above at column.ty column.not_null (column_values rows first) in
    let others = columns-end-above (column_end column.not_null (placed_at at column.ty (column_values rows first))) columns (suc first) rows in
    omega (arith, one, others)

pub tables-end-above : (at : ℕ) (tables : List Contents) → at ≤ tables_end at tables
tables-end-above at [] = omega arith
tables-end-above at (table ∷ tables) =
    let one = columns-end-above at table.columns 0 table.rows in
    let others = tables-end-above (columns_end at table.columns 0 table.rows) tables in
    omega (arith, one, others)

-- A column of a table stands at some address from the table's on, with its values, and ends before the table does.
pub record StandsIn (low high : ℕ) (column : ColumnType) (values : List Val) (placed : Placed) : Type 0 where
  pub at : ℕ
  pub above : low ≤ at
  pub is : placed ≡ placed_at at column.ty values
  pub ends : column_end column.not_null placed ≤ high

pub column-stands : (at : ℕ) (columns : List ColumnType) (first : ℕ) (rows : List (List Val)) (k : ℕ) (column : ColumnType) (placed : Placed) →
    slice_get columns k ≡ Some column → slice_get (placed_columns at columns first rows) k ≡ Some placed →
    StandsIn at (columns_end at columns first rows) column (column_values rows (first + k)) placed
column-stands at [] first rows k column placed found there = absurd (none-some column found)
column-stands at (one ∷ columns) first rows zero column placed found there =
    let is : one ≡ column = same_Some one column found in
    let here : placed_at at one.ty (column_values rows first) ≡ placed = same_Some (placed_at at one.ty (column_values rows first)) placed there in
    let number : first + 0 ≡ first = omega arith in
    record {
      at = at;
      above = omega arith;
      is = rw (number, ← is) (sym here);
      ends = rw (← here, ← is) (columns-end-above (column_end one.not_null (placed_at at one.ty (column_values rows first))) columns (suc first) rows);
    }
column-stands at (one ∷ columns) first rows (suc k) column placed found there =
    let next : ℕ = column_end one.not_null (placed_at at one.ty (column_values rows first)) in
    let rest = column-stands next columns (suc first) rows k column placed found there in
    let number : suc first + k ≡ first + suc k = omega arith in
    let past = column-end-above at one.ty one.not_null (column_values rows first) in
    record { at = rest.at; above = omega (arith, rest.above, past); is = rw number at rest.is; ends = rest.ends }

-- so its parts lie there
pub stands-between : (low high : ℕ) (column : ColumnType) (values : List Val) (placed : Placed) → StandsIn low high column values placed →
    LieBetween low high (areas_of column.ty column.not_null placed)
stands-between low high column values placed stands =
    let ends : column_end column.not_null (placed_at stands.at column.ty values) ≤ high = rw stands.is at stands.ends in
    rw stands.is (all-weaker
    (λ (area : Area). (stands.at ≤ area.start) × (area.start + area.size ≤ column_end column.not_null (placed_at stands.at column.ty values)))
    (λ (area : Area). (low ≤ area.start) × (area.start + area.size ≤ high))
    (λ area h. (omega (arith, h.0, stands.above), omega (arith, h.1, ends)))
    (areas_of column.ty column.not_null (placed_at stands.at column.ty values)) (placed-between stands.at column.ty column.not_null values))

-- and a column of one of several tables before the last one's end
pub tables-stand : (at : ℕ) (tables : List Contents) (k : ℕ) (table : Contents) (columns : List Placed) → slice_get tables k ≡ Some table →
    slice_get (placed_tables at tables) k ≡ Some columns → (j : ℕ) (column : ColumnType) (placed : Placed) → slice_get table.columns j ≡ Some column →
    slice_get columns j ≡ Some placed → StandsIn at (tables_end at tables) column (column_values table.rows j) placed
tables-stand at [] k table columns found there j column placed found_column there_column = absurd (none-some table found)
tables-stand at (one ∷ tables) zero table columns found there j column placed found_column there_column =
    let is : one ≡ table = same_Some one table found in
    let here : placed_columns at table.columns 0 table.rows ≡ columns =
    ap (λ (t : Contents). placed_columns at t.columns 0 t.rows) (sym is) ∙ same_Some (placed_columns at one.columns 0 one.rows) columns there in
    let end_is : columns_end at one.columns 0 one.rows ≡ columns_end at table.columns 0 table.rows = ap (λ (t : Contents). columns_end at t.columns 0 t.rows) is in
    let number : 0 + j ≡ j = omega arith in
    let stands : StandsIn at (columns_end at table.columns 0 table.rows) column (column_values table.rows j) placed =
    rw number at (column-stands at table.columns 0 table.rows j column placed found_column (rw (← here) at there_column)) in
    let past = tables-end-above (columns_end at one.columns 0 one.rows) tables in
    record { at = stands.at; above = stands.above; is = stands.is; ends = omega (arith, stands.ends, past, end_is) }
tables-stand at (one ∷ tables) (suc k) table columns found there j column placed found_column there_column =
    let rest = tables-stand (columns_end at one.columns 0 one.rows) tables k table columns found there j column placed found_column there_column in
    let past = columns-end-above at one.columns 0 one.rows in
    record { at = rest.at; above = omega (arith, rest.above, past); is = rest.is; ends = rest.ends }

-- ---- tables in another memory, which isn't shorter and keeps the octets below their end
pub holds-kept : (before after : List ℕ) (tables : List Contents) → length before ≤ length after →
    ((k : ℕ) → k < tables_end columns_start tables → slice_index after k ≡ slice_index before k) →
    Holds (map_of tables) before tables → Holds (map_of tables) after tables
holds-kept before after tables longer same holds = record {
  many = holds.many;
  each = λ k table columns found there.
      let whole = holds.each k table columns found there in
      record {
        many = whole.many;
        each = λ j column placed found_column there_column.
            let between = stands-between columns_start (tables_end columns_start tables) column (column_values table.rows j) placed
            (tables-stand columns_start tables k table columns found there j column placed found_column there_column) in
            column-kept before after longer column.not_null placed (column_values table.rows j) column.ty (whole.each j column placed found_column there_column)
            (λ address inside. same address (lies-within (areas_of column.ty column.not_null placed) columns_start (tables_end columns_start tables) between address inside).1);
      };
}

-- the pages of the columns reach to their end
pub pages-reach : (tables : List Contents) → tables_end columns_start tables ≤ column_pages tables * page
pages-reach tables = omega arith
