-- What a module reads of the memory and what it leaves there, apart from any statement: the columns that it uses, its
-- descriptor, and its result rows.
use Rattle.std.specs.Prelude.{◌≡◌, ℕ, zero, suc, ◌+◌, ◌-◌, ◌*◌, ◌<◌, ◌≤◌, ◌==◌, ◌&&◌, nat_le, if◌then◌else◌, Bool, true, false, List, [], ◌∷◌, ◌++◌, length, take, drop, Option, Some, None, slice_get, slice_index}
use Rattle.std.specs.Int.{w64, cast_signed}
use Rattle.std.specs.List.{AllByRecursion}
use Rattle.std.specs.Str.{is_utf8}
use Rattle.qw_types.specs.Arithmetic.{fits}
use Rattle.qw_types.specs.Limits.{most_rows}
use Rattle.qw_types.specs.Value.{IsOfTypeOrNull, is_day}
use Rattle.qw_types.specs.declared.kind.Kind.{Kind}
use Rattle.qw_types.specs.declared.kind.Kind.TheVariants as kind
use Rattle.qw_types.specs.declared.value.Ty.{Ty}
use Rattle.qw_types.specs.declared.value.Ty.TheVariants as ty
use Rattle.qw_types.specs.declared.value.Val.{Val}
use Rattle.qw_types.specs.declared.value.Val.TheVariants.{Null, Num, Date, Text}
use Rattle.qw_types.specs.Contents.{rows_of}
use Rattle.qw_linear.specs.Memory.{page, most_pages, pages_of, number_at, AreOctets}
use Rattle.qw_map.specs.Areas.{Area, World, are_covered}
use Rattle.qw_map.specs.Columns.{HoldsColumn, areas_of, column_values, to_eight}
use Rattle.qw_map.specs.declared.layout.Placed.{Placed}
use Rattle.qw_map.specs.declared.layout.Used.{Used}

-- The columns that a module uses, each once; the octets of its texts; and the kinds of the cells of its result rows.
pub record Layout : Type 0 where
  pub columns : List Used
  pub literals : List ℕ
  pub cells : List Kind

-- ---- the descriptor

-- where what the descriptor says of a column begins, by the column's index among those that are used; at the number of these
-- columns, where the octets of the texts begin
abbrev pub entry_offset : ℕ → ℕ
entry_offset k = 64 + 16 * k

-- how many octets the descriptor has
abbrev pub descriptor_size : Layout → ℕ
descriptor_size layout = to_eight (entry_offset (length layout.columns) + length layout.literals)

-- whether a type's values are texts
abbrev pub is_text : Ty → Bool
is_text ty.Integer = false
is_text (ty.Decimal precision scale) = false
is_text ty.Date = false
is_text (ty.Varchar limit) = true

-- What the descriptor says of a column: where its values stand, its null bits, or 0 where it has none, the octets of its texts, or
-- 0 where it has none, and how many rows it has.
pub record HasEntry (memory : List ℕ) (at : ℕ) (used : Used) (placed : Placed) : Type 0 where
  pub values : number_at memory at 4 ≡ placed.values
  pub nulls : number_at memory (at + 4) 4 ≡ (if used.not_null then 0 else placed.nulls)
  pub octets : number_at memory (at + 8) 4 ≡ (if is_text used.ty then placed.octets else 0)
  pub rows_are : number_at memory (at + 12) 4 ≡ placed.rows

-- The first page as it begins: the descriptor of columns that stand at these places, and zeros. The descriptor has the first free
-- address, the end of the page, zeros where results are to be written, what it says of each column, and the octets of the texts.
pub record IsFresh (memory : List ℕ) (descriptor : ℕ) (layout : Layout) (placed : List Placed) : Type 0 where
  pub free : number_at memory descriptor 4 ≡ descriptor + descriptor_size layout
  pub page_end : number_at memory (descriptor + 4) 4 ≡ descriptor + page
  pub no_results : (k : ℕ) → 8 ≤ k → k < 64 → slice_index memory (descriptor + k) ≡ 0
  pub entries : (k : ℕ) (used : Used) (one : Placed) → slice_get layout.columns k ≡ Some used → slice_get placed k ≡ Some one →
      HasEntry memory (descriptor + entry_offset k) used one
  pub literals : (k octet : ℕ) → slice_get layout.literals k ≡ Some octet →
      slice_index memory (descriptor + entry_offset (length layout.columns) + k) ≡ octet
  pub zeros : (k : ℕ) → entry_offset (length layout.columns) + length layout.literals ≤ k → k < page → slice_index memory (descriptor + k) ≡ 0

-- ---- what an instance begins with

-- the areas of the columns: three of each, in the order of the layout
abbrev pub column_areas : List Used → List Placed → List Area
column_areas [] placed = []
column_areas (used ∷ more) [] = []
column_areas (used ∷ more) (one ∷ placed) = areas_of used.ty used.not_null one ++ column_areas more placed

-- what the instance has at first: the columns are mapped, and the first page is its own
abbrev pub first_world : Layout → List Placed → (descriptor limit : ℕ) → World
first_world layout placed descriptor limit = record {
  mapped = column_areas layout.columns placed;
  own = record { start = descriptor; size = page } ∷ [];
  held = 1;
  limit = limit;
  refused = None;
}

-- a row has a value of the column's type
abbrev pub HasColumn : Used → List Val → Type 0
HasColumn used row = (value : Val) × (slice_get row used.column ≡ Some value) × IsOfTypeOrNull used.ty used.not_null value

-- a column of the rows of its table stands between octet 64 and the descriptor
pub record IsReadyColumn (rows : List (List Val)) (descriptor : ℕ) (memory : List ℕ) (used : Used) (placed : Placed) : Type 0 where
  pub typed : AllByRecursion (HasColumn used) rows
  pub few : length rows ≤ most_rows
  pub holds : HoldsColumn memory used.ty used.not_null placed (column_values rows used.column)
  pub between : AllByRecursion (λ (area : Area). (64 ≤ area.start) × (area.start + area.size ≤ descriptor)) (areas_of used.ty used.not_null placed)

-- The memory is ready for a run over tables: it holds the columns that the layout names, and behind them the instance's first
-- page as it begins; and it has room for all pages that the limit lets the instance ask for.
pub record IsReady (layout : Layout) (placed : List Placed) (tables : List (List (List Val))) (descriptor limit : ℕ) (memory : List ℕ) : Type 0 where
  pub octets : AreOctets memory
  pub whole : length memory ≡ pages_of memory * page
  pub room : length memory + (limit - 1) * page ≤ most_pages * page
  pub many : length placed ≡ length layout.columns
  pub columns : (k : ℕ) (used : Used) (one : Placed) → slice_get layout.columns k ≡ Some used → slice_get placed k ≡ Some one →
      IsReadyColumn (rows_of tables used.table) descriptor memory used one
  pub behind : 64 ≤ descriptor
  pub inside : descriptor + page ≤ length memory
  pub fresh : IsFresh memory descriptor layout placed

-- ---- result rows

-- the octets of a result row of so many cells
abbrev pub row_size : ℕ → ℕ
row_size cells = 8 + 16 * cells

-- a value where a test holds
abbrev pub if_so : {T : Type 0} → Bool → T → Option T
if_so test value = if test then Some value else None

-- the octets of a text, so many from an address on, which lie in the memory, in areas where texts may lie, and are UTF-8
abbrev pub text_cell : List Area → List ℕ → (address size : ℕ) → Option Val
text_cell texts memory address size =
    let octets = take size (drop address memory) in
    if_so (nat_le (address + size) (length memory) && (are_covered texts address size && is_utf8 octets)) (Text octets)

-- The value of a cell that isn't null: a signed number of 8 octets in its kind's range, where a date is a day of the calendar, or the address of a text and the number
-- of its octets, of 4 octets each.
abbrev pub plain_cell : List Area → List ℕ → ℕ → Kind → Option Val
plain_cell texts memory at (kind.Number scale) =
    let value = cast_signed w64 (number_at memory at 8) in if_so (fits value) (Num value)
plain_cell texts memory at kind.Date =
    let value = cast_signed w64 (number_at memory at 8) in if_so (is_day value) (Date value)
plain_cell texts memory at kind.Text = text_cell texts memory (number_at memory at 4) (number_at memory (at + 4) 4)

-- The cell at an address: 8 octets of a value, and an octet that is 1 where it is null, and else 0. The 7 octets after it are not
-- read.
abbrev pub cell_at : List Area → List ℕ → ℕ → Kind → Option Val
cell_at texts memory at k =
    let null = number_at memory (at + 8) 1 in
    if null == 1 then Some Null else (if null == 0 then plain_cell texts memory at k else None)

-- a value before others, where both are there
abbrev pub before : {T : Type 0} → Option T → Option (List T) → Option (List T)
before None xs = None
before (Some x) None = None
before (Some x) (Some xs) = Some (x ∷ xs)

-- cells one after another, of 16 octets each
abbrev pub cells_at : List Area → List ℕ → ℕ → List Kind → Option (List Val)
cells_at texts memory at [] = Some []
cells_at texts memory at (k ∷ kinds) = before (cell_at texts memory at k) (cells_at texts memory (at + 16) kinds)

-- The result row at an address: the next row's address in 4 octets, and from octet 8 on its cells. Octets 4 to 7 are not read. It
-- lies in own areas.
abbrev pub row_at : List Kind → List Area → (own : List Area) → List ℕ → ℕ → Option (List Val)
row_at kinds texts own memory at =
    if are_covered own at (row_size (length kinds)) then cells_at texts memory (at + 8) kinds else None

-- exactly so many rows, chained from an address on; the last one's next address is 0
abbrev pub rows_from : List Kind → List Area → (own : List Area) → List ℕ → ℕ → ℕ → Option (List (List Val))
rows_from kinds texts own memory zero at = if at == 0 then Some [] else None
rows_from kinds texts own memory (suc count) at =
    before (row_at kinds texts own memory at) (rows_from kinds texts own memory count (number_at memory at 4))

-- the areas where the texts of result rows may lie: the mapped columns and the descriptor
abbrev pub text_areas : Layout → World → (descriptor : ℕ) → List Area
text_areas layout w descriptor = record { start = descriptor; size = descriptor_size layout } ∷ w.mapped

-- The result rows of an instance: the descriptor, which lies in own areas, has the first one's address and their number.
abbrev pub rows_at : Layout → World → List ℕ → (descriptor : ℕ) → Option (List (List Val))
rows_at layout w memory descriptor =
    if are_covered w.own descriptor (descriptor_size layout)
    then rows_from layout.cells (text_areas layout w descriptor) w.own memory (number_at memory (descriptor + 16) 8) (number_at memory (descriptor + 8) 4)
    else None
