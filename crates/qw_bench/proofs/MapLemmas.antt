-- Where the columns of tables stand, in a memory that holds them.
use Rattle.std.proofs.Common.{◌≡◌, ℕ, ◌^◌, ◌<◌, ◌≤◌, List, length, IsSome, refl, arith}
use Rattle.std.specs.List.{AllByRecursion}
use Rattle.std.proofs.lemmas.List.{length-map}
use Rattle.std.proofs.lemmas.Option.{slice_get_within}
use Rattle.qw_types.specs.Contents.{AreLoaded, Contents}
use Rattle.qw_types.specs.Limits.{most_rows}
use Rattle.qw_types.specs.declared.schema.ColumnType.{ColumnType}
use Rattle.qw_types.specs.declared.value.Val.{Val}
use Rattle.qw_map.specs.Columns.{Holds, column_end, column_pages, column_values, columns_start, map_of, placed_at, tables_end}
use Rattle.qw_map.specs.declared.layout.Placed.{Placed}
use Rattle.qw_map.specs.declared.layout.Used.{Used}
use Rattle.qw_map.proofs.ColumnLemmas.{StandsIn, pages-reach, tables-stand}
use Rattle.qw_map.proofs.TurnFacts.{found-in}
use Rattle.qw_bench.specs.Bench.{IsColumnIn, Program}
use Rattle.qw_bench.specs.FirstPage.{HasAddresses}
use Rattle.qw_bench.specs.Inner.FirstSeats.{AreInMap, IsAddressable, place_in}
use Rattle.qw_bench.proofs.LayoutLemmas.{all-get, get-all}

-- a column of the tables has its place in the map
in-map : (tables : List Contents) (memory : List ℕ) → Holds (map_of tables) memory tables → (used : Used) → IsColumnIn tables used → IsSome (place_in (map_of tables) used)
in-map tables memory holds used column =
    let table = column.0 in
    let first : used.table < length (map_of tables) = omega (arith, slice_get_within tables used.table table column.2, holds.many) in
    let columns = found-in (map_of tables) used.table first in
    let many : length columns.0 ≡ length table.columns = (holds.each used.table table columns.0 column.2 columns.1).many in
    let within : used.column < length columns.0 = omega (arith, slice_get_within table.columns used.column column.1 column.3, many) in
    let one = found-in columns.0 used.column within in
    rw (columns.1, one.1) refl

pub all-in-map : (tables : List Contents) (memory : List ℕ) → Holds (map_of tables) memory tables → (programs : List Program) →
    AllByRecursion (λ (program : Program). AllByRecursion (IsColumnIn tables) program.layout.columns) programs →
    AllByRecursion (λ (program : Program). AreInMap (map_of tables) program.layout.columns) programs
all-in-map tables memory holds programs are = get-all (λ (program : Program). AreInMap (map_of tables) program.layout.columns) programs
    (λ k program found. get-all (λ (used : Used). IsSome (place_in (map_of tables) used)) program.layout.columns
    (λ j used there_used. in-map tables memory holds used
    (all-get (IsColumnIn tables) program.layout.columns j used there_used
    (all-get (λ (p : Program). AllByRecursion (IsColumnIn tables) p.layout.columns) programs k program found are))))

-- a place before the end of the columns has small addresses
small-place : (low high : ℕ) (column : ColumnType) (rows : List (List Val)) (first : ℕ) (one : Placed) → StandsIn low high column (column_values rows first) one →
    high < 2 ^ 32 → length rows ≤ most_rows → HasAddresses one
small-place low high column rows first one stands small few =
    let values = column_values rows first in
    let many : length values ≡ length rows = length-map rows _ in
    let ends : column_end column.not_null (placed_at stands.at column.ty values) ≤ high = rw stands.is at stands.ends in
    rw stands.is (record { values = omega arith; octets = omega arith; nulls = omega arith; rows_are = omega arith })

pub addressable : (tables : List Contents) (memory : List ℕ) → Holds (map_of tables) memory tables → AllByRecursion AreLoaded tables →
    column_pages tables ≤ 65535 → IsAddressable (map_of tables)
addressable tables memory holds loaded fits = get-all (AllByRecursion HasAddresses) (map_of tables)
    (λ k columns found.
    let within : k < length tables = omega (arith, slice_get_within (map_of tables) k columns found, holds.many) in
    let table = found-in tables k within in
    let many : length columns ≡ length table.0.columns = (holds.each k table.0 columns table.1 found).many in
    let are : AreLoaded table.0 = all-get AreLoaded tables k table.0 table.1 loaded in
    get-all HasAddresses columns
    (λ j one at_one.
    let inside : j < length table.0.columns = omega (arith, slice_get_within columns j one at_one, many) in
    let column = found-in table.0.columns j inside in
    let high : tables_end columns_start tables < 2 ^ 32 = omega (arith, pages-reach tables, fits) in
    small-place columns_start (tables_end columns_start tables) column.0 table.0.rows j one
    (tables-stand columns_start tables k table.0 columns table.1 found j column.0 one column.1 at_one) high are.few))
