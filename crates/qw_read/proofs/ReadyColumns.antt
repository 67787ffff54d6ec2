-- Where a run begins, over a memory that is ready for it, each value of a column stands in the column's parts.
use Rattle.std.proofs.Common.{◌≡◌, ℕ, zero, suc, ◌+◌, ◌*◌, ◌/◌, ◌^◌, ◌<◌, ◌≤◌, Bool, true, false, List, [], ◌∷◌, length, take, Some, slice_get, refl, sym, ap, ◌∙◌, subst, arith}
use Rattle.std.specs.List.{AllByRecursion}
use Rattle.std.specs.Option.{option_map}
use Rattle.std.proofs.lemmas.List.{length-map}
use Rattle.std.proofs.lemmas.Option.{same_Some, slice_get_within, slice_get-map, get_or_from_slice_get}
use Rattle.qw_types.specs.Value.{IsOfTypeOrNull, text_octets}
use Rattle.qw_types.specs.declared.value.Ty.{Ty}
use Rattle.qw_types.specs.declared.value.Ty.TheVariants as ty
use Rattle.qw_types.specs.declared.value.Val.{Val}
use Rattle.qw_types.specs.declared.value.Val.TheVariants as val
use Rattle.qw_linear.specs.Memory.{number_at, page}
use Rattle.qw_linear.proofs.MemoryFacts.{number_at-below}
use Rattle.qw_types.specs.Contents.{rows_of}
use Rattle.qw_map.specs.Areas.{Area}
use Rattle.qw_map.specs.Columns.{values_size, nulls_size, text_offset, HoldsColumn, column_values}
use Rattle.qw_map.specs.Layout.{Layout, is_text, HasColumn, column_areas, descriptor_size, first_world, IsReadyColumn, IsReady}
use Rattle.qw_map.specs.declared.layout.Placed.{Placed}
use Rattle.qw_map.specs.declared.layout.Used.{Used}
use Rattle.qw_map.proofs.ColumnLemmas.{text_octets-taken}
use Rattle.qw_map.proofs.LayoutLemmas.{HasParts, area-parts, ready-between}
use Rattle.qw_map.proofs.TurnFacts.{found-in}
use Rattle.qw_low.specs.State.{Column, Value, Number, Address, Cells}
use Rattle.qw_low.specs.Places.{area_of}
use Rattle.qw_low.specs.Begin.{sizes_of, cells_of, KnowsValue}
use Rattle.qw_low.proofs.BeginLemmas.{ready-stands, sizes-there, values-known, nulls-known}
use Rattle.qw_low.proofs.Standing.{all-at}
use Rattle.qw_read.specs.Reading.{octets_of, HasOctets, StandsAt}

-- ---- plain facts
values_more : (type : Ty) (m n : ℕ) → m ≤ n → values_size type m ≤ values_size type n
values_more ty.Integer m n le = omega (arith, le)
values_more (ty.Decimal precision scale) m n le = omega (arith, le)
values_more ty.Date m n le = omega (arith, le)
values_more (ty.Varchar limit) m n le = omega (arith, le)

nulls_enough : (b : Bool) (row rows : ℕ) → b ≡ false → row < rows → row / 8 + 1 ≤ nulls_size b rows
nulls_enough true row rows is less = absurd cc
nulls_enough false row rows is less = omega (arith, less)

abbrev number_of : Value → ℕ
number_of (Number n) = n
number_of (Address p offset) = 0

pub same_number : (a b : ℕ) → Some (Number a) ≡ Some (Number b) → a ≡ b
same_number a b is = ap number_of (same_Some (Number a) (Number b) is)

-- a column's values are of its type
typed_at : (used : Used) (rows : List (List Val)) (row : ℕ) (value : Val) → AllByRecursion (HasColumn used) rows → slice_get (column_values rows used.column) row ≡ Some value →
    IsOfTypeOrNull used.ty used.not_null value
typed_at used [] row value all there = absurd cc
typed_at used (r ∷ rows) zero value all there =
    let has = all.0 in
    let value_is : has.0 ≡ value = sym (get_or_from_slice_get r used.column has.0 val.Null has.1) ∙ same_Some _ value there in
    subst (λ (v : Val). IsOfTypeOrNull used.ty used.not_null v) value_is has.2
typed_at used (r ∷ rows) (suc row) value all there = typed_at used rows row value all.1 there

module _ (layout : Layout) (placed : List Placed) (tables : List (List (List Val))) (descriptor limit : ℕ) (memory : List ℕ)
    (ready : IsReady layout placed tables descriptor limit memory) (small : descriptor_size layout ≤ page) where
  abbrev areas : List Area
  areas = column_areas layout.columns placed

  abbrev sizes : List ℕ
  sizes = sizes_of tables layout.columns

  abbrev cells : Cells
  cells = cells_of layout tables

  -- a part of a column is where its area is
  has_octets : (part least : ℕ) (a : Area) → slice_get areas part ≡ Some a → least ≤ a.size → HasOctets sizes part least
  has_octets part least a is enough =
      let between = all-at (λ area. (64 ≤ area.start) × (area.start + area.size ≤ descriptor)) areas part a (ready-between layout placed tables descriptor limit memory ready) is in
      (a.size, subst (λ (all : List ℕ). slice_get all part ≡ Some a.size) (sizes-there layout placed tables descriptor limit memory ready) (slice_get-map (λ (x : Area). x.size) areas part ∙ ap (option_map (λ (x : Area). x.size)) is), enough, omega (arith, between.0, between.1, ready.inside, ready.room))

  -- a number that is known of a part stands there
  read_at : (part offset width x : ℕ) (a : Area) → area_of (first_world layout placed descriptor limit) (Column part) ≡ Some a → cells (Column part) offset width ≡ Some (Number x) →
      number_at memory (a.start + offset) width ≡ x
  read_at part offset width x a is found =
      let there = (ready-stands layout placed tables descriptor limit memory ready small []).cells (Column part) offset width (Number x) found in
      let same : there.area ≡ a = same_Some there.area a (sym there.is ∙ is) in
      ap (λ (b : Area). number_at memory (b.start + offset) width) (sym same) ∙ there.means

  word_below : (part offset x : ℕ) (a : Area) → area_of (first_world layout placed descriptor limit) (Column part) ≡ Some a → cells (Column part) offset 8 ≡ Some (Number x) → x < 2 ^ 64
  word_below part offset x a is found =
      let number : number_at memory (a.start + offset) 8 ≡ x = read_at part offset 8 x a is found in
      omega (arith, number, number_at-below memory ready.octets (a.start + offset) 8)

  module _ (k row : ℕ) (used : Used) (one : Placed) (value : Val) (found : slice_get layout.columns k ≡ Some used) (at : slice_get placed k ≡ Some one)
      (there : slice_get (column_values (rows_of tables used.table) used.column) row ≡ Some value) where
    abbrev values : List Val
    values = column_values (rows_of tables used.table) used.column

    parts : HasParts areas k used one
    parts = area-parts layout.columns placed k used one found at

    ready_column : IsReadyColumn (rows_of tables used.table) descriptor memory used one
    ready_column = ready.columns k used one found at

    row_within : row < one.rows
    row_within = let inside = slice_get_within values row value there in omega (arith, inside, ready_column.holds.rows_are)

    abbrev values_area : Area
    values_area = record { start = one.values; size = values_size used.ty one.rows }

    abbrev octets_area : Area
    octets_area = record { start = one.octets; size = one.size }

    abbrev nulls_area : Area
    nulls_area = record { start = one.nulls; size = nulls_size used.not_null one.rows }

    offset_is : (limit : ℕ) → used.ty ≡ ty.Varchar limit → text_offset memory one (row + 1) ≡ text_octets (take (row + 1) values)
    offset_is limit is = has (subst (λ (t : Ty). HoldsColumn memory t used.not_null one values) is ready_column.holds)
      where
        has : HoldsColumn memory (ty.Varchar limit) used.not_null one values → text_offset memory one (row + 1) ≡ text_octets (take (row + 1) values)
        has column = column.offsets (row + 1) (omega (arith, row_within, column.rows_are))

    text_inside : (limit : ℕ) → used.ty ≡ ty.Varchar limit → (end : ℕ) → cells (Column (3 * k)) (4 * (row + 1)) 4 ≡ Some (Number end) → end ≤ one.size
    text_inside limit is end next =
        let same : text_offset memory one (row + 1) ≡ end = read_at (3 * k) (4 * (row + 1)) 4 end values_area parts.values next in
        omega (arith, same, offset_is limit is, ready_column.holds.size_is, text_octets-taken values (row + 1))

    octets_inside : (type : Ty) (v : Val) → used.ty ≡ type → is_text type ≡ true → KnowsValue cells k type row v → (from : ℕ) → cells (Column (3 * k)) (4 * row) 4 ≡ Some (Number from) →
        from + length (octets_of v) ≤ one.size
    octets_inside ty.Integer v is text knows from first = absurd cc
    octets_inside (ty.Decimal precision scale) v is text knows from first = absurd cc
    octets_inside ty.Date v is text knows from first = absurd cc
    octets_inside (ty.Varchar limit) val.Null is text knows from first =
        let same : knows.0 ≡ from = same_number knows.0 from (sym knows.1 ∙ first) in
        let inside : knows.0 + 0 ≤ one.size = text_inside limit is (knows.0 + 0) knows.2 in
        omega (arith, same, inside)
    octets_inside (ty.Varchar limit) (val.Text octets) is text knows from first =
        let same : knows.0 ≡ from = same_number knows.0 from (sym knows.1 ∙ first) in
        let inside : knows.0 + length octets ≤ one.size = text_inside limit is (knows.0 + length octets) knows.2 in
        omega (arith, same, inside)
    octets_inside (ty.Varchar limit) (val.Num n) is text knows from first = absurd knows
    octets_inside (ty.Varchar limit) (val.Date n) is text knows from first = absurd knows

    stands_at : StandsAt cells sizes k used.ty used.not_null row value
    stands_at =
        let knows : KnowsValue cells k used.ty row value = values-known layout placed tables descriptor limit memory ready k row used value found there in
        record {
          value = knows;
          null = nulls-known layout placed tables descriptor limit memory ready k row used value found there;
          typed = typed_at used (rows_of tables used.table) row value ready_column.typed there;
          values = has_octets (3 * k) (values_size used.ty (row + 1)) values_area parts.values (values_more used.ty (row + 1) one.rows (omega (arith, row_within)));
          nulls = λ is. has_octets (3 * k + 2) (row / 8 + 1) nulls_area parts.nulls (nulls_enough used.not_null row one.rows is row_within);
          octets = λ text from first. has_octets (3 * k + 1) (from + length (octets_of value)) octets_area parts.octets (octets_inside used.ty value refl text knows from first);
          words = λ x is. word_below (3 * k) (8 * row) x values_area parts.values is;
        }

  pub ready_stands_at : (k row : ℕ) (used : Used) (value : Val) → slice_get layout.columns k ≡ Some used → slice_get (column_values (rows_of tables used.table) used.column) row ≡ Some value →
      StandsAt cells sizes k used.ty used.not_null row value
  ready_stands_at k row used value found there =
      let one = found-in placed k (let inside = slice_get_within layout.columns k used found in omega (arith, inside, ready.many)) in
      stands_at k row used one.0 value found one.1 there

  pub ready_long : (k : ℕ) (used : Used) → slice_get layout.columns k ≡ Some used → HasOctets sizes (3 * k) (values_size used.ty (length (rows_of tables used.table)))
  ready_long k used found =
      let one = found-in placed k (let inside = slice_get_within layout.columns k used found in omega (arith, inside, ready.many)) in
      let many : one.0.rows ≡ length (rows_of tables used.table) = (ready.columns k used one.0 found one.1).holds.rows_are ∙ length-map (rows_of tables used.table) _ in
      has_octets (3 * k) (values_size used.ty (length (rows_of tables used.table))) (record { start = one.0.values; size = values_size used.ty one.0.rows })
      (area-parts layout.columns placed k used one.0 found one.1).values (values_more used.ty (length (rows_of tables used.table)) one.0.rows (omega (arith, many)))
