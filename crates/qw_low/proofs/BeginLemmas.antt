-- A memory that is ready for a run stands for the state in which the run begins.
use Rattle.std.proofs.Common.{◌≡◌, ℕ, pos, zero, suc, ◌+◌, ◌-◌, ◌*◌, ◌/◌, ◌%◌, ◌^◌, ◌<◌, ◌≤◌, ◌⊎◌, ◌==◌, ◌&&◌, ◌||◌, ◌++◌, inl, inr, Bool, true, false, nat_le, nat_lt, List, [], ◌∷◌, length, map, take, drop, get_or, Option, Some, None, slice_get, refl, sym, ap, ◌∙◌, subst, ⊎_elim, arith, if◌then◌else◌, get_or-drop, get_or-take}
use Rattle.std.specs.Int.{w32, w64, cast_signed, cast_unsigned}
use Rattle.std.specs.Option.{option_map, option_map_or}
use Rattle.std.specs.Prelude.{slice_index}
use Rattle.std.proofs.lemmas.Bool.{false≢true, le-leb, leb-true, ltb-true, ltb-false, lt-ltb, eqb-true, le-ltb, ne_eqb, and_parts, and_from, or_cases}
use Rattle.std.proofs.lemmas.Int.{of_z-to_z}
use Rattle.std.proofs.lemmas.List.{length-append, length-map}
use Rattle.std.proofs.lemmas.Option.{same_Some, none-some, slice_get_within, get_or_from_slice_get, slice_get_past}
use Rattle.qw_types.specs.Value.{text_octets}
use Rattle.qw_types.specs.declared.value.Ty.{Ty}
use Rattle.qw_types.specs.declared.value.Ty.TheVariants as ty
use Rattle.qw_types.specs.declared.value.Val.{Val}
use Rattle.qw_types.specs.declared.value.Val.TheVariants as val
use Rattle.qw_linear.specs.Memory.{page, number_at}
use Rattle.qw_linear.proofs.MemoryFacts.{number_at-below}
use Rattle.qw_types.specs.Contents.{rows_of}
use Rattle.qw_map.specs.Areas.{Area, World}
use Rattle.qw_map.specs.Columns.{values_size, nulls_size, null_bit, is_null_at, text_offset, text_at, stored_at, blank, HoldsColumn, column_values}
use Rattle.qw_map.specs.Layout.{Layout, entry_offset, descriptor_size, is_text, HasEntry, column_areas, first_world, IsReady, IsReadyColumn}
use Rattle.qw_map.specs.Turns.{AreApart}
use Rattle.qw_map.specs.declared.layout.Placed.{Placed}
use Rattle.qw_map.specs.declared.layout.Used.{Used}
use Rattle.qw_map.proofs.LayoutLemmas.{HasParts, area-parts, ready-between}
use Rattle.qw_map.proofs.TurnFacts.{found-in}
use Rattle.qw_low.specs.State.{Part, Column, Own, Value, Number, Address, Cells}
use Rattle.qw_low.specs.Places.{area_of, Means, Holds, StandsFor}
use Rattle.qw_low.specs.Begin.{values_of, sizes_of, number_of, octets_of, null_flag, flag_at, null_octet, value_cell, octet_cell, null_cell, column_cell, entry_word, descriptor_word, literal_octet, are_zeros, or_else, page_cell, cells_of, first_state, KnowsStored, KnowsValue, KnowsNull, KnowsHead, KnowsEntry}
use Rattle.qw_low.proofs.CellLemmas.{given-there}
use Rattle.qw_low.proofs.Standing.{all-at}

-- ---- plain facts
-- which of two ways something is there
chosen : {T : Type 0} (b : Bool) (x y : Option T) (v : T) → (if b then x else y) ≡ Some v → ((b ≡ true) × (x ≡ Some v)) ⊎ ((b ≡ false) × (y ≡ Some v))
chosen true x y v is = inl (refl, is)
chosen false x y v is = inr (refl, is)

first-of : {T : Type 0} (b : Bool) (x y : T) → b ≡ true → (if b then x else y) ≡ x
first-of true x y is = refl
first-of false x y is = absurd (false≢true is)

second-of : {T : Type 0} (b : Bool) (x y : T) → b ≡ false → (if b then x else y) ≡ y
second-of false x y is = refl
second-of true x y is = absurd (false≢true (sym is))

number-zero : (m : List ℕ) (at width : ℕ) → ((k : ℕ) → at ≤ k → k < at + width → slice_index m k ≡ 0) → number_at m at width ≡ 0
unfolding number_at
number-zero m at zero zeros = refl
number-zero m at (suc width) zeros =
    omega (arith, zeros at (omega arith) (omega arith), number-zero m (at + 1) width (λ k low high. zeros k (omega arith) (omega arith)))

number-one : (m : List ℕ) (at : ℕ) → number_at m at 1 ≡ slice_index m at
unfolding number_at
number-one m at = omega arith

text_octets-more : (values : List Val) (n : ℕ) → text_octets (take n values) ≤ text_octets (take (suc n) values)
text_octets-more [] zero = omega arith
text_octets-more [] (suc n) = omega arith
text_octets-more (value ∷ values) zero = omega arith
text_octets-more (val.Null ∷ values) (suc n) = text_octets-more values n
text_octets-more (val.Num number ∷ values) (suc n) = text_octets-more values n
text_octets-more (val.Date number ∷ values) (suc n) = text_octets-more values n
text_octets-more (val.Text octets ∷ values) (suc n) =
    let rest : text_octets (take n values) ≤ text_octets (take (suc n) values) = text_octets-more values n in omega arith

abbrev text_of : Val → List ℕ
text_of val.Null = []
text_of (val.Num n) = []
text_of (val.Date n) = []
text_of (val.Text octets) = octets

-- a value that isn't null is what stands in its place
plain_value : (null : Bool) (stored value : Val) → (if null then val.Null else stored) ≡ value → null_flag value ≡ 0 → stored ≡ value
plain_value false stored value is flag = is
plain_value true stored value is flag = absurd (let one : 1 ≡ null_flag value = ap null_flag is in omega (arith, one, flag))

-- a bit that tells whether a value is null
bit_is : (bit : ℕ) → bit < 2 → (stored value : Val) → null_flag stored ≡ 0 → (if bit == 1 then val.Null else stored) ≡ value → bit ≡ null_flag value
bit_is zero below stored value flag is = sym flag ∙ ap null_flag is
bit_is (suc zero) below stored value flag is = ap null_flag is
bit_is (suc (suc bit)) below stored value flag is = absurd (omega arith)

-- nothing that stands in the place of a value is null
stored-flag : (memory : List ℕ) (type : Ty) (one : Placed) (row : ℕ) → null_flag (stored_at memory type one row) ≡ 0
stored-flag memory ty.Integer one row = refl
stored-flag memory (ty.Decimal precision scale) one row = refl
stored-flag memory ty.Date one row = refl
stored-flag memory (ty.Varchar limit) one row = refl

-- ---- options
slice_get_none : (values : List Val) (row : ℕ) → slice_get values row ≡ None → length values ≤ row
slice_get_none [] row is = omega arith
slice_get_none (v ∷ values) zero is = absurd cc
slice_get_none (v ∷ values) (suc row) is = let rest = slice_get_none values row is in omega (arith, rest)

if-there : {T : Type 0} (b : Bool) (x : Option T) (v : T) → (if b then x else None) ≡ Some v → (b ≡ true) × (x ≡ Some v)
if-there true x v is = (refl, is)
if-there false x v is = absurd (none-some v is)

map-there : {S T : Type 0} (f : S → T) (found : Option S) (v : T) → option_map f found ≡ Some v → (u : S) × (found ≡ Some u) × (f u ≡ v)
map-there f None v is = absurd (none-some v is)
map-there f (Some u) v is = (u, refl, same_Some (f u) v is)

else-there : (found other : Option Value) (v : Value) → or_else found other ≡ Some v → (found ≡ Some v) ⊎ (other ≡ Some v)
else-there None other v is = inr is
else-there (Some u) other v is = inl is

either-means : (w : World) (b : Bool) (address : Value) (number start : ℕ) → number ≡ (if b then 0 else start) → (b ≡ false → Means w address start) → Means w (if b then Number 0 else address) number
either-means w true address number start is means = is
either-means w false address number start is means = subst (λ (n : ℕ). Means w address n) (sym is) (means refl)

other-means : (w : World) (b : Bool) (address : Value) (number start : ℕ) → number ≡ (if b then start else 0) → (b ≡ true → Means w address start) → Means w (if b then address else Number 0) number
other-means w true address number start is means = subst (λ (n : ℕ). Means w address n) (sym is) (means refl)
other-means w false address number start is means = is

-- ---- lists of values
pub octets-long : (values : List Val) → length (octets_of values) ≡ text_octets values
octets-long [] = refl
octets-long (val.Null ∷ values) = octets-long values
octets-long (val.Num n ∷ values) = octets-long values
octets-long (val.Date n ∷ values) = octets-long values
octets-long (val.Text octets ∷ values) = length-append octets (octets_of values) ∙ ap (λ (n : ℕ). length octets + n) (octets-long values)

-- where a row's text ends
text-next : (values : List Val) (row : ℕ) (v : Val) → slice_get values row ≡ Some v → text_octets (take (suc row) values) ≡ text_octets (take row values) + length (text_of v)
text-next [] row v there = absurd (none-some v there)
text-next (u ∷ values) zero v there = subst (λ (x : Val). text_octets (u ∷ []) ≡ 0 + length (text_of x)) (same_Some u v there) (only u)
  where
    only : (x : Val) → text_octets (x ∷ []) ≡ 0 + length (text_of x)
    only val.Null = refl
    only (val.Num n) = refl
    only (val.Date n) = refl
    only (val.Text octets) = omega arith
text-next (val.Null ∷ values) (suc row) v there = text-next values row v there
text-next (val.Num n ∷ values) (suc row) v there = text-next values row v there
text-next (val.Date n ∷ values) (suc row) v there = text-next values row v there
text-next (val.Text octets ∷ values) (suc row) v there = let rest = text-next values row v there in omega (arith, rest)

get-front : (xs ys : List ℕ) (i x : ℕ) → slice_get xs i ≡ Some x → slice_get (xs ++ ys) i ≡ Some x
get-front [] ys i x is = absurd (none-some x is)
get-front (y ∷ xs) ys zero x is = is
get-front (y ∷ xs) ys (suc i) x is = get-front xs ys i x is

get-behind : (xs ys : List ℕ) (i : ℕ) → slice_get (xs ++ ys) (length xs + i) ≡ slice_get ys i
get-behind [] ys i = let none : 0 + i ≡ i = omega arith in ap (slice_get ys) none
get-behind (x ∷ xs) ys i = let more : suc (length xs) + i ≡ suc (length xs + i) = omega arith in ap (slice_get (x ∷ (xs ++ ys))) more ∙ get-behind xs ys i

-- an octet of a row's text, among all of them
octet-there : (values : List Val) (row i octet : ℕ) (v : Val) → slice_get values row ≡ Some v → slice_get (text_of v) i ≡ Some octet →
    slice_get (octets_of values) (text_octets (take row values) + i) ≡ Some octet
octet-there [] row i octet v there found = absurd (none-some v there)
octet-there (u ∷ values) zero i octet v there found = first u (subst (λ (x : Val). slice_get (text_of x) i ≡ Some octet) (sym (same_Some u v there)) found)
  where
    first : (x : Val) → slice_get (text_of x) i ≡ Some octet → slice_get (octets_of (x ∷ values)) (0 + i) ≡ Some octet
    first val.Null is = absurd (none-some octet is)
    first (val.Num n) is = absurd (none-some octet is)
    first (val.Date n) is = absurd (none-some octet is)
    first (val.Text octets) is = let none : i ≡ 0 + i = omega arith in subst (λ (k : ℕ). slice_get (octets ++ octets_of values) k ≡ Some octet) none (get-front octets (octets_of values) i octet is)
octet-there (val.Null ∷ values) (suc row) i octet v there found = octet-there values row i octet v there found
octet-there (val.Num n ∷ values) (suc row) i octet v there found = octet-there values row i octet v there found
octet-there (val.Date n ∷ values) (suc row) i octet v there found = octet-there values row i octet v there found
octet-there (val.Text octets ∷ values) (suc row) i octet v there found =
    let at : length octets + (text_octets (take row values) + i) ≡ length octets + text_octets (take row values) + i = omega arith in
    subst (λ (k : ℕ). slice_get (octets ++ octets_of values) k ≡ Some octet) at
    (get-behind octets (octets_of values) (text_octets (take row values) + i) ∙ octet-there values row i octet v there found)

-- what holds of each octet of each row's text holds of all of them
split-there : (xs ys : List ℕ) (k octet : ℕ) → slice_get (xs ++ ys) k ≡ Some octet → (slice_get xs k ≡ Some octet) ⊎ ((j : ℕ) × (k ≡ length xs + j) × (slice_get ys j ≡ Some octet))
split-there [] ys k octet is = inr (k, omega arith, is)
split-there (x ∷ xs) ys zero octet is = inl is
split-there (x ∷ xs) ys (suc k) octet is = ⊎_elim inl (λ h. inr (h.0, omega (arith, h.1), h.2)) (split-there xs ys k octet is)

each-octet : (values : List Val) (base : ℕ) (P : ℕ → ℕ → Type 0) →
    ((row i octet : ℕ) (octets : List ℕ) → slice_get values row ≡ Some (val.Text octets) → slice_get octets i ≡ Some octet → P (base + text_octets (take row values) + i) octet) →
    (k octet : ℕ) → slice_get (octets_of values) k ≡ Some octet → P (base + k) octet
each-octet [] base P each k octet is = absurd (none-some octet is)
each-octet (val.Null ∷ values) base P each k octet is = each-octet values base P (λ row i o t there found. each (suc row) i o t there found) k octet is
each-octet (val.Num n ∷ values) base P each k octet is = each-octet values base P (λ row i o t there found. each (suc row) i o t there found) k octet is
each-octet (val.Date n ∷ values) base P each k octet is = each-octet values base P (λ row i o t there found. each (suc row) i o t there found) k octet is
each-octet (val.Text octets ∷ values) base P each k octet is = ⊎_elim
    (λ first. let at : base + 0 + k ≡ base + k = omega arith in subst (λ (n : ℕ). P n octet) at (each 0 k octet octets refl first))
    (λ later.
    let at : base + length octets + later.0 ≡ base + k = omega (arith, later.1) in
    subst (λ (n : ℕ). P n octet) at (each-octet values (base + length octets) P
    (λ row i o t there found.
    let place : base + (length octets + text_octets (take row values)) + i ≡ base + length octets + text_octets (take row values) + i = omega arith in
    subst (λ (n : ℕ). P n o) place (each (suc row) i o t there found))
    later.0 octet later.2))
    (split-there octets (octets_of values) k octet is)

-- the sizes of areas
sizes-are : (tables : List (List (List Val))) (columns : List Used) (placed : List Placed) → length placed ≡ length columns →
    ((k : ℕ) (used : Used) (one : Placed) → slice_get columns k ≡ Some used → slice_get placed k ≡ Some one → (one.rows ≡ length (values_of tables used)) × (one.size ≡ text_octets (values_of tables used))) →
    map (λ (a : Area). a.size) (column_areas columns placed) ≡ sizes_of tables columns
sizes-are tables [] placed many each = refl
sizes-are tables (used ∷ columns) [] many each = absurd (omega (arith, many))
sizes-are tables (used ∷ columns) (one ∷ placed) many each =
    let now = each 0 used one refl refl in
    rw (now.0, now.1, sizes-are tables columns placed (omega (arith, many)) (λ k u p found there. each (suc k) u p found there)) refl

octet-of-bits : (x : ℕ) → x < 256 →
    x ≡ x / 1 % 2 + 2 * (x / 2 % 2) + 4 * (x / 4 % 2) + 8 * (x / 8 % 2) + 16 * (x / 16 % 2) + 32 * (x / 32 % 2) + 64 * (x / 64 % 2) + 128 * (x / 128 % 2)
octet-of-bits x below = omega (arith, below)

module _ (layout : Layout) (placed : List Placed) (tables : List (List (List Val))) (descriptor limit : ℕ) (memory : List ℕ)
    (ready : IsReady layout placed tables descriptor limit memory) where
  abbrev w : World
  w = first_world layout placed descriptor limit

  abbrev first_page : Area
  first_page = record { start = descriptor; size = page }

  column-between : (k : ℕ) (a : Area) → area_of w (Column k) ≡ Some a → (64 ≤ a.start) × (a.start + a.size ≤ descriptor)
  column-between k a is = all-at (λ area. (64 ≤ area.start) × (area.start + area.size ≤ descriptor)) (column_areas layout.columns placed) k a
      (ready-between layout placed tables descriptor limit memory ready) is

  own-is : (k : ℕ) (a : Area) → area_of w (Own k) ≡ Some a → (k ≡ 0) × (first_page ≡ a)
  own-is zero a is = (refl, same_Some first_page a is)
  own-is (suc k) a is = absurd (none-some a is)

  part-bounds : (p : Part) (a : Area) → area_of w p ≡ Some a → (64 ≤ a.start) × (a.start + a.size ≤ length memory)
  part-bounds (Column k) a is =
      let between = column-between k a is in
      (between.0, let inside = ready.inside in omega (arith, between.1, inside))
  part-bounds (Own k) a is =
      let same = (own-is k a is).1 in
      subst (λ (x : Area). (64 ≤ x.start) × (x.start + x.size ≤ length memory)) same (ready.behind, ready.inside)

  parts-apart : (k : ℕ) (q : Part) (a b : Area) → area_of w (Own k) ≡ Some a → area_of w q ≡ Some b → (q ≡ Own k) ⊎ AreApart a b
  parts-apart k (Column j) a b first second =
      let between = column-between j b second in
      let start : descriptor ≡ a.start = ap (λ (x : Area). x.start) (own-is k a first).1 in
      inr (inr (omega (arith, between.1, start)))
  parts-apart k (Own j) a b first second = inl (ap Own ((own-is j b second).0 ∙ sym (own-is k a first).0))

  -- ---- the columns of the layout
  column-there : (k : ℕ) (used : Used) → slice_get layout.columns k ≡ Some used → (one : Placed) × (slice_get placed k ≡ Some one)
  column-there k used found = found-in placed k (let inside = slice_get_within layout.columns k used found in omega (arith, ready.many))

  parts : (k : ℕ) (used : Used) (one : Placed) → slice_get layout.columns k ≡ Some used → slice_get placed k ≡ Some one →
      HasParts (column_areas layout.columns placed) k used one
  parts = area-parts layout.columns placed

  -- ---- one column
  abbrev cells : Cells
  cells = cells_of layout tables

  module _ (k : ℕ) (used : Used) (one : Placed) (found : slice_get layout.columns k ≡ Some used) (there : slice_get placed k ≡ Some one) where
    abbrev values : List Val
    values = values_of tables used

    column : IsReadyColumn (rows_of tables used.table) descriptor memory used one
    column = ready.columns k used one found there

    holds : HoldsColumn memory used.ty used.not_null one values
    holds = column.holds

    areas : HasParts (column_areas layout.columns placed) k used one
    areas = parts k used one found there

    not-null : (value : Val) → null_flag value ≡ 0 → (row : ℕ) → slice_get values row ≡ Some value → stored_at memory used.ty one row ≡ value
    not-null value flag row found_value = plain_value (is_null_at memory used.not_null one row) (stored_at memory used.ty one row) value (holds.each row value found_value) flag

    -- what stands in the place of a value
    abbrev in_place : Val → Val
    in_place val.Null = blank used.ty
    in_place (val.Num n) = val.Num n
    in_place (val.Date n) = val.Date n
    in_place (val.Text octets) = val.Text octets

    stands : (value : Val) (row : ℕ) → slice_get values row ≡ Some value → stored_at memory used.ty one row ≡ in_place value
    stands val.Null row there_value = holds.blanks row there_value
    stands (val.Num n) row there_value = not-null (val.Num n) refl row there_value
    stands (val.Date n) row there_value = not-null (val.Date n) refl row there_value
    stands (val.Text octets) row there_value = not-null (val.Text octets) refl row there_value

    blank-number : (type : Ty) → number_of (blank type) ≡ pos 0
    blank-number ty.Integer = refl
    blank-number (ty.Decimal precision scale) = refl
    blank-number ty.Date = refl
    blank-number (ty.Varchar limit) = refl

    number-in : (value : Val) (row : ℕ) → slice_get values row ≡ Some value → number_of (stored_at memory used.ty one row) ≡ number_of value
    number-in value row there_value = ap number_of (stands value row there_value) ∙ same value
      where
        same : (x : Val) → number_of (in_place x) ≡ number_of x
        same val.Null = blank-number used.ty
        same (val.Num n) = refl
        same (val.Date n) = refl
        same (val.Text octets) = refl

    row-inside : (row : ℕ) (value : Val) → slice_get values row ≡ Some value → row < one.rows
    row-inside row value there_value = let inside = slice_get_within values row value there_value in omega (arith, inside, holds.rows_are)

    -- the octets of a number among the values are its word
    word-32 : (type : Ty) → used.ty ≡ type → (row : ℕ) (value : Val) → slice_get values row ≡ Some value →
        number_of (stored_at memory type one row) ≡ cast_signed w32 (number_at memory (one.values + 4 * row) 4) → number_at memory (one.values + 4 * row) 4 ≡ cast_unsigned w32 (number_of value)
    word-32 type is row value there_value reads =
        let same : number_of (stored_at memory type one row) ≡ number_of value = ap (λ (t : Ty). number_of (stored_at memory t one row)) (sym is) ∙ number-in value row there_value in
        let below : number_at memory (one.values + 4 * row) 4 < 2 ^ 32 = number_at-below memory ready.octets (one.values + 4 * row) 4 in
        sym (of_z-to_z w32 (number_at memory (one.values + 4 * row) 4) below) ∙ ap (cast_unsigned w32) (sym reads ∙ same)

    word-64 : (type : Ty) → used.ty ≡ type → (row : ℕ) (value : Val) → slice_get values row ≡ Some value →
        number_of (stored_at memory type one row) ≡ cast_signed w64 (number_at memory (one.values + 8 * row) 8) → number_at memory (one.values + 8 * row) 8 ≡ cast_unsigned w64 (number_of value)
    word-64 type is row value there_value reads =
        let same : number_of (stored_at memory type one row) ≡ number_of value = ap (λ (t : Ty). number_of (stored_at memory t one row)) (sym is) ∙ number-in value row there_value in
        let below : number_at memory (one.values + 8 * row) 8 < 2 ^ 64 = number_at-below memory ready.octets (one.values + 8 * row) 8 in
        sym (of_z-to_z w64 (number_at memory (one.values + 8 * row) 8) below) ∙ ap (cast_unsigned w64) (sym reads ∙ same)

    offset-is : (limit : ℕ) → used.ty ≡ ty.Varchar limit → (row : ℕ) → row ≤ length values → text_offset memory one row ≡ text_octets (take row values)
    offset-is limit is = has (subst (λ (t : Ty). HoldsColumn memory t used.not_null one values) is holds)
      where
        has : HoldsColumn memory (ty.Varchar limit) used.not_null one values → (row : ℕ) → row ≤ length values → text_offset memory one row ≡ text_octets (take row values)
        has column' = column'.offsets

    -- what is known among the values stands there
    abbrev IsThere : (size at : ℕ) → (offset width : ℕ) → Value → Type 0
    IsThere size at offset width v = (offset + width ≤ size) × Means w v (number_at memory (at + offset) width)

    value-there : (type : Ty) → used.ty ≡ type → (offset width : ℕ) (v : Value) → value_cell type values offset width ≡ Some v → IsThere (values_size type one.rows) one.values offset width v
    value-there ty.Integer is offset width v known =
        let parts' = if-there ((width == 4) && (offset % 4 == 0)) _ v known in
        let tests = and_parts (width == 4) (offset % 4 == 0) parts'.0 in
        let wide : width ≡ 4 = eqb-true width 4 tests.0 in
        let even : offset % 4 ≡ 0 = eqb-true (offset % 4) 0 tests.1 in
        let value = map-there (λ (x : Val). Number (cast_unsigned w32 (number_of x))) (slice_get values (offset / 4)) v parts'.1 in
        let row : ℕ = offset / 4 in
        let at : 4 * row ≡ offset = omega (arith, even) in
        let inside : row < one.rows = row-inside row value.0 value.1 in (
          omega (arith, at, inside, wide),
          subst (λ (x : Value). Means w x (number_at memory (one.values + offset) width)) value.2
              (ap (λ (o : ℕ). number_at memory (one.values + o) width) (sym at) ∙ ap (λ (n : ℕ). number_at memory (one.values + 4 * row) n) wide ∙ word-32 ty.Integer is row value.0 value.1 refl),
        )
    value-there (ty.Decimal precision scale) is offset width v known =
        let parts' = if-there ((width == 8) && (offset % 8 == 0)) _ v known in
        let tests = and_parts (width == 8) (offset % 8 == 0) parts'.0 in
        let wide : width ≡ 8 = eqb-true width 8 tests.0 in
        let even : offset % 8 ≡ 0 = eqb-true (offset % 8) 0 tests.1 in
        let value = map-there (λ (x : Val). Number (cast_unsigned w64 (number_of x))) (slice_get values (offset / 8)) v parts'.1 in
        let row : ℕ = offset / 8 in
        let at : 8 * row ≡ offset = omega (arith, even) in
        let inside : row < one.rows = row-inside row value.0 value.1 in (
          omega (arith, at, inside, wide),
          subst (λ (x : Value). Means w x (number_at memory (one.values + offset) width)) value.2
              (ap (λ (o : ℕ). number_at memory (one.values + o) width) (sym at) ∙ ap (λ (n : ℕ). number_at memory (one.values + 8 * row) n) wide ∙ word-64 (ty.Decimal precision scale) is row value.0 value.1 refl),
        )
    value-there ty.Date is offset width v known =
        let parts' = if-there ((width == 4) && (offset % 4 == 0)) _ v known in
        let tests = and_parts (width == 4) (offset % 4 == 0) parts'.0 in
        let wide : width ≡ 4 = eqb-true width 4 tests.0 in
        let even : offset % 4 ≡ 0 = eqb-true (offset % 4) 0 tests.1 in
        let value = map-there (λ (x : Val). Number (cast_unsigned w32 (number_of x))) (slice_get values (offset / 4)) v parts'.1 in
        let row : ℕ = offset / 4 in
        let at : 4 * row ≡ offset = omega (arith, even) in
        let inside : row < one.rows = row-inside row value.0 value.1 in (
          omega (arith, at, inside, wide),
          subst (λ (x : Value). Means w x (number_at memory (one.values + offset) width)) value.2
              (ap (λ (o : ℕ). number_at memory (one.values + o) width) (sym at) ∙ ap (λ (n : ℕ). number_at memory (one.values + 4 * row) n) wide ∙ word-32 ty.Date is row value.0 value.1 refl),
        )
    value-there (ty.Varchar limit) is offset width v known =
        let parts' = if-there (((width == 4) && (offset % 4 == 0)) && nat_le (offset / 4) (length values)) _ v known in
        let both = and_parts ((width == 4) && (offset % 4 == 0)) (nat_le (offset / 4) (length values)) parts'.0 in
        let tests = and_parts (width == 4) (offset % 4 == 0) both.0 in
        let wide : width ≡ 4 = eqb-true width 4 tests.0 in
        let even : offset % 4 ≡ 0 = eqb-true (offset % 4) 0 tests.1 in
        let row : ℕ = offset / 4 in
        let within : row ≤ length values = leb-true row (length values) both.1 in
        let at : 4 * row ≡ offset = omega (arith, even) in
        let rows = holds.rows_are in (
          omega (arith, at, within, wide, rows),
          subst (λ (x : Value). Means w x (number_at memory (one.values + offset) width)) (same_Some (Number (text_octets (take row values))) v parts'.1)
              (ap (λ (o : ℕ). number_at memory (one.values + o) width) (sym at) ∙ ap (λ (n : ℕ). number_at memory (one.values + 4 * row) n) wide ∙ offset-is limit is row within),
        )

    -- an octet of a row's text
    text-there : (type : Ty) → used.ty ≡ type → (row i octet : ℕ) (octets : List ℕ) → slice_get values row ≡ Some (val.Text octets) → slice_get octets i ≡ Some octet →
        stored_at memory type one row ≡ val.Text octets → slice_index memory (one.octets + text_octets (take row values) + i) ≡ octet
    text-there ty.Integer is row i octet octets there_value found_octet stored = absurd cc
    text-there (ty.Decimal precision scale) is row i octet octets there_value found_octet stored = absurd cc
    text-there ty.Date is row i octet octets there_value found_octet stored = absurd cc
    text-there (ty.Varchar limit) is row i octet octets there_value found_octet stored =
        let within = slice_get_within values row (val.Text octets) there_value in
        let next : row + 1 ≡ suc row = omega arith in
        let from : text_offset memory one row ≡ text_octets (take row values) = offset-is limit is row (omega (arith, within)) in
        let to : text_offset memory one (row + 1) ≡ text_octets (take (suc row) values) = offset-is limit is (row + 1) (omega (arith, within)) ∙ ap (λ (n : ℕ). text_octets (take n values)) next in
        let long : text_octets (take (suc row) values) ≡ text_octets (take row values) + length octets = text-next values row (val.Text octets) there_value in
        let text : text_at memory one row ≡ octets = ap text_of stored in
        let inside : i < length octets = slice_get_within octets i octet found_octet in
        let count : ℕ = text_offset memory one (row + 1) - text_offset memory one row in
        let short : i < count = omega (arith, from, to, long, inside) in
        let place : one.octets + text_offset memory one row + i ≡ one.octets + text_octets (take row values) + i = omega (arith, from) in
        ap (λ (n : ℕ). slice_index memory n) (sym place) ∙ sym (get_or-drop (one.octets + text_offset memory one row) memory i 0)
        ∙ sym (get_or-take count (drop (one.octets + text_offset memory one row) memory) i 0 short)
        ∙ ap (λ (xs : List ℕ). get_or xs i 0) text ∙ get_or_from_slice_get octets i octet 0 found_octet

    octet-held : (offset width : ℕ) (v : Value) → octet_cell values offset width ≡ Some v → IsThere one.size one.octets offset width v
    octet-held offset width v known =
        let parts' = if-there (width == 1) _ v known in
        let wide : width ≡ 1 = eqb-true width 1 parts'.0 in
        let octet = map-there Number (slice_get (octets_of values) offset) v parts'.1 in
        let inside : offset < length (octets_of values) = slice_get_within (octets_of values) offset octet.0 octet.1 in
        let long = octets-long values in
        let size = holds.size_is in
        let is : slice_index memory (one.octets + offset) ≡ octet.0 = each-octet values one.octets (λ at o. slice_index memory at ≡ o)
        (λ row i o t there_value found_octet. text-there used.ty refl row i o t there_value found_octet (stands (val.Text t) row there_value)) offset octet.0 octet.1 in (
          omega (arith, inside, long, size, wide),
          subst (λ (x : Value). Means w x (number_at memory (one.octets + offset) width)) octet.2
              (ap (λ (n : ℕ). number_at memory (one.octets + offset) n) wide ∙ number-one memory (one.octets + offset) ∙ is),
        )

    -- null bits
    bit-there : used.not_null ≡ false → (row : ℕ) → row < 8 * nulls_size used.not_null one.rows → (value : Option Val) → slice_get values row ≡ value →
        null_bit memory one.nulls row ≡ option_map_or null_flag value 0
    bit-there may row within (Some value) is =
        let each : (if null_bit memory one.nulls row == 1 then val.Null else stored_at memory used.ty one row) ≡ value =
        ap (λ (b : Bool). if is_null_at memory b one row then val.Null else stored_at memory used.ty one row) (sym may) ∙ holds.each row value is in
        bit_is (null_bit memory one.nulls row) (omega arith) (stored_at memory used.ty one row) value (stored-flag memory used.ty one row) each
    bit-there may row within None is = holds.spare row (slice_get_none values row is) within

    bit-at : used.not_null ≡ false → (group bit : ℕ) → bit < 8 → group < nulls_size used.not_null one.rows → number_at memory (one.nulls + group) 1 / 2 ^ bit % 2 ≡ flag_at values (8 * group + bit)
    bit-at may group bit low within =
        let index : (8 * group + bit) / 8 ≡ group = omega arith in
        let rest : (8 * group + bit) % 8 ≡ bit = omega arith in
        let is = bit-there may (8 * group + bit) (omega (arith, within)) (slice_get values (8 * group + bit)) refl in
        ap (λ (n : ℕ). number_at memory (one.nulls + n) 1 / 2 ^ bit % 2) (sym index) ∙ ap (λ (n : ℕ). number_at memory (one.nulls + (8 * group + bit) / 8) 1 / 2 ^ n % 2) (sym rest) ∙ is

    null-octet : used.not_null ≡ false → (group : ℕ) → group < nulls_size used.not_null one.rows → number_at memory (one.nulls + group) 1 ≡ null_octet values (8 * group)
    null-octet may group within =
        let x : ℕ = number_at memory (one.nulls + group) 1 in
        let below : x < 2 ^ (8 * 1) = number_at-below memory ready.octets (one.nulls + group) 1 in
        let first : 8 * group + 0 ≡ 8 * group = omega arith in
        let b0 : x / 1 % 2 ≡ flag_at values (8 * group) = bit-at may group 0 (omega arith) within ∙ ap (flag_at values) first in
        let b1 : x / 2 % 2 ≡ flag_at values (8 * group + 1) = bit-at may group 1 (omega arith) within in
        let b2 : x / 4 % 2 ≡ flag_at values (8 * group + 2) = bit-at may group 2 (omega arith) within in
        let b3 : x / 8 % 2 ≡ flag_at values (8 * group + 3) = bit-at may group 3 (omega arith) within in
        let b4 : x / 16 % 2 ≡ flag_at values (8 * group + 4) = bit-at may group 4 (omega arith) within in
        let b5 : x / 32 % 2 ≡ flag_at values (8 * group + 5) = bit-at may group 5 (omega arith) within in
        let b6 : x / 64 % 2 ≡ flag_at values (8 * group + 6) = bit-at may group 6 (omega arith) within in
        let b7 : x / 128 % 2 ≡ flag_at values (8 * group + 7) = bit-at may group 7 (omega arith) within in
        octet-of-bits x below ∙ rw (b0, b1, b2, b3, b4, b5, b6, b7) refl

    null-held : (offset width : ℕ) (v : Value) → null_cell used.not_null values offset width ≡ Some v → IsThere (nulls_size used.not_null one.rows) one.nulls offset width v
    null-held offset width v known =
        let parts' = if-there ((width == 1) && nat_lt offset (nulls_size used.not_null (length values))) _ v known in
        let tests = and_parts (width == 1) (nat_lt offset (nulls_size used.not_null (length values))) parts'.0 in
        let wide : width ≡ 1 = eqb-true width 1 tests.0 in
        let size : nulls_size used.not_null one.rows ≡ nulls_size used.not_null (length values) = ap (nulls_size used.not_null) holds.rows_are in
        let inside : offset < nulls_size used.not_null one.rows = rw size (ltb-true offset (nulls_size used.not_null (length values)) tests.1) in (
          omega (arith, wide, inside),
          subst (λ (x : Value). Means w x (number_at memory (one.nulls + offset) width)) (same_Some (Number (null_octet values (8 * offset))) v parts'.1)
              (ap (λ (n : ℕ). number_at memory (one.nulls + offset) n) wide ∙ null-octet (may-be used.not_null refl inside) offset inside),
        )
      where
        may-be : (b : Bool) → used.not_null ≡ b → offset < nulls_size used.not_null one.rows → used.not_null ≡ false
        may-be true is inside = absurd (let none : nulls_size used.not_null one.rows ≡ 0 = ap (λ (b : Bool). nulls_size b one.rows) is in omega (arith, none, inside))
        may-be false is inside = is

    -- so what is known of a part of the column stands there
    part-held : (j : ℕ) → j < 3 → (offset width : ℕ) (v : Value) → column_cell j used values offset width ≡ Some v → Holds w memory (Column (3 * k + j)) offset width v
    part-held zero low offset width v known =
        let is = value-there used.ty refl offset width v known in
        let at : 3 * k + 0 ≡ 3 * k = omega arith in
        record { area = record { start = one.values; size = values_size used.ty one.rows }; is = ap (slice_get w.mapped) at ∙ areas.values; inside = is.0; means = is.1 }
    part-held (suc zero) low offset width v known =
        let is = octet-held offset width v known in
        record { area = record { start = one.octets; size = one.size }; is = areas.octets; inside = is.0; means = is.1 }
    part-held (suc (suc zero)) low offset width v known =
        let is = null-held offset width v known in
        record { area = record { start = one.nulls; size = nulls_size used.not_null one.rows }; is = areas.nulls; inside = is.0; means = is.1 }
    part-held (suc (suc (suc j))) low offset width v known = absurd (omega (arith, low))

    -- ---- what is known of it
    cell-at : (j offset width : ℕ) → j < 3 → cells (Column (3 * k + j)) offset width ≡ column_cell j used values offset width
    cell-at j offset width low =
        let index : (3 * k + j) / 3 ≡ k = omega arith in
        let rest : (3 * k + j) % 3 ≡ j = omega (arith, low) in
        rw (index, rest, found) refl

    first-cell : (type : Ty) → used.ty ≡ type → (offset width : ℕ) → cells (Column (3 * k)) offset width ≡ value_cell type values offset width
    first-cell type is offset width =
        let at : 3 * k + 0 ≡ 3 * k = omega arith in
        ap (λ (n : ℕ). cells (Column n) offset width) (sym at) ∙ cell-at 0 offset width (omega arith) ∙ ap (λ (t : Ty). value_cell t values offset width) is

    four-known : (row : ℕ) (value : Val) → slice_get values row ≡ Some value →
        (if (4 == 4) && (4 * row % 4 == 0) then option_map (λ (x : Val). Number (cast_unsigned w32 (number_of x))) (slice_get values (4 * row / 4)) else None) ≡ Some (Number (cast_unsigned w32 (number_of value)))
    four-known row value there_value =
        let rest : 4 * row % 4 ≡ 0 = omega arith in
        let index : 4 * row / 4 ≡ row = omega arith in
        rw (rest, index, there_value) refl

    eight-known : (row : ℕ) (value : Val) → slice_get values row ≡ Some value →
        (if (8 == 8) && (8 * row % 8 == 0) then option_map (λ (x : Val). Number (cast_unsigned w64 (number_of x))) (slice_get values (8 * row / 8)) else None) ≡ Some (Number (cast_unsigned w64 (number_of value)))
    eight-known row value there_value =
        let rest : 8 * row % 8 ≡ 0 = omega arith in
        let index : 8 * row / 8 ≡ row = omega arith in
        rw (rest, index, there_value) refl

    offset-known : (limit : ℕ) → used.ty ≡ ty.Varchar limit → (row : ℕ) → row ≤ length values → cells (Column (3 * k)) (4 * row) 4 ≡ Some (Number (text_octets (take row values)))
    offset-known limit is row within =
        let rest : 4 * row % 4 ≡ 0 = omega arith in
        let index : 4 * row / 4 ≡ row = omega arith in
        first-cell (ty.Varchar limit) is (4 * row) 4 ∙ rw (rest, index, le-leb row (length values) within) refl

    text-known : (limit : ℕ) → used.ty ≡ ty.Varchar limit → (row : ℕ) (value : Val) → slice_get values row ≡ Some value →
        KnowsStored cells k (ty.Varchar limit) row (val.Text (text_of value))
    text-known limit is row value there_value =
        let within = slice_get_within values row value there_value in
        let next : row + 1 ≡ suc row = omega arith in
        let end : text_octets (take (row + 1) values) ≡ text_octets (take row values) + length (text_of value) = ap (λ (n : ℕ). text_octets (take n values)) next ∙ text-next values row value there_value in (
          text_octets (take row values),
          offset-known limit is row (omega (arith, within)),
          offset-known limit is (row + 1) (omega (arith, within)) ∙ ap (λ (n : ℕ). Some (Number n)) end,
          λ i octet octet_there. cell-at 1 (text_octets (take row values) + i) 1 (omega arith)
              ∙ ap (option_map Number) (octet-there values row i octet value there_value octet_there),
        )

    number-known : (type : Ty) → used.ty ≡ type → (row : ℕ) (value stored : Val) → slice_get values row ≡ Some value → stored_at memory type one row ≡ stored → number_of stored ≡ number_of value →
        is_text type ≡ false → KnowsStored cells k type row stored
    number-known ty.Integer is row value (val.Num n) there_value stands_there same plain = (
      cast_unsigned w32 (number_of value),
      first-cell ty.Integer is (4 * row) 4 ∙ four-known row value there_value,
      ap (cast_signed w32) (sym (word-32 ty.Integer is row value there_value refl)) ∙ ap number_of stands_there,
    )
    number-known (ty.Decimal precision scale) is row value (val.Num n) there_value stands_there same plain = (
      cast_unsigned w64 (number_of value),
      first-cell (ty.Decimal precision scale) is (8 * row) 8 ∙ eight-known row value there_value,
      ap (cast_signed w64) (sym (word-64 (ty.Decimal precision scale) is row value there_value refl)) ∙ ap number_of stands_there,
    )
    number-known ty.Date is row value (val.Date n) there_value stands_there same plain = (
      cast_unsigned w32 (number_of value),
      first-cell ty.Date is (4 * row) 4 ∙ four-known row value there_value,
      ap (cast_signed w32) (sym (word-32 ty.Date is row value there_value refl)) ∙ ap number_of stands_there,
    )
    number-known (ty.Varchar limit) is row value stored there_value stands_there same plain = absurd cc
    number-known ty.Integer is row value val.Null there_value stands_there same plain = cc
    number-known ty.Integer is row value (val.Date n) there_value stands_there same plain = cc
    number-known ty.Integer is row value (val.Text octets) there_value stands_there same plain = cc
    number-known (ty.Decimal precision scale) is row value val.Null there_value stands_there same plain = cc
    number-known (ty.Decimal precision scale) is row value (val.Date n) there_value stands_there same plain = cc
    number-known (ty.Decimal precision scale) is row value (val.Text octets) there_value stands_there same plain = cc
    number-known ty.Date is row value val.Null there_value stands_there same plain = cc
    number-known ty.Date is row value (val.Num n) there_value stands_there same plain = cc
    number-known ty.Date is row value (val.Text octets) there_value stands_there same plain = cc

    -- a text, of a column of texts
    text-stored : (limit : ℕ) → used.ty ≡ ty.Varchar limit → (row : ℕ) (value : Val) → slice_get values row ≡ Some value → stored_at memory (ty.Varchar limit) one row ≡ in_place value → KnowsValue cells k (ty.Varchar limit) row value
    text-stored limit is row val.Null there_value stands_there = text-known limit is row val.Null there_value
    text-stored limit is row (val.Text octets) there_value stands_there = text-known limit is row (val.Text octets) there_value
    text-stored limit is row (val.Num n) there_value stands_there = cc
    text-stored limit is row (val.Date n) there_value stands_there = cc

    known-by : (type : Ty) → used.ty ≡ type → (row : ℕ) (value : Val) → slice_get values row ≡ Some value → stored_at memory type one row ≡ in_place value → (is_text type ≡ false → KnowsStored cells k type row (in_place value) → KnowsValue cells k type row value) →
        number_of (in_place value) ≡ number_of value → KnowsValue cells k type row value
    known-by ty.Integer is row value there_value stands_there onward same = onward refl (number-known ty.Integer is row value (in_place value) there_value stands_there same refl)
    known-by (ty.Decimal precision scale) is row value there_value stands_there onward same = onward refl (number-known (ty.Decimal precision scale) is row value (in_place value) there_value stands_there same refl)
    known-by ty.Date is row value there_value stands_there onward same = onward refl (number-known ty.Date is row value (in_place value) there_value stands_there same refl)
    known-by (ty.Varchar limit) is row value there_value stands_there onward same = text-stored limit is row value there_value stands_there

    pub value-known : (row : ℕ) (value : Val) → slice_get values row ≡ Some value → KnowsValue cells k used.ty row value
    value-known row val.Null there_value = known-by used.ty refl row val.Null there_value (stands val.Null row there_value) (λ plain h. h) (blank-number used.ty)
    value-known row (val.Num n) there_value = known-by used.ty refl row (val.Num n) there_value (stands (val.Num n) row there_value) (λ plain h. h) refl
    value-known row (val.Date n) there_value = known-by used.ty refl row (val.Date n) there_value (stands (val.Date n) row there_value) (λ plain h. h) refl
    value-known row (val.Text octets) there_value = known-by used.ty refl row (val.Text octets) there_value (stands (val.Text octets) row there_value) (λ plain h. h) refl

    pub null-known : (row : ℕ) (value : Val) → slice_get values row ≡ Some value → (not_null : Bool) → used.not_null ≡ not_null → KnowsNull cells k row not_null value
    null-known row value there_value true is = tt
    null-known row value there_value false is =
        let group : ℕ = row / 8 in
        let within : row < one.rows = row-inside row value there_value in
        let size : nulls_size used.not_null one.rows ≡ (one.rows + 7) / 8 = ap (λ (b : Bool). nulls_size b one.rows) is in
        let inside : group < nulls_size used.not_null one.rows = omega (arith, size, within) in
        let inside' : group < nulls_size used.not_null (length values) = subst (λ (n : ℕ). group < nulls_size used.not_null n) holds.rows_are inside in
        let test : nat_lt group (nulls_size used.not_null (length values)) ≡ true = lt-ltb group (nulls_size used.not_null (length values)) inside' in
        let each : (if null_bit memory one.nulls row == 1 then val.Null else stored_at memory used.ty one row) ≡ value =
        ap (λ (b : Bool). if is_null_at memory b one row then val.Null else stored_at memory used.ty one row) (sym is) ∙ holds.each row value there_value in (
          null_octet values (8 * group),
          cell-at 2 group 1 (omega arith) ∙ rw test refl,
          ap (λ (octet : ℕ). octet / 2 ^ (row % 8) % 2) (sym (null-octet is group inside))
              ∙ bit_is (null_bit memory one.nulls row) (omega arith) (stored_at memory used.ty one row) value (stored-flag memory used.ty one row) each,
        )

  -- ---- the first page
  entry-there : (k : ℕ) (used : Used) (offset : ℕ) (v : Value) → slice_get layout.columns k ≡ Some used → entry_word k used (length (rows_of tables used.table)) offset ≡ Some v →
      (offset + 4 ≤ 16) × Means w v (number_at memory (descriptor + entry_offset k + offset) 4)
  entry-there k used offset v found is =
      let one = column-there k used found in
      let entry : HasEntry memory (descriptor + entry_offset k) used one.0 = ready.fresh.entries k used one.0 found one.1 in
      let areas' : HasParts (column_areas layout.columns placed) k used one.0 = parts k used one.0 found one.1 in
      let rows : one.0.rows ≡ length (rows_of tables used.table) = (ready.columns k used one.0 found one.1).holds.rows_are ∙ length-map (rows_of tables used.table) _ in
      let address : (part start size : ℕ) → area_of w (Column part) ≡ Some (record { start = start; size = size }) → Means w (Address (Column part) 0) start =
      λ part start size there. (record { start = start; size = size }, there, omega arith, omega arith) in
      ⊎_elim
      (λ values.
      let zeroth = eqb-true offset 0 values.0 in
      let at : descriptor + entry_offset k + offset ≡ descriptor + entry_offset k = omega (arith, zeroth) in (
        omega (arith, zeroth),
        subst (λ (x : Value). Means w x (number_at memory (descriptor + entry_offset k + offset) 4)) (same_Some (Address (Column (3 * k)) 0) v values.1)
            (subst (λ (n : ℕ). Means w (Address (Column (3 * k)) 0) n) (sym (ap (λ (i : ℕ). number_at memory i 4) at ∙ entry.values)) (address (3 * k) one.0.values _ areas'.values)),
      ))
      (λ further. ⊎_elim
      (λ nulls.
      let fourth = eqb-true offset 4 nulls.0 in
      let at : descriptor + entry_offset k + offset ≡ descriptor + entry_offset k + 4 = omega (arith, fourth) in (
        omega (arith, fourth),
        subst (λ (x : Value). Means w x (number_at memory (descriptor + entry_offset k + offset) 4)) (same_Some _ v nulls.1)
            (either-means w used.not_null (Address (Column (3 * k + 2)) 0) (number_at memory (descriptor + entry_offset k + offset) 4) one.0.nulls
            (ap (λ (i : ℕ). number_at memory i 4) at ∙ entry.nulls) (λ may. address (3 * k + 2) one.0.nulls _ areas'.nulls)),
      ))
      (λ rest. ⊎_elim
      (λ octets.
      let eighth = eqb-true offset 8 octets.0 in
      let at : descriptor + entry_offset k + offset ≡ descriptor + entry_offset k + 8 = omega (arith, eighth) in (
        omega (arith, eighth),
        subst (λ (x : Value). Means w x (number_at memory (descriptor + entry_offset k + offset) 4)) (same_Some _ v octets.1)
            (other-means w (is_text used.ty) (Address (Column (3 * k + 1)) 0) (number_at memory (descriptor + entry_offset k + offset) 4) one.0.octets
            (ap (λ (i : ℕ). number_at memory i 4) at ∙ entry.octets) (λ text. address (3 * k + 1) one.0.octets _ areas'.octets)),
      ))
      (λ last.
      let both = if-there (offset == 12) _ v last.1 in
      let twelfth = eqb-true offset 12 both.0 in
      let at : descriptor + entry_offset k + offset ≡ descriptor + entry_offset k + 12 = omega (arith, twelfth) in (
        omega (arith, twelfth),
        subst (λ (x : Value). Means w x (number_at memory (descriptor + entry_offset k + offset) 4)) (same_Some (Number (length (rows_of tables used.table))) v both.1)
            (ap (λ (i : ℕ). number_at memory i 4) at ∙ entry.rows_are ∙ rows),
      ))
      (chosen (offset == 8) (Some (if is_text used.ty then Address (Column (3 * k + 1)) 0 else Number 0)) _ v rest.1))
      (chosen (offset == 4) (Some (if used.not_null then Number 0 else Address (Column (3 * k + 2)) 0)) _ v further.1))
      (chosen (offset == 0) (Some (Address (Column (3 * k)) 0)) _ v is)

  entry-within : descriptor_size layout ≤ page → (k : ℕ) (used : Used) → slice_get layout.columns k ≡ Some used → entry_offset k + 16 ≤ page
  entry-within small k used found =
      let inside = slice_get_within layout.columns k used found in
      omega (arith, inside, small)

  word-there : descriptor_size layout ≤ page → (offset : ℕ) (v : Value) → descriptor_word layout tables offset ≡ Some v → (offset + 4 ≤ page) × Means w v (number_at memory (descriptor + offset) 4)
  word-there small offset v is = ⊎_elim
      (λ free.
      let zeroth = eqb-true offset 0 free.0 in
      let at : descriptor + offset ≡ descriptor = omega (arith, zeroth) in (
        omega (arith, zeroth),
        subst (λ (x : Value). Means w x (number_at memory (descriptor + offset) 4)) (same_Some (Address (Own 0) (descriptor_size layout)) v free.1)
            (first_page, refl, small, ap (λ (i : ℕ). number_at memory i 4) at ∙ ready.fresh.free),
      ))
      (λ further. ⊎_elim
      (λ end.
      let fourth = eqb-true offset 4 end.0 in
      let at : descriptor + offset ≡ descriptor + 4 = omega (arith, fourth) in (
        omega (arith, fourth),
        subst (λ (x : Value). Means w x (number_at memory (descriptor + offset) 4)) (same_Some (Address (Own 0) page) v end.1)
            (first_page, refl, omega arith, ap (λ (i : ℕ). number_at memory i 4) at ∙ ready.fresh.page_end),
      ))
      (λ rest. ⊎_elim
      (λ none. absurd (none-some v none.1))
      (λ entry.
      let behind : 64 ≤ offset = ltb-false offset 64 entry.0 in
      let found = given-there (λ (used : Used). entry_word ((offset - 64) / 16) used (length (rows_of tables used.table)) ((offset - 64) % 16)) (slice_get layout.columns ((offset - 64) / 16)) v entry.1 in
      let at : descriptor + entry_offset ((offset - 64) / 16) + (offset - 64) % 16 ≡ descriptor + offset = omega (arith, behind) in
      let there = entry-there ((offset - 64) / 16) found.0 ((offset - 64) % 16) v found.1 found.2 in
      let inside = entry-within small ((offset - 64) / 16) found.0 found.1 in
      (omega (arith, behind, there.0, inside), subst (λ (i : ℕ). Means w v (number_at memory i 4)) at there.1))
      (chosen (nat_lt offset 64) None _ v rest.1))
      (chosen (offset == 4) (Some (Address (Own 0) page)) _ v further.1))
      (chosen (offset == 0) (Some (Address (Own 0) (descriptor_size layout))) _ v is)

  zeros-there : (offset width : ℕ) → ((k : ℕ) → offset ≤ k → k < offset + width → slice_index memory (descriptor + k) ≡ 0) → number_at memory (descriptor + offset) width ≡ 0
  zeros-there offset width zeros = number-zero memory (descriptor + offset) width (λ k low high.
      let at : descriptor + (k - descriptor) ≡ k = omega arith in
      subst (λ (i : ℕ). slice_index memory i ≡ 0) at (zeros (k - descriptor) (omega arith) (omega arith)))

  page-there : descriptor_size layout ≤ page → (offset width : ℕ) (v : Value) → page_cell layout tables offset width ≡ Some v → (offset + width ≤ page) × Means w v (number_at memory (descriptor + offset) width)
  page-there small offset width v known = ⊎_elim
      (λ word.
      let both = if-there (width == 4) (descriptor_word layout tables offset) v word in
      let wide : 4 ≡ width = sym (eqb-true width 4 both.0) in
      let there = word-there small offset v both.1 in
      (omega (arith, there.0, wide), subst (λ (n : ℕ). Means w v (number_at memory (descriptor + offset) n)) wide there.1))
      (λ rest. ⊎_elim
      (λ one.
      let both = if-there (width == 1) (literal_octet layout offset) v one in
      let wide : 1 ≡ width = sym (eqb-true width 1 both.0) in
      ⊎_elim
      (λ none. absurd (none-some v none.1))
      (λ octet.
      let behind : entry_offset (length layout.columns) ≤ offset = ltb-false offset (entry_offset (length layout.columns)) octet.0 in
      let k : ℕ = offset - entry_offset (length layout.columns) in
      let found = map-there Number (slice_get layout.literals k) v octet.1 in
      let inside : k < length layout.literals = slice_get_within layout.literals k found.0 found.1 in
      let at : descriptor + entry_offset (length layout.columns) + k ≡ descriptor + offset = omega (arith, behind) in (
        omega (arith, behind, inside, small, wide),
        subst (λ (n : ℕ). Means w v (number_at memory (descriptor + offset) n)) wide
            (subst (λ (x : Value). Means w x (number_at memory (descriptor + offset) 1)) found.2
            (number-one memory (descriptor + offset) ∙ ap (λ (i : ℕ). slice_index memory i) (sym at) ∙ ready.fresh.literals k found.0 found.1)),
      ))
      (chosen (nat_lt offset (entry_offset (length layout.columns))) None _ v both.1))
      (λ none.
      let both = if-there (are_zeros layout offset width) (Some (Number 0)) v none in
      let is : number_at memory (descriptor + offset) width ≡ 0 → Means w v (number_at memory (descriptor + offset) width) =
      λ zero. subst (λ (x : Value). Means w x (number_at memory (descriptor + offset) width)) (same_Some (Number 0) v both.1) zero in
      ⊎_elim
      (λ head.
      let tests = and_parts (nat_le 8 offset) (nat_le (offset + width) 64) head in
      let low : 8 ≤ offset = leb-true 8 offset tests.0 in
      let high : offset + width ≤ 64 = leb-true (offset + width) 64 tests.1 in
      (omega (arith, high), is (zeros-there offset width (λ k from to. ready.fresh.no_results k (omega (arith, low, from)) (omega (arith, high, to))))))
      (λ behind.
      let tests = and_parts (nat_le (entry_offset (length layout.columns) + length layout.literals) offset) (nat_le (offset + width) page) behind in
      let low : entry_offset (length layout.columns) + length layout.literals ≤ offset = leb-true _ offset tests.0 in
      let high : offset + width ≤ page = leb-true (offset + width) page tests.1 in
      (high, is (zeros-there offset width (λ k from to. ready.fresh.zeros k (omega (arith, low, from)) (omega (arith, high, to))))))
      (or_cases (nat_le 8 offset && nat_le (offset + width) 64) (nat_le (entry_offset (length layout.columns) + length layout.literals) offset && nat_le (offset + width) page) both.0))
      (else-there (if width == 1 then literal_octet layout offset else None) _ v rest))
      (else-there (if width == 4 then descriptor_word layout tables offset else None) _ v known)

  -- ---- so a memory that is ready stands for the state, where the descriptor fits the page
  cell-holds : descriptor_size layout ≤ page → (p : Part) (offset width : ℕ) (v : Value) → cells p offset width ≡ Some v → Holds w memory p offset width v
  cell-holds small (Column part) offset width v known =
      let there = given-there (λ (used : Used). column_cell (part % 3) used (values_of tables used) offset width) (slice_get layout.columns (part / 3)) v known in
      let one = column-there (part / 3) there.0 there.1 in
      let at : 3 * (part / 3) + part % 3 ≡ part = omega arith in
      subst (λ (n : ℕ). Holds w memory (Column n) offset width v) at (part-held (part / 3) there.0 one.0 there.1 one.1 (part % 3) (omega arith) offset width v there.2)
  cell-holds small (Own zero) offset width v known =
      let there = page-there small offset width v known in
      record { area = first_page; is = refl; inside = there.0; means = there.1 }
  cell-holds small (Own (suc k)) offset width v known = absurd (none-some v known)

  pub sizes-there : map (λ (a : Area). a.size) (column_areas layout.columns placed) ≡ sizes_of tables layout.columns
  sizes-there = sizes-are tables layout.columns placed ready.many (λ k used one found there.
      let column' = ready.columns k used one found there in (column'.holds.rows_are, column'.holds.size_is))

  pub ready-stands : descriptor_size layout ≤ page → (locals : List Value) → StandsFor w (first_state layout tables limit locals) memory
  ready-stands small locals =
      let room = ready.room in
      let inside = ready.inside in
      record {
        fits = record {
          columns = sizes-there;
          own = refl;
          held = refl;
          limit = refl;
          refused = refl;
          positive = λ p a is. let bounds = part-bounds p a is in omega (arith, bounds.0);
          apart = parts-apart;
        };
        whole = ready.whole;
        room = omega (arith, room);
        some = omega (arith, inside);
        octets = ready.octets;
        inside = λ p a is. (part-bounds p a is).1;
        cells = cell-holds small;
      }

  -- ---- what is known of columns
  pub values-known : (k row : ℕ) (used : Used) (value : Val) → slice_get layout.columns k ≡ Some used →
      slice_get (column_values (rows_of tables used.table) used.column) row ≡ Some value → KnowsValue cells k used.ty row value
  values-known k row used value found found_value =
      let one = column-there k used found in
      value-known k used one.0 found one.1 row value found_value

  pub nulls-known : (k row : ℕ) (used : Used) (value : Val) → slice_get layout.columns k ≡ Some used →
      slice_get (column_values (rows_of tables used.table) used.column) row ≡ Some value → KnowsNull cells k row used.not_null value
  nulls-known k row used value found found_value =
      let one = column-there k used found in
      null-known k used one.0 found one.1 row value found_value used.not_null refl

  -- ---- what is known of the descriptor
  word-known : (k offset : ℕ) (used : Used) (v : Value) → offset < 16 → slice_get layout.columns k ≡ Some used → entry_word k used (length (rows_of tables used.table)) offset ≡ Some v →
      cells (Own 0) (entry_offset k + offset) 4 ≡ Some v
  word-known k offset used v within found is =
      let zeroth : (entry_offset k + offset == 0) ≡ false = ne_eqb (entry_offset k + offset) 0 (λ e. omega (arith, e)) in
      let fourth : (entry_offset k + offset == 4) ≡ false = ne_eqb (entry_offset k + offset) 4 (λ e. omega (arith, e)) in
      let behind : nat_lt (entry_offset k + offset) 64 ≡ false = le-ltb (entry_offset k + offset) 64 (omega arith) in
      let index : (entry_offset k + offset - 64) / 16 ≡ k = omega (arith, within) in
      let rest : (entry_offset k + offset - 64) % 16 ≡ offset = omega (arith, within) in
      rw (zeroth, fourth, behind, index, rest, found, is) refl

  pub entries-known : (k : ℕ) (used : Used) → slice_get layout.columns k ≡ Some used → KnowsEntry cells k used (length (rows_of tables used.table))
  entries-known k used found =
      let first : entry_offset k + 0 ≡ entry_offset k = omega arith in (
        subst (λ (i : ℕ). cells (Own 0) i 4 ≡ Some (Address (Column (3 * k)) 0)) first (word-known k 0 used _ (omega arith) found refl),
        word-known k 4 used _ (omega arith) found refl,
        word-known k 8 used _ (omega arith) found refl,
        word-known k 12 used _ (omega arith) found refl,
      )

  pub head-known : KnowsHead cells layout
  head-known = (refl, refl, refl, refl, refl)

  pub literals-known : (k octet : ℕ) → slice_get layout.literals k ≡ Some octet → cells (Own 0) (entry_offset (length layout.columns) + k) 1 ≡ Some (Number octet)
  literals-known k octet found =
      let behind : nat_lt (entry_offset (length layout.columns) + k) (entry_offset (length layout.columns)) ≡ false = le-ltb (entry_offset (length layout.columns) + k) (entry_offset (length layout.columns)) (omega arith) in
      let index : entry_offset (length layout.columns) + k - entry_offset (length layout.columns) ≡ k = omega arith in
      rw (behind, index, found) refl

  pub zeros-known : (offset width : ℕ) → descriptor_size layout ≤ offset → offset + width ≤ page → cells (Own 0) offset width ≡ Some (Number 0)
  zeros-known offset width behind within =
      let past : entry_offset (length layout.columns) + length layout.literals ≤ offset = omega (arith, behind) in
      let zeroth : (offset == 0) ≡ false = ne_eqb offset 0 (λ e. omega (arith, e, past)) in
      let fourth : (offset == 4) ≡ false = ne_eqb offset 4 (λ e. omega (arith, e, past)) in
      let head : nat_lt offset 64 ≡ false = le-ltb offset 64 (omega (arith, past)) in
      let no_entry : slice_get layout.columns ((offset - 64) / 16) ≡ None = slice_get_past layout.columns ((offset - 64) / 16) (omega (arith, past)) in
      let no_word : descriptor_word layout tables offset ≡ None = rw (zeroth, fourth, head, no_entry) refl in
      let no_octet : literal_octet layout offset ≡ None = by_test (nat_lt offset (entry_offset (length layout.columns)))
      (ap (option_map Number) (slice_get_past layout.literals (offset - entry_offset (length layout.columns)) (omega (arith, past)))) in
      let zeros : are_zeros layout offset width ≡ true = or-right (nat_le 8 offset && nat_le (offset + width) 64) _
      (and_from _ _ (le-leb (entry_offset (length layout.columns) + length layout.literals) offset past) (le-leb (offset + width) page within)) in
      rw (none-if (width == 4) (descriptor_word layout tables offset) no_word, none-if (width == 1) (literal_octet layout offset) no_octet, zeros) refl
    where
      by_test : (b : Bool) {o : Option Value} → o ≡ None → (if b then None else o) ≡ None
      by_test true is = refl
      by_test false is = is

      none-if : (b : Bool) (o : Option Value) → o ≡ None → (if b then o else None) ≡ None
      none-if true o is = is
      none-if false o is = refl

      or-right : (a b : Bool) → b ≡ true → (a || b) ≡ true
      or-right true b is = refl
      or-right false b is = is
