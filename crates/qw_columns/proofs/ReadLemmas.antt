-- What a memory that holds tables has of a row.
use Rattle.std.proofs.Common.{◌≡◌, ◌≤◌, ◌<◌, ◌+◌, ◌/◌, ◌∙◌, refl, sym, ap, subst, ℕ, zero, suc, Bool, true, false, List, [], ◌∷◌, length, take, Option, Some, None, arith, add-one}
use Rattle.std.specs.Prelude.{IsSome, IsUtf8, if◌then◌else◌, slice_get}
use Rattle.std.specs.List.{AllByRecursion, AllZip}
use Rattle.std.specs.Option.{option_and_then, option_map}
use Rattle.std.proofs.lemmas.Option.{slice_get-map, slice_get_within}
use Rattle.std.proofs.lemmas.Str.{IsUtf8-nil}
use Rattle.qw_types.specs.Contents.{AreLoaded, Contents, IsOfColumnType}
use Rattle.qw_types.specs.Value.{IsOfTypeOrNull, text_octets, value_of}
use Rattle.qw_types.specs.declared.schema.ColumnType.{ColumnType}
use Rattle.qw_types.specs.declared.value.Ty.{Ty}
use Rattle.qw_types.specs.declared.value.Ty.TheVariants as ty
use Rattle.qw_types.specs.declared.value.Val.{Val}
use Rattle.qw_types.specs.declared.value.Val.TheVariants as val
use Rattle.qw_map.specs.Columns.{HoldsColumn, column_values, is_null_at, stored_at, text_at, text_offset, value_at}
use Rattle.qw_map.specs.declared.layout.Placed.{Placed}
use Rattle.qw_columns.specs.Inner.Reading.{IsReadable}
use Rattle.qw_columns.specs.Mapped.{IsMapOf, Mapped, at_indices, value_in}
use Rattle.qw_columns.proofs.RoomLemmas.{in_column, length-column_values, text_octets-more, there}
use Rattle.qw_columns.proofs.WriteLemmas.{text_inside}

-- ---- options and lists

some_of : {T : Type 0} (o : Option T) → IsSome o → (x : T) × (o ≡ Some x)
some_of None is = absurd (cc is)
some_of (Some x) is = (x, refl)

and_then_some : {A B : Type 0} (f : A → Option B) (o : Option A) (y : B) → option_and_then f o ≡ Some y → (x : A) × (o ≡ Some x) × (f x ≡ Some y)
and_then_some f None y is = absurd (cc is)
and_then_some f (Some x) y is = (x, refl, is)

map_some : {A B : Type 0} (f : A → B) (o : Option A) (y : B) → option_map f o ≡ Some y → (x : A) × (o ≡ Some x) × (f x ≡ y)
map_some f None y is = absurd (cc is)
map_some f (Some x) y is = (x, refl, cc is)

all_at : {A : Type 0} (P : A → Type 0) (xs : List A) (k : ℕ) (x : A) → AllByRecursion P xs → slice_get xs k ≡ Some x → P x
all_at P [] k x are is = absurd (cc is)
all_at P (y ∷ xs) zero x are is = let e : y ≡ x = cc is in subst P e are.0
all_at P (y ∷ xs) (suc k) x are is = all_at P xs k x are.1 is

-- ---- values and their columns

type_there : (columns : List ColumnType) (row : List Val) (k : ℕ) (value : Val) → AllZip IsOfColumnType columns row → slice_get row k ≡ Some value
    → (type : ColumnType) × (slice_get columns k ≡ Some type)
type_there [] [] k value typed is = absurd (cc is)
type_there [] (v ∷ row) k value typed is = absurd typed
type_there (c ∷ columns) [] k value typed is = absurd typed
type_there (c ∷ columns) (v ∷ row) zero value typed is = (c, refl)
type_there (c ∷ columns) (v ∷ row) (suc k) value typed is = type_there columns row k value typed.1 is

value_there : (columns : List ColumnType) (row : List Val) (k : ℕ) (type : ColumnType) → AllZip IsOfColumnType columns row → slice_get columns k ≡ Some type
    → (value : Val) × (slice_get row k ≡ Some value) × IsOfColumnType type value
value_there [] row k type typed is = absurd (cc is)
value_there (c ∷ columns) [] k type typed is = absurd typed
value_there (c ∷ columns) (v ∷ row) zero type typed is = let e : c ≡ type = cc is in (v, refl, subst (λ (t : ColumnType). IsOfColumnType t v) e typed.0)
value_there (c ∷ columns) (v ∷ row) (suc k) type typed is = value_there columns row k type typed.1 is

-- ---- a row that the map names

-- where a row stands, by the map alone
pub record IsNamed (m : Mapped) (i j row : ℕ) (type : ColumnType) (placed : Placed) : Type 0 where
  pub type_is : at_indices m.columns i j ≡ Some type
  pub placed_is : at_indices m.placed i j ≡ Some placed
  pub within : row < placed.rows

-- what the memory has of it
pub record IsFound (m : Mapped) (memory : List ℕ) (tables : List Contents) (i j row : ℕ) (type : ColumnType) (placed : Placed) : Type 0 where
  pub value : Val
  pub values : List Val
  pub value_is : value_in tables i j row ≡ Some value
  pub typed : IsOfColumnType type value
  pub holds : HoldsColumn memory type.ty type.not_null placed values
  pub there : slice_get values row ≡ Some value

-- a value of tables is named
pub named : (m : Mapped) (memory : List ℕ) (tables : List Contents) (i j row : ℕ) → IsMapOf m memory tables → IsSome (value_in tables i j row)
    → (type : ColumnType) × (placed : Placed) × IsNamed m i j row type placed
named m memory tables i j row is some =
    let value = some_of (value_in tables i j row) some in
    let table = and_then_some (λ (one : Contents). value_of one.rows row j) (slice_get tables i) value.0 value.1 in
    let values = and_then_some (λ (vs : List Val). slice_get vs j) (slice_get table.0.rows row) value.0 table.2 in
    let loaded = all_at AreLoaded tables i table.0 is.loaded table.1 in
    let type = type_there table.0.columns values.0 j value.0 (all_at (AllZip IsOfColumnType table.0.columns) table.0.rows row values.0 loaded.typed values.1) values.2 in
    let in_map = there m.placed i (omega (arith, is.holds.many, slice_get_within tables i table.0 table.1)) in
    let held = is.holds.each i table.0 in_map.0 table.1 in_map.1 in
    let place = there in_map.0 j (omega (arith, held.many, slice_get_within table.0.columns j type.0 type.1)) in
    let column = held.each j type.0 place.0 type.1 place.1 in
    let columns : slice_get m.columns i ≡ Some table.0.columns =
    rw (is.columns) (slice_get-map (λ (one : Contents). one.columns) tables i ∙ ap (option_map (λ (one : Contents). one.columns)) table.1) in (
      type.0,
      place.0,
      record {
        type_is = rw (columns) type.1;
        placed_is = rw (in_map.1) place.1;
        within = omega (arith, column.rows_are, length-column_values table.0.rows j, slice_get_within table.0.rows row values.0 values.1);
      },
    )

-- and what is named is found in any tables that the memory holds by this map
pub found : (m : Mapped) (memory : List ℕ) (tables : List Contents) (i j row : ℕ) (type : ColumnType) (placed : Placed) → IsMapOf m memory tables → IsNamed m i j row type placed
    → IsFound m memory tables i j row type placed
found m memory tables i j row type placed is names =
    let columns = and_then_some (λ (cs : List ColumnType). slice_get cs j) (slice_get m.columns i) type names.type_is in
    let places = and_then_some (λ (ps : List Placed). slice_get ps j) (slice_get m.placed i) placed names.placed_is in
    let mapped : option_map (λ (one : Contents). one.columns) (slice_get tables i) ≡ Some columns.0 =
    sym (slice_get-map (λ (one : Contents). one.columns) tables i) ∙ sym (ap (λ (lists : List (List ColumnType)). slice_get lists i) is.columns) ∙ columns.1 in
    let table = map_some (λ (one : Contents). one.columns) (slice_get tables i) columns.0 mapped in
    let type_in : slice_get table.0.columns j ≡ Some type = rw (table.2) columns.2 in
    let loaded = all_at AreLoaded tables i table.0 is.loaded table.1 in
    let held = is.holds.each i table.0 places.0 table.1 places.1 in
    let column = held.each j type placed type_in places.2 in
    let row_in = there table.0.rows row (omega (arith, column.rows_are, length-column_values table.0.rows j, names.within)) in
    let value = value_there table.0.columns row_in.0 j type (all_at (AllZip IsOfColumnType table.0.columns) table.0.rows row row_in.0 loaded.typed row_in.1) type_in in
    let of_table : value_of table.0.rows row j ≡ Some value.0 = rw (row_in.1) value.1 in
    record {
      value = value.0;
      values = column_values table.0.rows j;
      value_is = ap (option_and_then (λ (one : Contents). value_of one.rows row j)) table.1 ∙ of_table;
      typed = value.2;
      holds = column;
      there = in_column table.0.rows row j value.0 of_table;
    }

-- ---- reading it

-- its null bit lies in the memory
pub bit_inside : (memory : List ℕ) (ty : Ty) (not_null : Bool) (placed : Placed) (values : List Val) (row : ℕ) → HoldsColumn memory ty not_null placed values → row < placed.rows
    → not_null ≡ false → placed.nulls + row / 8 + 1 ≤ length memory
bit_inside memory ty true placed values row holds lt may = absurd (cc may)
bit_inside memory ty false placed values row holds lt may = omega (arith, holds.inside.1.1.0, lt)

-- what was read is the value
pub read_null : (memory : List ℕ) (ty : Ty) (not_null : Bool) (placed : Placed) (row : ℕ) (value : Val) → value_at memory ty not_null placed row ≡ value
    → is_null_at memory not_null placed row ≡ true → value ≡ val.Null
read_null memory ty not_null placed row value is null = sym is ∙ rw null refl

pub read_stored : (memory : List ℕ) (ty : Ty) (not_null : Bool) (placed : Placed) (row : ℕ) (value : Val) → value_at memory ty not_null placed row ≡ value
    → is_null_at memory not_null placed row ≡ false → value ≡ stored_at memory ty placed row
read_stored memory ty not_null placed row value is some = sym is ∙ rw some refl

shown_text : (b : Bool) (stored : Val) (octets : List ℕ) → (if b then val.Null else stored) ≡ val.Text octets → stored ≡ val.Text octets
shown_text true stored octets is = absurd (cc is)
shown_text false stored octets is = is

-- a row's text is UTF-8, also the empty one in the place of a null
text_utf8 : (memory : List ℕ) (limit : ℕ) (not_null : Bool) (placed : Placed) (values : List Val) (row : ℕ) (value : Val) → HoldsColumn memory (ty.Varchar limit) not_null placed values
    → slice_get values row ≡ Some value → IsOfTypeOrNull (ty.Varchar limit) not_null value → IsUtf8 (text_at memory placed row)
text_utf8 memory limit not_null placed values row val.Null holds is of =
    let blank_there = holds.blanks row is in
    let empty : text_at memory placed row ≡ [] = cc blank_there in
    subst IsUtf8 (sym empty) IsUtf8-nil
text_utf8 memory limit not_null placed values row (val.Num n) holds is of = absurd of
text_utf8 memory limit not_null placed values row (val.Date n) holds is of = absurd of
text_utf8 memory limit not_null placed values row (val.Text t) holds is of =
    let stored = shown_text (is_null_at memory not_null placed row) (val.Text (text_at memory placed row)) t (holds.each row (val.Text t) is) in
    let same : text_at memory placed row ≡ t = cc stored in
    subst IsUtf8 (sym same) of.utf8

pub readable : (memory : List ℕ) (ty : Ty) (not_null : Bool) (placed : Placed) (values : List Val) (row : ℕ) (value : Val) → HoldsColumn memory ty not_null placed values
    → slice_get values row ≡ Some value → IsOfTypeOrNull ty not_null value → row < placed.rows → IsReadable memory ty placed row
readable memory ty.Integer not_null placed values row value holds is of lt = omega (arith, holds.inside.0, lt)
readable memory (ty.Decimal precision scale) not_null placed values row value holds is of lt = omega (arith, holds.inside.0, lt)
readable memory ty.Date not_null placed values row value holds is of lt = omega (arith, holds.inside.0, lt)
readable memory (ty.Varchar limit) not_null placed values row value holds is of lt =
    let from = holds.offsets row (omega (arith, lt, holds.rows_are)) in
    let to = rw add-one at (holds.offsets (row + 1) (omega (arith, lt, holds.rows_are))) in
    let next : text_offset memory placed (row + 1) ≡ text_octets (take (suc row) values) = rw add-one to in
    let more = text_octets-more values row value is in
    let all = text_inside values row value is in
    record {
      offsets = omega (arith, holds.inside.0, lt);
      rising = omega (arith, from, next, more);
      inside = omega (arith, next, more, all, holds.size_is, holds.inside.1.0);
      utf8 = text_utf8 memory limit not_null placed values row value holds is of;
    }

-- what the map answers of a value of tables is what names it
pub names_of : (m : Mapped) (memory : List ℕ) (tables : List Contents) (i j row : ℕ) (type : ColumnType) (placed : Placed) → IsMapOf m memory tables → IsSome (value_in tables i j row)
    → at_indices m.columns i j ≡ Some type → at_indices m.placed i j ≡ Some placed → IsNamed m i j row type placed
names_of m memory tables i j row type placed is some of_type of_placed =
    let here = named m memory tables i j row is some in
    let same : here.1 ≡ placed = cc (here.2.placed_is, of_placed) in
    record { type_is = of_type; placed_is = of_placed; within = rw same at here.2.within }
