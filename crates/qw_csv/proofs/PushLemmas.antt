-- A record's values, pushed column by column behind those of the rows before.
use Rattle.std.proofs.Common.{◌≡◌, ◌≤◌, ◌<◌, ◌+◌, ◌∙◌, Bool, true, false, ℕ, zero, suc, List, [], ◌∷◌, ◌++◌, length, map, take, get_or, refl, sym, ap, add-one, arith, length-append, Option, Some, None, subst}
use Rattle.std.specs.Prelude.{slice_get, slice_index_or, slice_set, IsUtf8}
use Rattle.std.specs.List.{AllByRecursion}
use Rattle.std.specs.Str.{bytes_eq, chars}
use Rattle.qw_types.specs.declared.schema.Column.{Column}
use Rattle.qw_types.specs.declared.schema.ColumnType.{ColumnType}
use Rattle.qw_types.specs.declared.value.Val.{Val}
use Rattle.qw_types.specs.declared.value.Val.TheVariants as val
use Rattle.qw_types.specs.declared.value.Val.TheVariants.{Null}
use Rattle.qw_types.specs.declared.value.Ty.{Ty}
use Rattle.qw_types.specs.declared.value.Ty.TheVariants as ty
use Rattle.qw_types.specs.Value.{IsOfTypeOrNull, IsSized}
use Rattle.qw_types.specs.Contents.{column_type}
use Rattle.qw_csv.specs.Field.{IsEmptyFieldOf, IsFieldFault, IsFieldOf, IsMarkedFieldOf, IsTypedFieldOf}
use Rattle.qw_csv.specs.Loading.{IsFirstFieldFault, IsRecordOf}
use Rattle.qw_csv.specs.declared.cell.CellFault.{CellFault}
use Rattle.qw_csv.specs.declared.storage.Values.{Values}
use Rattle.qw_csv.specs.Inner.Rows.{AreAllKept, row_in, rows_in}
use Rattle.qw_csv.specs.Inner.Storage.{AreKept, values_in}
use Rattle.qw_csv.proofs.RowLemmas.{index_front, index_last}

-- a value behind those of one column
pub record One (null : Option (List ℕ)) (len : ℕ) (c : Column) (field : List ℕ) (before after : Values) (value : Val) : Type 0 where
  pub of : IsFieldOf null c field value
  pub kept : AreKept (column_type c) after
  pub pushed : values_in after ≡ values_in before ++ value ∷ []
  pub long : length (values_in before) ≡ len

-- the first k columns have one value more, the others are as they were
abbrev pub Pushed : (null : Option (List ℕ)) → (k len : ℕ) → List Column → List (List ℕ) → (before after : List Values) → List Val → Type 0
Pushed null zero len columns fields before after [] = (after ≡ before) × AreAllKept len (map column_type columns) before
Pushed null (suc k) len (c ∷ columns) (field ∷ fields) (b ∷ before) (a ∷ after) (value ∷ more) =
    One null len c field b a value × Pushed null k len columns fields before after more
Pushed null _ _ _ _ _ _ _ = ⊥

-- the column that comes next
pub record Next (len : ℕ) (c : Column) (after : List Values) (k : ℕ) : Type 0 where
  pub kept : Values
  pub there : slice_get after k ≡ Some kept
  pub valid : AreKept (column_type c) kept
  pub long : length (values_in kept) ≡ len

pub next_there : (null : Option (List ℕ)) (k len : ℕ) (columns : List Column) (fields : List (List ℕ)) (before after : List Values) (more : List Val) (c : Column)
    → Pushed null k len columns fields before after more → slice_get columns k ≡ Some c → Next len c after k
next_there null zero len [] fields before after [] c h is = cc is
next_there null zero len (d ∷ columns) fields [] after [] c h is = absurd h.1
next_there null zero len (d ∷ columns) fields (b ∷ before) after [] c h is =
    let e : d ≡ c = cc is in
    rw h.0 (record { kept = b; there = refl; valid = subst (λ (x : Column). AreKept (column_type x) b) e h.1.0; long = h.1.1 })
next_there null (suc k) len (d ∷ columns) (f ∷ fields) (b ∷ before) (a ∷ after) (v ∷ more) c h is =
    let n = next_there null k len columns fields before after more c h.1 is in record { kept = n.kept; there = n.there; valid = n.valid; long = n.long }
next_there null zero len [] fields before after (v ∷ more) c h is = elim h [ ]
next_there null zero len (d ∷ columns) fields [] after (v ∷ more) c h is = elim h [ ]
next_there null zero len (d ∷ columns) fields (b ∷ before) after (v ∷ more) c h is = elim h [ ]
next_there null (suc k) len [] fields before after more c h is = elim h [ ]
next_there null (suc k) len (d ∷ columns) [] before after more c h is = elim h [ ]
next_there null (suc k) len (d ∷ columns) (f ∷ fields) [] after more c h is = elim h [ ]
next_there null (suc k) len (d ∷ columns) (f ∷ fields) (b ∷ before) [] more c h is = elim h [ ]
next_there null (suc k) len (d ∷ columns) (f ∷ fields) (b ∷ before) (a ∷ after) [] c h is = elim h [ ]

-- and its value
pub pushed_more : (null : Option (List ℕ)) (k len : ℕ) (columns : List Column) (fields : List (List ℕ)) (before after : List Values) (more : List Val) (c : Column) (kept new : Values) (value : Val)
    → Pushed null k len columns fields before after more → k < length fields → slice_get columns k ≡ Some c → slice_get after k ≡ Some kept → length (values_in kept) ≡ len
    → IsFieldOf null c (get_or fields k []) value → AreKept (column_type c) new → values_in new ≡ values_in kept ++ value ∷ []
    → Pushed null (suc k) len columns fields before (slice_set after k new) (more ++ value ∷ [])
pushed_more null zero len [] fields before after [] c kept new value h lt is there long of valid pushed = cc is
pushed_more null zero len (d ∷ columns) [] before after [] c kept new value h lt is there long of valid pushed = absurd (omega arith)
pushed_more null zero len (d ∷ columns) (f ∷ fields) [] after [] c kept new value h lt is there long of valid pushed = absurd h.1
pushed_more null zero len (d ∷ columns) (f ∷ fields) (b ∷ before) [] [] c kept new value h lt is there long of valid pushed = cc there
pushed_more null zero len (d ∷ columns) (f ∷ fields) (b ∷ before) (a ∷ after) [] c kept new value h lt is there long of valid pushed =
    let e : c ≡ d = cc is in
    let same : b ≡ kept = cc (h.0, there) in
    let rest : after ≡ before = cc h.0 in
    (record { of = rw (← e) of; kept = rw (← e) valid; pushed = rw same pushed; long = h.1.1 }, (rest, h.1.2))
pushed_more null (suc k) len (d ∷ columns) (f ∷ fields) (b ∷ before) (a ∷ after) (v ∷ more) c kept new value h lt is there long of valid pushed =
    (h.0, pushed_more null k len columns fields before after more c kept new value h.1 (omega arith) is there long of valid pushed)
pushed_more null zero len [] fields before after (v ∷ more) c kept new value h lt is there long of valid pushed = elim h [ ]
pushed_more null zero len (d ∷ columns) [] before after (v ∷ more) c kept new value h lt is there long of valid pushed = elim h [ ]
pushed_more null zero len (d ∷ columns) (f ∷ fields) [] after (v ∷ more) c kept new value h lt is there long of valid pushed = elim h [ ]
pushed_more null zero len (d ∷ columns) (f ∷ fields) (b ∷ before) [] (v ∷ more) c kept new value h lt is there long of valid pushed = elim h [ ]
pushed_more null zero len (d ∷ columns) (f ∷ fields) (b ∷ before) (a ∷ after) (v ∷ more) c kept new value h lt is there long of valid pushed = elim h [ ]
pushed_more null (suc k) len [] fields before after more c kept new value h lt is there long of valid pushed = elim h [ ]
pushed_more null (suc k) len (d ∷ columns) [] before after more c kept new value h lt is there long of valid pushed = elim h [ ]
pushed_more null (suc k) len (d ∷ columns) (f ∷ fields) [] after more c kept new value h lt is there long of valid pushed = elim h [ ]
pushed_more null (suc k) len (d ∷ columns) (f ∷ fields) (b ∷ before) [] more c kept new value h lt is there long of valid pushed = elim h [ ]
pushed_more null (suc k) len (d ∷ columns) (f ∷ fields) (b ∷ before) (a ∷ after) [] c kept new value h lt is there long of valid pushed = elim h [ ]

-- and the value of its field
pub pushed_field : (null : Option (List ℕ)) (k len : ℕ) (columns : List Column) (fields : List (List ℕ)) (before after : List Values) (more : List Val) (c : Column) (kept new : Values) (field : List ℕ)
    → Pushed null k len columns fields before after more → k < length fields → slice_get columns k ≡ Some c → slice_get after k ≡ Some kept → length (values_in kept) ≡ len
    → field ≡ get_or fields k [] → ((value : Val) × IsFieldOf null c field value × AreKept (column_type c) new × (values_in new ≡ values_in kept ++ value ∷ []))
    → (all : List Val) × Pushed null (suc k) len columns fields before (slice_set after k new) all
pushed_field null k len columns fields before after more c kept new field h lt is there long same (value, of, valid, put) =
    (more ++ value ∷ [], pushed_more null k len columns fields before after more c kept new value h lt is there long (rw same at of) valid put)

-- the first field that is at fault, after some that stand for values
pub fails_first : (null : Option (List ℕ)) (k len : ℕ) (columns : List Column) (fields : List (List ℕ)) (before after : List Values) (more : List Val) (c : Column) (why : CellFault)
    → Pushed null k len columns fields before after more → k < length fields → slice_get columns k ≡ Some c → IsFieldFault null c (get_or fields k []) why → IsFirstFieldFault null columns fields k why
fails_first null zero len [] fields before after more c why h lt is fault = cc is
fails_first null zero len (d ∷ columns) [] before after more c why h lt is fault = absurd (omega arith)
fails_first null zero len (d ∷ columns) (f ∷ fields) before after more c why h lt is fault = let e : c ≡ d = cc is in rw (← e) fault
fails_first null (suc k) len (d ∷ columns) (f ∷ fields) (b ∷ before) (a ∷ after) (v ∷ more) c why h lt is fault =
    (v, h.0.of, fails_first null k len columns fields before after more c why h.1 (omega arith) is fault)
fails_first null (suc k) len [] fields before after more c why h lt is fault = elim h [ ]
fails_first null (suc k) len (d ∷ columns) [] before after more c why h lt is fault = elim h [ ]
fails_first null (suc k) len (d ∷ columns) (f ∷ fields) [] after more c why h lt is fault = elim h [ ]
fails_first null (suc k) len (d ∷ columns) (f ∷ fields) (b ∷ before) [] more c why h lt is fault = elim h [ ]
fails_first null (suc k) len (d ∷ columns) (f ∷ fields) (b ∷ before) (a ∷ after) [] c why h lt is fault = elim h [ ]

-- ---- values of columns

empty_text : IsUtf8 [] × (length (chars []) ≡ 0)
unfolding chars
empty_text = (([], (refl, refl)), refl)

-- a field stands for a value of its column's type
typed_of_type : (type : Ty) (never : Bool) (field : List ℕ) (v : Val) → IsTypedFieldOf type field v → IsOfTypeOrNull type never v
typed_of_type ty.Integer never field (val.Num n) h = h.range
typed_of_type (ty.Decimal p s) never field (val.Num n) h = h.range
typed_of_type ty.Date never field (val.Date n) h = record { year = _; month = _; day = _; there = h.there; packed_is = h.packed_is }
typed_of_type (ty.Varchar l) never field (val.Text t) h = h.1
typed_of_type ty.Integer never field Null h = elim h [ ]
typed_of_type ty.Integer never field (val.Date n) h = elim h [ ]
typed_of_type ty.Integer never field (val.Text t) h = elim h [ ]
typed_of_type (ty.Decimal p s) never field Null h = elim h [ ]
typed_of_type (ty.Decimal p s) never field (val.Date n) h = elim h [ ]
typed_of_type (ty.Decimal p s) never field (val.Text t) h = elim h [ ]
typed_of_type ty.Date never field Null h = elim h [ ]
typed_of_type ty.Date never field (val.Num n) h = elim h [ ]
typed_of_type ty.Date never field (val.Text t) h = elim h [ ]
typed_of_type (ty.Varchar l) never field Null h = elim h [ ]
typed_of_type (ty.Varchar l) never field (val.Num n) h = elim h [ ]
typed_of_type (ty.Varchar l) never field (val.Date n) h = elim h [ ]

empty_of_column : (type : Ty) (never : Bool) (v : Val) → IsEmptyFieldOf type never v → IsOfTypeOrNull type never v
empty_of_column type false val.Null h = refl
empty_of_column (ty.Varchar l) true (val.Text t) h = rw h (record { utf8 = empty_text.0; short = omega (arith, empty_text.1) })
empty_of_column type false (val.Num _) h = elim h [ ]
empty_of_column type false (val.Date _) h = elim h [ ]
empty_of_column type false (val.Text t) h = elim h [ ]
empty_of_column ty.Integer true v h = elim h [ ]
empty_of_column (ty.Decimal _ _) true v h = elim h [ ]
empty_of_column ty.Date true v h = elim h [ ]
empty_of_column (ty.Varchar l) true Null h = elim h [ ]
empty_of_column (ty.Varchar l) true (val.Num _) h = elim h [ ]
empty_of_column (ty.Varchar l) true (val.Date _) h = elim h [ ]

marked_of_column : (marked : Bool) (c : Column) (field : List ℕ) (v : Val) → IsMarkedFieldOf marked c field v → IsOfTypeOrNull c.ty c.not_null v
marked_of_column true c field v h = rw h.1 h.0
marked_of_column false c field v h = typed_of_type c.ty c.not_null field v h

pub field_of_column : (null : Option (List ℕ)) (c : Column) (field : List ℕ) (v : Val) → IsFieldOf null c field v → IsOfTypeOrNull c.ty c.not_null v
field_of_column None c [] v h = empty_of_column c.ty c.not_null v h
field_of_column None c (o ∷ os) v h = typed_of_type c.ty c.not_null (o ∷ os) v h
field_of_column (Some null) c field v h = marked_of_column (bytes_eq field null) c field v h

-- one more column, without values
pub none_more : (columns : List Column) (k : ℕ) (c : Column) (kept : List Values) (new : Values) → slice_get columns k ≡ Some c → AreAllKept 0 (map column_type (take k columns)) kept
    → AreKept (column_type c) new → values_in new ≡ [] → AreAllKept 0 (map column_type (take (suc k) columns)) (kept ++ new ∷ [])
none_more [] k c kept new is all valid none = cc is
none_more (d ∷ columns) zero c [] new is all valid none = let e : c ≡ d = cc is in (rw (← e) valid, ap length none, tt)
none_more (d ∷ columns) zero c (v ∷ kept) new is all valid none = absurd all
none_more (d ∷ columns) (suc k) c [] new is all valid none = absurd all
none_more (d ∷ columns) (suc k) c (v ∷ kept) new is all valid none = (all.0, all.1, none_more columns k c kept new is all.2 valid none)

pub types_more : (columns : List Column) (k : ℕ) (c : Column) → slice_get columns k ≡ Some c → map column_type (take (suc k) columns) ≡ map column_type (take k columns) ++ column_type c ∷ []
types_more [] k c is = cc is
types_more (d ∷ columns) zero c is = cc is
types_more (d ∷ columns) (suc k) c is = cc (types_more columns k c is)

-- the types of columns are of the columns' sizes
pub sized_types : (columns : List Column) → AllByRecursion (λ (c : Column). IsSized c.ty) columns → AllByRecursion (λ (type : ColumnType). IsSized type.ty) (map column_type columns)
sized_types [] sized = tt
sized_types (c ∷ columns) sized = (sized.0, sized_types columns sized.1)

-- ---- all columns

pub record_of : (null : Option (List ℕ)) (k len : ℕ) (columns : List Column) (fields : List (List ℕ)) (before after : List Values) (more : List Val) → k ≡ length columns → length fields ≡ length columns
    → Pushed null k len columns fields before after more → IsRecordOf null columns fields more
record_of null zero len [] [] before after [] same long h = tt
record_of null zero len [] (f ∷ fields) before after [] same long h = absurd (omega (arith, long))
record_of null zero len (d ∷ columns) fields before after more same long h = absurd (omega (arith, same))
record_of null (suc k) len (d ∷ columns) (f ∷ fields) (b ∷ before) (a ∷ after) (v ∷ more) same long h =
    (h.0.of, record_of null k len columns fields before after more (omega (arith, same)) (omega (arith, long)) h.1)
record_of null zero len [] [] before after (v ∷ more) same long h = elim h [ ]
record_of null zero len [] (f ∷ fields) before after (v ∷ more) same long h = elim h [ ]
record_of null (suc k) len [] fields before after more same long h = elim h [ ]
record_of null (suc k) len (d ∷ columns) [] before after more same long h = elim h [ ]
record_of null (suc k) len (d ∷ columns) (f ∷ fields) [] after more same long h = elim h [ ]
record_of null (suc k) len (d ∷ columns) (f ∷ fields) (b ∷ before) [] more same long h = elim h [ ]
record_of null (suc k) len (d ∷ columns) (f ∷ fields) (b ∷ before) (a ∷ after) [] same long h = elim h [ ]

pub kept_more : (null : Option (List ℕ)) (k len : ℕ) (columns : List Column) (fields : List (List ℕ)) (before after : List Values) (more : List Val) → k ≡ length columns
    → Pushed null k len columns fields before after more → AreAllKept (len + 1) (map column_type columns) after
kept_more null zero len [] fields [] [] [] same h = tt
kept_more null zero len [] fields [] (a ∷ after) [] same h = cc h.0
kept_more null zero len [] fields (b ∷ before) after [] same h = absurd h.1
kept_more null zero len (d ∷ columns) fields before after more same h = absurd (omega (arith, same))
kept_more null (suc k) len (d ∷ columns) (f ∷ fields) (b ∷ before) (a ∷ after) (v ∷ more) same h =
    (h.0.kept, rw h.0.pushed (length-append (values_in b) (v ∷ []) ∙ omega (arith, h.0.long)), kept_more null k len columns fields before after more (omega (arith, same)) h.1)
kept_more null zero len [] fields [] [] (v ∷ more) same h = elim h [ ]
kept_more null zero len [] fields [] (a ∷ after) (v ∷ more) same h = elim h [ ]
kept_more null zero len [] fields (b ∷ before) after (v ∷ more) same h = elim h [ ]
kept_more null (suc k) len [] fields before after more same h = elim h [ ]
kept_more null (suc k) len (d ∷ columns) [] before after more same h = elim h [ ]
kept_more null (suc k) len (d ∷ columns) (f ∷ fields) [] after more same h = elim h [ ]
kept_more null (suc k) len (d ∷ columns) (f ∷ fields) (b ∷ before) [] more same h = elim h [ ]
kept_more null (suc k) len (d ∷ columns) (f ∷ fields) (b ∷ before) (a ∷ after) [] same h = elim h [ ]

-- the row that is pushed, and those before
last_row : (null : Option (List ℕ)) (k len : ℕ) (columns : List Column) (fields : List (List ℕ)) (before after : List Values) (more : List Val) → k ≡ length columns
    → Pushed null k len columns fields before after more → row_in len after ≡ more
last_row null zero len [] fields [] [] [] same h = refl
last_row null zero len [] fields [] (a ∷ after) [] same h = cc h.0
last_row null zero len [] fields (b ∷ before) after [] same h = absurd h.1
last_row null zero len (d ∷ columns) fields before after more same h = absurd (omega (arith, same))
last_row null (suc k) len (d ∷ columns) (f ∷ fields) (b ∷ before) (a ∷ after) (v ∷ more) same h =
    let one : slice_index_or (values_in a) len Null ≡ v = rw h.0.pushed (index_last (values_in b) v len (sym h.0.long)) in
    cc (one, last_row null k len columns fields before after more (omega (arith, same)) h.1)
last_row null zero len [] fields [] [] (v ∷ more) same h = elim h [ ]
last_row null zero len [] fields [] (a ∷ after) (v ∷ more) same h = elim h [ ]
last_row null zero len [] fields (b ∷ before) after (v ∷ more) same h = elim h [ ]
last_row null (suc k) len [] fields before after more same h = elim h [ ]
last_row null (suc k) len (d ∷ columns) [] before after more same h = elim h [ ]
last_row null (suc k) len (d ∷ columns) (f ∷ fields) [] after more same h = elim h [ ]
last_row null (suc k) len (d ∷ columns) (f ∷ fields) (b ∷ before) [] more same h = elim h [ ]
last_row null (suc k) len (d ∷ columns) (f ∷ fields) (b ∷ before) (a ∷ after) [] same h = elim h [ ]

earlier_row : (null : Option (List ℕ)) (k len row : ℕ) (columns : List Column) (fields : List (List ℕ)) (before after : List Values) (more : List Val) → k ≡ length columns → row < len
    → Pushed null k len columns fields before after more → row_in row after ≡ row_in row before
earlier_row null zero len row columns fields before after [] same lt h = rw h.0 refl
earlier_row null (suc k) len row (d ∷ columns) (f ∷ fields) (b ∷ before) (a ∷ after) (v ∷ more) same lt h =
    let one : slice_index_or (values_in a) row Null ≡ slice_index_or (values_in b) row Null = rw h.0.pushed (index_front (values_in b) v row (omega (arith, lt, h.0.long))) in
    cc (one, earlier_row null k len row columns fields before after more (omega (arith, same)) lt h.1)
earlier_row null zero len row columns fields before after (v ∷ more) same lt h = elim h [ ]
earlier_row null (suc k) len row [] fields before after more same lt h = elim h [ ]
earlier_row null (suc k) len row (d ∷ columns) [] before after more same lt h = elim h [ ]
earlier_row null (suc k) len row (d ∷ columns) (f ∷ fields) [] after more same lt h = elim h [ ]
earlier_row null (suc k) len row (d ∷ columns) (f ∷ fields) (b ∷ before) [] more same lt h = elim h [ ]
earlier_row null (suc k) len row (d ∷ columns) (f ∷ fields) (b ∷ before) (a ∷ after) [] same lt h = elim h [ ]

earlier_rows : (null : Option (List ℕ)) (k len some : ℕ) (columns : List Column) (fields : List (List ℕ)) (before after : List Values) (more : List Val) → k ≡ length columns → some ≤ len
    → Pushed null k len columns fields before after more → rows_in some after ≡ rows_in some before
unfolding rows_in
earlier_rows null k len zero columns fields before after more same le h = refl
earlier_rows null k len (suc some) columns fields before after more same le h =
    cc (earlier_rows null k len some columns fields before after more same (omega arith) h, earlier_row null k len some columns fields before after more same (omega arith) h)

rows_suc : (null : Option (List ℕ)) (k len : ℕ) (columns : List Column) (fields : List (List ℕ)) (before after : List Values) (more : List Val) → k ≡ length columns
    → Pushed null k len columns fields before after more → rows_in (suc len) after ≡ rows_in len before ++ more ∷ []
unfolding rows_in
rows_suc null k len columns fields before after more same h =
    cc (earlier_rows null k len len columns fields before after more same (omega arith) h, last_row null k len columns fields before after more same h)

pub rows_more : (null : Option (List ℕ)) (k len : ℕ) (columns : List Column) (fields : List (List ℕ)) (before after : List Values) (more : List Val) → k ≡ length columns
    → Pushed null k len columns fields before after more → rows_in (len + 1) after ≡ rows_in len before ++ more ∷ []
rows_more null k len columns fields before after more same h = rw add-one (rows_suc null k len columns fields before after more same h)
