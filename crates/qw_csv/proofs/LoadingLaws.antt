-- A file stands for one list of rows at most, or has one first fault at most.
use Rattle.std.proofs.Common.{Bool, true, false, List, ℕ, zero, suc, ℤ, ◌≡◌, ◌<◌, ◌≤◌, ◌⊎◌, ◌+◌, ◌∙◌, ◌∷◌, ◌++◌, [], length, inl, inr, refl, sym, ap, arith, Option, Some, None}
use Rattle.csv.specs.Machine.{Read, next_record}
use Rattle.csv.specs.Reading.{AreRecords, Reached, default_config, strip_bom}
use Rattle.csv.specs.declared.parser.State.{State}
use Rattle.csv.specs.declared.parser.State.TheVariants.{StartRecord}
use Rattle.qw_types.specs.declared.schema.Column.{Column}
use Rattle.qw_types.specs.declared.schema.Table.{Table}
use Rattle.qw_types.specs.Limits.{most_rows}
use Rattle.qw_types.specs.declared.value.Ty.{Ty}
use Rattle.qw_types.specs.declared.value.Ty.TheVariants as ty
use Rattle.qw_types.specs.DateText.{ShowsDate}
use Rattle.qw_types.specs.Numeral.{IsNumberFault, IsNumberOf}
use Rattle.qw_types.specs.declared.numeral.FieldFault.{FieldFault}
use Rattle.qw_types.specs.declared.numeral.FieldFault.TheVariants as form
use Rattle.qw_types.specs.declared.value.Val.{Val}
use Rattle.qw_types.specs.declared.value.Val.TheVariants as val
use Rattle.qw_csv.specs.declared.cell.CellFault.{CellFault}
use Rattle.qw_csv.specs.declared.cell.CellFault.TheVariants as cell
use Rattle.std.specs.Str.{bytes_eq}
use Rattle.qw_csv.specs.Field.{IsEmptyFault, IsEmptyFieldOf, IsFieldFault, IsFieldOf, IsMarkedFault, IsMarkedFieldOf, IsTypedFault, IsTypedFieldOf}
use Rattle.qw_csv.specs.declared.loading.LoadFault.{LoadFault}
use Rattle.qw_csv.specs.declared.loading.LoadFault.TheVariants as fault
use Rattle.qw_csv.specs.Loading.{AreAllRecords, AreFirstRecords, AreRecordsOf, Follows, IsFaultOf, IsFirstFault, IsFirstFieldFault, IsHeader, IsPartOf, IsRecordFault, IsRecordOf, Loads}
use Rattle.std.proofs.lemmas.Bool.{false≢true}

-- a field stands for one value
same_day : (field : List ℕ) (n m : ℤ) → ShowsDate field n → ShowsDate field m → n ≡ m
same_day field n m a b = a.packed_is ∙ sym b.packed_is

same_typed : (type : Ty) (field : List ℕ) (v w : Val) → IsTypedFieldOf type field v → IsTypedFieldOf type field w → v ≡ w
same_typed ty.Integer field (val.Num n) (val.Num m) a b = ap val.Num (a.shows.value ∙ sym b.shows.value)
same_typed (ty.Decimal p s) field (val.Num n) (val.Num m) a b = ap val.Num (a.shows.value ∙ sym b.shows.value)
same_typed ty.Date field (val.Date n) (val.Date m) a b = ap val.Date (same_day field n m a b)
same_typed (ty.Varchar l) field (val.Text n) (val.Text m) a b = ap val.Text (a.0 ∙ sym b.0)
same_typed ty.Integer field val.Null w a b = elim a [ ]
same_typed ty.Integer field (val.Num n) val.Null a b = elim b [ ]
same_typed ty.Integer field (val.Num n) (val.Date m) a b = elim b [ ]
same_typed ty.Integer field (val.Num n) (val.Text m) a b = elim b [ ]
same_typed ty.Integer field (val.Date n) w a b = elim a [ ]
same_typed ty.Integer field (val.Text n) w a b = elim a [ ]
same_typed (ty.Decimal p s) field val.Null w a b = elim a [ ]
same_typed (ty.Decimal p s) field (val.Num n) val.Null a b = elim b [ ]
same_typed (ty.Decimal p s) field (val.Num n) (val.Date m) a b = elim b [ ]
same_typed (ty.Decimal p s) field (val.Num n) (val.Text m) a b = elim b [ ]
same_typed (ty.Decimal p s) field (val.Date n) w a b = elim a [ ]
same_typed (ty.Decimal p s) field (val.Text n) w a b = elim a [ ]
same_typed ty.Date field val.Null w a b = elim a [ ]
same_typed ty.Date field (val.Num n) w a b = elim a [ ]
same_typed ty.Date field (val.Date n) val.Null a b = elim b [ ]
same_typed ty.Date field (val.Date n) (val.Num m) a b = elim b [ ]
same_typed ty.Date field (val.Date n) (val.Text m) a b = elim b [ ]
same_typed ty.Date field (val.Text n) w a b = elim a [ ]
same_typed (ty.Varchar l) field val.Null w a b = elim a [ ]
same_typed (ty.Varchar l) field (val.Num n) w a b = elim a [ ]
same_typed (ty.Varchar l) field (val.Date n) w a b = elim a [ ]
same_typed (ty.Varchar l) field (val.Text n) val.Null a b = elim b [ ]
same_typed (ty.Varchar l) field (val.Text n) (val.Num m) a b = elim b [ ]
same_typed (ty.Varchar l) field (val.Text n) (val.Date m) a b = elim b [ ]

same_empty : (type : Ty) (never : Bool) (v w : Val) → IsEmptyFieldOf type never v → IsEmptyFieldOf type never w → v ≡ w
same_empty type false val.Null val.Null a b = refl
same_empty (ty.Varchar l) true (val.Text n) (val.Text m) a b = ap val.Text (a ∙ sym b)
same_empty type false val.Null (val.Num _) a b = elim b [ ]
same_empty type false val.Null (val.Date _) a b = elim b [ ]
same_empty type false val.Null (val.Text m) a b = elim b [ ]
same_empty type false (val.Num _) w a b = elim a [ ]
same_empty type false (val.Date _) w a b = elim a [ ]
same_empty type false (val.Text n) w a b = elim a [ ]
same_empty ty.Integer true v w a b = elim a [ ]
same_empty (ty.Decimal _ _) true v w a b = elim a [ ]
same_empty ty.Date true v w a b = elim a [ ]
same_empty (ty.Varchar l) true val.Null w a b = elim a [ ]
same_empty (ty.Varchar l) true (val.Num _) w a b = elim a [ ]
same_empty (ty.Varchar l) true (val.Date _) w a b = elim a [ ]
same_empty (ty.Varchar l) true (val.Text n) val.Null a b = elim b [ ]
same_empty (ty.Varchar l) true (val.Text n) (val.Num _) a b = elim b [ ]
same_empty (ty.Varchar l) true (val.Text n) (val.Date _) a b = elim b [ ]

same_marked : (marked : Bool) (c : Column) (field : List ℕ) (v w : Val) → IsMarkedFieldOf marked c field v → IsMarkedFieldOf marked c field w → v ≡ w
same_marked true c field v w a b = a.1 ∙ sym b.1
same_marked false c field v w a b = same_typed c.ty field v w a b

same_value : (null : Option (List ℕ)) (c : Column) (field : List ℕ) (v w : Val) → IsFieldOf null c field v → IsFieldOf null c field w → v ≡ w
same_value None c [] v w a b = same_empty c.ty c.not_null v w a b
same_value None c (o ∷ os) v w a b = same_typed c.ty (o ∷ os) v w a b
same_value (Some null) c field v w a b = same_marked (bytes_eq field null) c field v w a b

-- a field that stands for a value isn't at fault
number_or_fault : (type : Ty) (field : List ℕ) (n : ℤ) (why : FieldFault) → IsNumberOf type field n → IsNumberFault type field why → ⊥
number_or_fault type field n form.NotNumber a b = false≢true (sym b ∙ a.shows.form)
number_or_fault type field n form.TooFine a b = false≢true (sym b.1 ∙ a.shows.fine)
number_or_fault type field n form.TooLarge a b = b.1 (rw a.shows.value at a.range)
number_or_fault type field n form.NotDate a b = b

typed_or_fault : (type : Ty) (field : List ℕ) (v : Val) (why : CellFault) → IsTypedFieldOf type field v → IsTypedFault type field why → ⊥
typed_or_fault ty.Integer field (val.Num n) (cell.Form why) a b = number_or_fault ty.Integer field n why a b
typed_or_fault (ty.Decimal p s) field (val.Num n) (cell.Form why) a b = number_or_fault (ty.Decimal p s) field n why a b
typed_or_fault ty.Date field (val.Date n) (cell.Form why) a b = b.1 n a
typed_or_fault (ty.Varchar l) field (val.Text n) cell.NotUtf8 a b = b (rw a.0 at a.1.utf8)
typed_or_fault (ty.Varchar l) field (val.Text n) cell.TextTooLong a b = omega (arith, rw a.0 at a.1.short, b.1)
typed_or_fault ty.Integer field val.Null why a b = elim a [ ]
typed_or_fault ty.Integer field (val.Num n) cell.NullForbidden a b = elim b [ ]
typed_or_fault ty.Integer field (val.Num n) cell.TextTooLong a b = elim b [ ]
typed_or_fault ty.Integer field (val.Num n) cell.NotUtf8 a b = elim b [ ]
typed_or_fault ty.Integer field (val.Date n) why a b = elim a [ ]
typed_or_fault ty.Integer field (val.Text n) why a b = elim a [ ]
typed_or_fault (ty.Decimal p s) field val.Null why a b = elim a [ ]
typed_or_fault (ty.Decimal p s) field (val.Num n) cell.NullForbidden a b = elim b [ ]
typed_or_fault (ty.Decimal p s) field (val.Num n) cell.TextTooLong a b = elim b [ ]
typed_or_fault (ty.Decimal p s) field (val.Num n) cell.NotUtf8 a b = elim b [ ]
typed_or_fault (ty.Decimal p s) field (val.Date n) why a b = elim a [ ]
typed_or_fault (ty.Decimal p s) field (val.Text n) why a b = elim a [ ]
typed_or_fault ty.Date field val.Null why a b = elim a [ ]
typed_or_fault ty.Date field (val.Num n) why a b = elim a [ ]
typed_or_fault ty.Date field (val.Date n) cell.NullForbidden a b = elim b [ ]
typed_or_fault ty.Date field (val.Date n) cell.TextTooLong a b = elim b [ ]
typed_or_fault ty.Date field (val.Date n) cell.NotUtf8 a b = elim b [ ]
typed_or_fault ty.Date field (val.Text n) why a b = elim a [ ]
typed_or_fault (ty.Varchar l) field val.Null why a b = elim a [ ]
typed_or_fault (ty.Varchar l) field (val.Num n) why a b = elim a [ ]
typed_or_fault (ty.Varchar l) field (val.Date n) why a b = elim a [ ]
typed_or_fault (ty.Varchar l) field (val.Text n) (cell.Form why) a b = elim b [ ]
typed_or_fault (ty.Varchar l) field (val.Text n) cell.NullForbidden a b = elim b [ ]

empty_or_fault : (type : Ty) (never : Bool) (v : Val) (why : CellFault) → IsEmptyFieldOf type never v → IsEmptyFault type never why → ⊥
empty_or_fault ty.Integer false val.Null why a b = b
empty_or_fault (ty.Decimal p s) false val.Null why a b = b
empty_or_fault ty.Date false val.Null why a b = b
empty_or_fault (ty.Varchar l) false val.Null why a b = b
empty_or_fault (ty.Varchar l) true (val.Text n) why a b = b
empty_or_fault ty.Integer false (val.Num _) why a b = elim a [ ]
empty_or_fault ty.Integer false (val.Date _) why a b = elim a [ ]
empty_or_fault ty.Integer false (val.Text n) why a b = elim a [ ]
empty_or_fault ty.Integer true v why a b = elim a [ ]
empty_or_fault (ty.Decimal p s) false (val.Num _) why a b = elim a [ ]
empty_or_fault (ty.Decimal p s) false (val.Date _) why a b = elim a [ ]
empty_or_fault (ty.Decimal p s) false (val.Text n) why a b = elim a [ ]
empty_or_fault (ty.Decimal p s) true v why a b = elim a [ ]
empty_or_fault ty.Date false (val.Num _) why a b = elim a [ ]
empty_or_fault ty.Date false (val.Date _) why a b = elim a [ ]
empty_or_fault ty.Date false (val.Text n) why a b = elim a [ ]
empty_or_fault ty.Date true v why a b = elim a [ ]
empty_or_fault (ty.Varchar l) false (val.Num _) why a b = elim a [ ]
empty_or_fault (ty.Varchar l) false (val.Date _) why a b = elim a [ ]
empty_or_fault (ty.Varchar l) false (val.Text n) why a b = elim a [ ]
empty_or_fault (ty.Varchar l) true val.Null why a b = elim a [ ]
empty_or_fault (ty.Varchar l) true (val.Num _) why a b = elim a [ ]
empty_or_fault (ty.Varchar l) true (val.Date _) why a b = elim a [ ]

marked_or_fault : (marked : Bool) (c : Column) (field : List ℕ) (v : Val) (why : CellFault) → IsMarkedFieldOf marked c field v → IsMarkedFault marked c field why → ⊥
marked_or_fault true c field v why a b = false≢true (sym a.0 ∙ b.0)
marked_or_fault false c field v why a b = typed_or_fault c.ty field v why a b

value_or_fault : (null : Option (List ℕ)) (c : Column) (field : List ℕ) (v : Val) (why : CellFault) → IsFieldOf null c field v → IsFieldFault null c field why → ⊥
value_or_fault None c [] v why a b = empty_or_fault c.ty c.not_null v why a b
value_or_fault None c (o ∷ os) v why a b = typed_or_fault c.ty (o ∷ os) v why a b
value_or_fault (Some null) c field v why a b = marked_or_fault (bytes_eq field null) c field v why a b

-- and is at fault in one way
same_number_fault : (type : Ty) (field : List ℕ) (a b : FieldFault) → IsNumberFault type field a → IsNumberFault type field b → a ≡ b
same_number_fault type field form.NotNumber form.NotNumber h k = refl
same_number_fault type field form.NotNumber form.TooFine h k = absurd (false≢true (sym h ∙ k.0))
same_number_fault type field form.NotNumber form.TooLarge h k = absurd (false≢true (sym h ∙ k.0.form))
same_number_fault type field form.TooFine form.NotNumber h k = absurd (false≢true (sym k ∙ h.0))
same_number_fault type field form.TooFine form.TooFine h k = refl
same_number_fault type field form.TooFine form.TooLarge h k = absurd (false≢true (sym h.1 ∙ k.0.fine))
same_number_fault type field form.TooLarge form.NotNumber h k = absurd (false≢true (sym k ∙ h.0.form))
same_number_fault type field form.TooLarge form.TooFine h k = absurd (false≢true (sym k.1 ∙ h.0.fine))
same_number_fault type field form.TooLarge form.TooLarge h k = refl
same_number_fault type field form.NotDate b h k = absurd h
same_number_fault type field a form.NotDate h k = absurd k

same_typed_fault : (type : Ty) (field : List ℕ) (a b : CellFault) → IsTypedFault type field a → IsTypedFault type field b → a ≡ b
same_typed_fault ty.Integer field (cell.Form a) (cell.Form b) h k = ap cell.Form (same_number_fault ty.Integer field a b h k)
same_typed_fault (ty.Decimal p s) field (cell.Form a) (cell.Form b) h k = ap cell.Form (same_number_fault (ty.Decimal p s) field a b h k)
same_typed_fault ty.Date field (cell.Form a) (cell.Form b) h k = ap cell.Form (h.0 ∙ sym k.0)
same_typed_fault (ty.Varchar l) field cell.NotUtf8 cell.NotUtf8 h k = refl
same_typed_fault (ty.Varchar l) field cell.NotUtf8 cell.TextTooLong h k = absurd (h k.0)
same_typed_fault (ty.Varchar l) field cell.TextTooLong cell.NotUtf8 h k = absurd (k h.0)
same_typed_fault (ty.Varchar l) field cell.TextTooLong cell.TextTooLong h k = refl
same_typed_fault ty.Integer field (cell.Form a) cell.NullForbidden h k = elim k [ ]
same_typed_fault ty.Integer field (cell.Form a) cell.TextTooLong h k = elim k [ ]
same_typed_fault ty.Integer field (cell.Form a) cell.NotUtf8 h k = elim k [ ]
same_typed_fault ty.Integer field cell.NullForbidden b h k = elim h [ ]
same_typed_fault ty.Integer field cell.TextTooLong b h k = elim h [ ]
same_typed_fault ty.Integer field cell.NotUtf8 b h k = elim h [ ]
same_typed_fault (ty.Decimal p s) field (cell.Form a) cell.NullForbidden h k = elim k [ ]
same_typed_fault (ty.Decimal p s) field (cell.Form a) cell.TextTooLong h k = elim k [ ]
same_typed_fault (ty.Decimal p s) field (cell.Form a) cell.NotUtf8 h k = elim k [ ]
same_typed_fault (ty.Decimal p s) field cell.NullForbidden b h k = elim h [ ]
same_typed_fault (ty.Decimal p s) field cell.TextTooLong b h k = elim h [ ]
same_typed_fault (ty.Decimal p s) field cell.NotUtf8 b h k = elim h [ ]
same_typed_fault ty.Date field (cell.Form a) cell.NullForbidden h k = elim k [ ]
same_typed_fault ty.Date field (cell.Form a) cell.TextTooLong h k = elim k [ ]
same_typed_fault ty.Date field (cell.Form a) cell.NotUtf8 h k = elim k [ ]
same_typed_fault ty.Date field cell.NullForbidden b h k = elim h [ ]
same_typed_fault ty.Date field cell.TextTooLong b h k = elim h [ ]
same_typed_fault ty.Date field cell.NotUtf8 b h k = elim h [ ]
same_typed_fault (ty.Varchar l) field (cell.Form a) b h k = elim h [ ]
same_typed_fault (ty.Varchar l) field cell.NullForbidden b h k = elim h [ ]
same_typed_fault (ty.Varchar l) field cell.TextTooLong (cell.Form b) h k = elim k [ ]
same_typed_fault (ty.Varchar l) field cell.TextTooLong cell.NullForbidden h k = elim k [ ]
same_typed_fault (ty.Varchar l) field cell.NotUtf8 (cell.Form b) h k = elim k [ ]
same_typed_fault (ty.Varchar l) field cell.NotUtf8 cell.NullForbidden h k = elim k [ ]

same_empty_fault : (type : Ty) (never : Bool) (a b : CellFault) → IsEmptyFault type never a → IsEmptyFault type never b → a ≡ b
same_empty_fault ty.Integer true cell.NullForbidden cell.NullForbidden h k = refl
same_empty_fault (ty.Decimal p s) true cell.NullForbidden cell.NullForbidden h k = refl
same_empty_fault ty.Date true cell.NullForbidden cell.NullForbidden h k = refl
same_empty_fault ty.Integer false a b h k = elim h [ ]
same_empty_fault ty.Integer true (cell.Form _) b h k = elim h [ ]
same_empty_fault ty.Integer true cell.NullForbidden (cell.Form _) h k = elim k [ ]
same_empty_fault ty.Integer true cell.NullForbidden cell.TextTooLong h k = elim k [ ]
same_empty_fault ty.Integer true cell.NullForbidden cell.NotUtf8 h k = elim k [ ]
same_empty_fault ty.Integer true cell.TextTooLong b h k = elim h [ ]
same_empty_fault ty.Integer true cell.NotUtf8 b h k = elim h [ ]
same_empty_fault (ty.Decimal p s) false a b h k = elim h [ ]
same_empty_fault (ty.Decimal p s) true (cell.Form _) b h k = elim h [ ]
same_empty_fault (ty.Decimal p s) true cell.NullForbidden (cell.Form _) h k = elim k [ ]
same_empty_fault (ty.Decimal p s) true cell.NullForbidden cell.TextTooLong h k = elim k [ ]
same_empty_fault (ty.Decimal p s) true cell.NullForbidden cell.NotUtf8 h k = elim k [ ]
same_empty_fault (ty.Decimal p s) true cell.TextTooLong b h k = elim h [ ]
same_empty_fault (ty.Decimal p s) true cell.NotUtf8 b h k = elim h [ ]
same_empty_fault ty.Date false a b h k = elim h [ ]
same_empty_fault ty.Date true (cell.Form _) b h k = elim h [ ]
same_empty_fault ty.Date true cell.NullForbidden (cell.Form _) h k = elim k [ ]
same_empty_fault ty.Date true cell.NullForbidden cell.TextTooLong h k = elim k [ ]
same_empty_fault ty.Date true cell.NullForbidden cell.NotUtf8 h k = elim k [ ]
same_empty_fault ty.Date true cell.TextTooLong b h k = elim h [ ]
same_empty_fault ty.Date true cell.NotUtf8 b h k = elim h [ ]
same_empty_fault (ty.Varchar _) never a b h k = elim h [ ]

same_marked_fault : (marked : Bool) (c : Column) (field : List ℕ) (a b : CellFault) → IsMarkedFault marked c field a → IsMarkedFault marked c field b → a ≡ b
same_marked_fault true c field a b h k = h.1 ∙ sym k.1
same_marked_fault false c field a b h k = same_typed_fault c.ty field a b h k

same_field_fault : (null : Option (List ℕ)) (c : Column) (field : List ℕ) (a b : CellFault) → IsFieldFault null c field a → IsFieldFault null c field b → a ≡ b
same_field_fault None c [] a b h k = same_empty_fault c.ty c.not_null a b h k
same_field_fault None c (o ∷ os) a b h k = same_typed_fault c.ty (o ∷ os) a b h k
same_field_fault (Some null) c field a b h k = same_marked_fault (bytes_eq field null) c field a b h k

-- a record stands for one row
same_row : (null : Option (List ℕ)) (columns : List Column) (fields : List (List ℕ)) (a b : List Val) → IsRecordOf null columns fields a → IsRecordOf null columns fields b → a ≡ b
same_row null [] [] [] [] h k = refl
same_row null [] [] [] (w ∷ ws) h k = absurd k
same_row null [] [] (v ∷ vs) ws h k = absurd h
same_row null [] (f ∷ fs) vs ws h k = absurd h
same_row null (c ∷ cs) [] vs ws h k = absurd h
same_row null (c ∷ cs) (f ∷ fs) [] ws h k = absurd h
same_row null (c ∷ cs) (f ∷ fs) (v ∷ vs) [] h k = absurd k
same_row null (c ∷ cs) (f ∷ fs) (v ∷ vs) (w ∷ ws) h k = cc (same_value null c f v w h.0 k.0, same_row null cs fs vs ws h.1 k.1)

same_rows : (null : Option (List ℕ)) (columns : List Column) (records : List (List (List ℕ))) (a b : List (List Val)) → AreRecordsOf null columns records a → AreRecordsOf null columns records b → a ≡ b
same_rows null columns [] [] [] h k = refl
same_rows null columns [] [] (r ∷ rs) h k = absurd k
same_rows null columns [] (r ∷ rs) qs h k = absurd h
same_rows null columns (x ∷ xs) [] qs h k = absurd h
same_rows null columns (x ∷ xs) (r ∷ rs) [] h k = absurd k
same_rows null columns (x ∷ xs) (r ∷ rs) (q ∷ qs) h k = cc (same_row null columns x r q h.0 k.0, same_rows null columns xs rs qs h.1 k.1)

-- a record that stands for a row has as many fields as there are columns, none of them at fault
length_of : (null : Option (List ℕ)) (columns : List Column) (fields : List (List ℕ)) (row : List Val) → IsRecordOf null columns fields row → length fields ≡ length columns
length_of null [] [] row h = refl
length_of null [] (f ∷ fs) row h = absurd h
length_of null (c ∷ cs) [] row h = absurd h
length_of null (c ∷ cs) (f ∷ fs) [] h = absurd h
length_of null (c ∷ cs) (f ∷ fs) (v ∷ vs) h = cc (length_of null cs fs vs h.1)

sound_fields : (null : Option (List ℕ)) (columns : List Column) (fields : List (List ℕ)) (row : List Val) (index : ℕ) (why : CellFault) → IsRecordOf null columns fields row
    → IsFirstFieldFault null columns fields index why → ⊥
sound_fields null [] fields row index why h k = k
sound_fields null (c ∷ cs) [] row index why h k = k
sound_fields null (c ∷ cs) (f ∷ fs) [] index why h k = h
sound_fields null (c ∷ cs) (f ∷ fs) (v ∷ vs) zero why h k = value_or_fault null c f v why h.0 k
sound_fields null (c ∷ cs) (f ∷ fs) (v ∷ vs) (suc index) why h k = sound_fields null cs fs vs index why h.1 k.2

same_first_fault : (null : Option (List ℕ)) (columns : List Column) (fields : List (List ℕ)) (p q : ℕ) (a b : CellFault) → IsFirstFieldFault null columns fields p a
    → IsFirstFieldFault null columns fields q b → (p ≡ q) × (a ≡ b)
same_first_fault null [] fields p q a b h k = absurd h
same_first_fault null (c ∷ cs) [] p q a b h k = absurd h
same_first_fault null (c ∷ cs) (f ∷ fs) zero zero a b h k = (refl, same_field_fault null c f a b h k)
same_first_fault null (c ∷ cs) (f ∷ fs) zero (suc q) a b h k = absurd (value_or_fault null c f k.0 a k.1 h)
same_first_fault null (c ∷ cs) (f ∷ fs) (suc p) zero a b h k = absurd (value_or_fault null c f h.0 b h.1 k)
same_first_fault null (c ∷ cs) (f ∷ fs) (suc p) (suc q) a b h k = let (e, why) = same_first_fault null cs fs p q a b h.2 k.2 in (ap suc e, why)

-- so a record within the limit that stands for a row isn't at fault
sound_record : (null : Option (List ℕ)) (columns : List Column) (before number : ℕ) (fields : List (List ℕ)) (row : List Val) (e : LoadFault) → before + number ≤ most_rows
    → IsRecordOf null columns fields row → IsRecordFault null columns before number fields e → ⊥
sound_record null columns before number fields row fault.BadHeader few h k = k
sound_record null columns before number fields row (fault.FieldCount r) few h k = k.2 (length_of null columns fields row h)
sound_record null columns before number fields row (fault.Field r p why) few h k = sound_fields null columns fields row p why h k.3
sound_record null columns before number fields row fault.TooManyRows few h k = omega (arith, few, k)
sound_record null columns before number fields row fault.NoMemory few h k = k

-- a record at fault is no later than the one after the limit
fault_number : (null : Option (List ℕ)) (columns : List Column) (before number : ℕ) (fields : List (List ℕ)) (e : LoadFault) → IsRecordFault null columns before number fields e → before + number ≤ most_rows + 1
fault_number null columns before number fields fault.BadHeader k = absurd k
fault_number null columns before number fields (fault.FieldCount r) k = omega (arith, k.0)
fault_number null columns before number fields (fault.Field r p why) k = omega (arith, k.0)
fault_number null columns before number fields fault.TooManyRows k = omega (arith, k)
fault_number null columns before number fields fault.NoMemory k = absurd k

-- and is so in one way
same_record_fault : (null : Option (List ℕ)) (columns : List Column) (before number : ℕ) (fields : List (List ℕ)) (a b : LoadFault)
    → IsRecordFault null columns before number fields a → IsRecordFault null columns before number fields b → a ≡ b
same_record_fault null columns before number fields fault.BadHeader b h k = absurd h
same_record_fault null columns before number fields fault.NoMemory b h k = absurd h
same_record_fault null columns before number fields a fault.BadHeader h k = absurd k
same_record_fault null columns before number fields a fault.NoMemory h k = absurd k
same_record_fault null columns before number fields (fault.FieldCount r) (fault.FieldCount q) h k = ap fault.FieldCount (h.1 ∙ sym k.1)
same_record_fault null columns before number fields (fault.FieldCount r) (fault.Field q c w) h k = absurd (h.2 k.2)
same_record_fault null columns before number fields (fault.FieldCount r) fault.TooManyRows h k = absurd (omega (arith, h.0, k))
same_record_fault null columns before number fields (fault.Field r p v) (fault.FieldCount q) h k = absurd (k.2 h.2)
same_record_fault null columns before number fields (fault.Field r p v) (fault.Field q c w) h k =
    let (index, why) = same_first_fault null columns fields p c v w h.3 k.3 in
    cc (h.1, k.1, index, why)
same_record_fault null columns before number fields (fault.Field r p v) fault.TooManyRows h k = absurd (omega (arith, h.0, k))
same_record_fault null columns before number fields fault.TooManyRows (fault.FieldCount q) h k = absurd (omega (arith, h, k.0))
same_record_fault null columns before number fields fault.TooManyRows (fault.Field q c w) h k = absurd (omega (arith, h, k.0))
same_record_fault null columns before number fields fault.TooManyRows fault.TooManyRows h k = refl

-- one read from one position
same_read : (o : Option Read) (p q : Read) → o ≡ Some p → o ≡ Some q → q ≡ p
same_read o p q h k = cc (h, k)

-- no record is read where the text has ended
ended : (s s2 : State) (xs z : List ℕ) (p : Read) → s ≡ s2 → xs ≡ z → next_record default_config s2 [] [] z ≡ None → next_record default_config s [] [] xs ≡ Some p → ⊥
ended s s2 xs z p es ez none next = cc (rw (es, ez) at next, none)

-- all records of a text are one list
same_records : (s : State) (xs : List ℕ) (a b : List (List (List ℕ))) → AreRecords default_config s xs a → AreRecords default_config s xs b → a ≡ b
unfolding Reached
same_records s xs [] [] h k = refl
same_records s xs [] (y ∷ ys) (s2, z, (es, ez), none) (t, w, (p, next, first, rest), end) = absurd (ended s s2 xs z p es ez none next)
same_records s xs (x ∷ xs') [] (t, w, (p, next, first, rest), end) (s2, z, (es, ez), none) = absurd (ended s s2 xs z p es ez none next)
same_records s xs (x ∷ xs') (y ∷ ys) (s2, z, (p, next, first, rest), end) (t, w, (q, next', first', rest'), end') =
    let e = same_read _ p q next next' in
    cc (first, first', e, same_records p.1 p.2 xs' ys (s2, z, rest, end) (t, w, rw e at rest', end'))

-- the record after the first rows is one of those that stand for later rows
pub record Stands (null : Option (List ℕ)) (columns : List Column) (rows later : List (List Val)) (next : List (List ℕ)) : Type 0 where
  before : length rows < length later
  row : List Val
  stands : IsRecordOf null columns next row

stands_more : (null : Option (List ℕ)) (columns : List Column) (rows later : List (List Val)) (q r : List Val) (next : List (List ℕ)) → Stands null columns rows later next → Stands null columns (q ∷ rows) (r ∷ later) next
stands_more null columns rows later q r next h = record { before = omega (arith, h.before); row = h.row; stands = h.stands }

-- all records stand for rows, so each does
front_of_all : (null : Option (List ℕ)) (columns : List Column) (s s' : State) (xs xs' : List ℕ) (a b : List (List (List ℕ))) (rows later : List (List Val)) (next : List (List ℕ))
    → Reached default_config s xs (a ++ next ∷ []) s' xs' → AreRecordsOf null columns a rows → AreRecords default_config s xs b → AreRecordsOf null columns b later → Stands null columns rows later next
unfolding Reached
front_of_all null columns s s' xs xs' [] [] rows later next (p, read, first, rest) h (s2, z, (es, ez), none) k = absurd (ended s s2 xs z p es ez none read)
front_of_all null columns s s' xs xs' (a ∷ as') [] rows later next (p, read, first, rest) h (s2, z, (es, ez), none) k = absurd (ended s s2 xs z p es ez none read)
front_of_all null columns s s' xs xs' [] (b ∷ bs) rows [] next reached h all k = absurd k
front_of_all null columns s s' xs xs' [] (b ∷ bs) (r ∷ rows) (q ∷ later) next reached h all k = absurd h
front_of_all null columns s s' xs xs' [] (b ∷ bs) [] (q ∷ later) next (p, read, first, rest) h (s2, z, (p', read', first', rest'), none) k =
    record { before = omega arith; row = q; stands = let e : next ≡ b = cc (first, first', same_read _ p p' read read') in rw e k.0 }
front_of_all null columns s s' xs xs' (a ∷ as') (b ∷ bs) [] later next reached h all k = absurd h
front_of_all null columns s s' xs xs' (a ∷ as') (b ∷ bs) (r ∷ rows) [] next reached h all k = absurd k
front_of_all null columns s s' xs xs' (a ∷ as') (b ∷ bs) (r ∷ rows) (q ∷ later) next (p, read, first, rest) h (s2, z, (p', read', first', rest'), none) k =
    let e = same_read _ p p' read read' in
    stands_more null columns rows later r q next
    (front_of_all null columns p.1 s' p.2 xs' as' bs rows later next rest h.1 (s2, z, rw e at rest', none) k.1)

-- two records after first rows of one text are the same one, or one of them stands for a row
fronts : (null : Option (List ℕ)) (columns : List Column) (s s1 s2 : State) (xs z1 z2 : List ℕ) (a b : List (List (List ℕ))) (rows later : List (List Val)) (x y : List (List ℕ))
    → Reached default_config s xs (a ++ x ∷ []) s1 z1 → AreRecordsOf null columns a rows → Reached default_config s xs (b ++ y ∷ []) s2 z2 → AreRecordsOf null columns b later
    → ((length rows ≡ length later) × (x ≡ y)) ⊎ (Stands null columns rows later x ⊎ Stands null columns later rows y)
unfolding Reached
fronts null columns s s1 s2 xs z1 z2 [] [] [] [] x y (p, read, first, rest) h (p', read', first', rest') k = inl (refl, cc (first, first', same_read _ p p' read read'))
fronts null columns s s1 s2 xs z1 z2 [] [] (r ∷ rows) later x y reached h reached' k = absurd h
fronts null columns s s1 s2 xs z1 z2 [] [] [] (q ∷ later) x y reached h reached' k = absurd k
fronts null columns s s1 s2 xs z1 z2 [] (b ∷ bs) rows [] x y reached h reached' k = absurd k
fronts null columns s s1 s2 xs z1 z2 [] (b ∷ bs) (r ∷ rows) (q ∷ later) x y reached h reached' k = absurd h
fronts null columns s s1 s2 xs z1 z2 [] (b ∷ bs) [] (q ∷ later) x y (p, read, first, rest) h (p', read', first', rest') k =
    inr (inl (record { before = omega arith; row = q; stands = let e : x ≡ b = cc (first, first', same_read _ p p' read read') in rw e k.0 }))
fronts null columns s s1 s2 xs z1 z2 (a ∷ as') [] [] later x y reached h reached' k = absurd h
fronts null columns s s1 s2 xs z1 z2 (a ∷ as') [] (r ∷ rows) (q ∷ later) x y reached h reached' k = absurd k
fronts null columns s s1 s2 xs z1 z2 (a ∷ as') [] (r ∷ rows) [] x y (p, read, first, rest) h (p', read', first', rest') k =
    inr (inr (record { before = omega arith; row = r; stands = let e : y ≡ a = cc (first, first', same_read _ p p' read read') in rw e h.0 }))
fronts null columns s s1 s2 xs z1 z2 (a ∷ as') (b ∷ bs) [] later x y reached h reached' k = absurd h
fronts null columns s s1 s2 xs z1 z2 (a ∷ as') (b ∷ bs) (r ∷ rows) [] x y reached h reached' k = absurd k
fronts null columns s s1 s2 xs z1 z2 (a ∷ as') (b ∷ bs) (r ∷ rows) (q ∷ later) x y (p, read, first, rest) h (p', read', first', rest') k =
    let e = same_read _ p p' read read' in
    elim (fronts null columns p.1 s1 s2 p.2 z1 z2 as' bs rows later x y rest h.1 (rw e at rest') k.1) [
      | inl same ↦ inl (cc same.0, same.1)
      | inr other ↦ elim other [
        | inl left ↦ inr (inl (stands_more null columns rows later r q x left))
        | inr right ↦ inr (inr (stands_more null columns later rows q r y right))
      ]
    ]

-- a first fault is of the header or of a data record
abbrev LacksHeader : Table → (null : Option (List ℕ)) → (before : ℕ) → List ℕ → Type 0
LacksHeader table null before bytes = IsFaultOf table null before bytes fault.BadHeader

abbrev FailsLater : Table → (null : Option (List ℕ)) → (before : ℕ) → List ℕ → LoadFault → Type 0
FailsLater table null before bytes e = (rows : List (List Val)) × (next : List (List ℕ)) × Follows table null bytes rows next × IsRecordFault null table.columns before (length rows + 1) next e

fault_cases : (table : Table) (null : Option (List ℕ)) (before : ℕ) (bytes : List ℕ) (e : LoadFault) → IsFaultOf table null before bytes e
    → ((e ≡ fault.BadHeader) × LacksHeader table null before bytes) ⊎ FailsLater table null before bytes e
fault_cases table null before bytes fault.BadHeader h = inl (refl, h)
fault_cases table null before bytes (fault.FieldCount r) h = inr h
fault_cases table null before bytes (fault.Field r p why) h = inr h
fault_cases table null before bytes fault.TooManyRows h = inr h
fault_cases table null before bytes fault.NoMemory h = inr h

-- a part that begins with its header doesn't lack it
has_header : (table : Table) (null : Option (List ℕ)) (before : ℕ) (bytes : List ℕ) (header : List (List ℕ)) (records : List (List (List ℕ))) → AreFirstRecords bytes (header ∷ records)
    → IsHeader table.columns header → LacksHeader table null before bytes → ⊥
unfolding Reached
has_header table null before bytes header records (s, z, (p, read, first, rest)) named (inl (s2, z2, (es, ez), none)) = ended StartRecord s2 (strip_bom bytes) z2 p es ez none read
has_header table null before bytes header records (s, z, (p, read, first, rest)) named (inr (other, (s2, z2, (p', read', first', rest')), wrong)) =
    let e : other ≡ header = cc (first, first', same_read _ p p' read read') in
    wrong (rw e named)

pub same_part : (table : Table) (null : Option (List ℕ)) (bytes : List ℕ) (a b : List (List Val)) → IsPartOf table null bytes a → IsPartOf table null bytes b → a ≡ b
same_part table null bytes a b h k =
    let all = same_records StartRecord (strip_bom bytes) (h.header ∷ h.records) (k.header ∷ k.records) h.all k.all in
    let e : h.records ≡ k.records = cc all in
    same_rows null table.columns k.records a b (rw e at h.each) k.each

-- a record at fault can't stand among the rows of the whole part
among_all : (table : Table) (null : Option (List ℕ)) (before : ℕ) (bytes : List ℕ) (rows later : List (List Val)) (next : List (List ℕ)) (e : LoadFault) → IsPartOf table null bytes rows
    → before + length rows ≤ most_rows → Follows table null bytes later next → IsRecordFault null table.columns before (length later + 1) next e → ⊥
unfolding Reached
among_all table null before bytes rows later next e h few k wrong = apart h.all k.first
  where
    apart : AreAllRecords bytes (h.header ∷ h.records) → AreFirstRecords bytes (k.header ∷ (k.records ++ next ∷ [])) → ⊥
    apart (s, z, (p, read, first, rest), none) (s', z', (p', read', first', rest')) =
        let same = same_read _ p' p read' read in
        let stands = front_of_all null table.columns p'.1 s' p'.2 z' k.records h.records later rows next rest' k.each (s, z, rw same at rest, none) h.each in
        sound_record null table.columns before (length later + 1) next stands.row e (omega (arith, stands.before, few)) stands.stands wrong

pub part_or_fails : (table : Table) (null : Option (List ℕ)) (before : ℕ) (bytes : List ℕ) (rows : List (List Val)) (e : LoadFault) → IsPartOf table null bytes rows
    → before + length rows ≤ most_rows → IsFaultOf table null before bytes e → ⊥
unfolding Reached
part_or_fails table null before bytes rows e h few k = elim (fault_cases table null before bytes e k) [
  | inl bad ↦ has_header table null before bytes h.header h.records (h.all.0, h.all.1, h.all.2) h.named bad.1
  | inr later ↦ among_all table null before bytes rows later.0 later.1 e h few later.2 later.3
]

-- two records at fault, each after rows, are one record
same_later : (table : Table) (null : Option (List ℕ)) (before : ℕ) (bytes : List ℕ) (a b : LoadFault) (rows later : List (List Val)) (x y : List (List ℕ)) → Follows table null bytes rows x
    → Follows table null bytes later y → IsRecordFault null table.columns before (length rows + 1) x a → IsRecordFault null table.columns before (length later + 1) y b → a ≡ b
unfolding Reached
same_later table null before bytes a b rows later x y h k wrong wrong' = meet h.first k.first
  where
    decide : ((length rows ≡ length later) × (x ≡ y)) ⊎ (Stands null table.columns rows later x ⊎ Stands null table.columns later rows y) → a ≡ b
    decide (inl (number, e)) = same_record_fault null table.columns before (length later + 1) y a b (rw (number, e) at wrong) wrong'
    decide (inr (inl s)) =
        let index = fault_number null table.columns before (length later + 1) y b wrong' in
        absurd (sound_record null table.columns before (length rows + 1) x s.row a (omega (arith, s.before, index)) s.stands wrong)
    decide (inr (inr s)) =
        let index = fault_number null table.columns before (length rows + 1) x a wrong in
        absurd (sound_record null table.columns before (length later + 1) y s.row b (omega (arith, s.before, index)) s.stands wrong')

    meet : AreFirstRecords bytes (h.header ∷ (h.records ++ x ∷ [])) → AreFirstRecords bytes (k.header ∷ (k.records ++ y ∷ [])) → a ≡ b
    meet (s, z, (p, read, first, rest)) (s', z', (p', read', first', rest')) =
        let same = same_read _ p p' read read' in
        decide (fronts null table.columns p.1 s s' p.2 z z' h.records k.records rows later x y rest h.each (rw same at rest') k.each)

pub same_part_fault : (table : Table) (null : Option (List ℕ)) (before : ℕ) (bytes : List ℕ) (a b : LoadFault) → IsFaultOf table null before bytes a → IsFaultOf table null before bytes b → a ≡ b
same_part_fault table null before bytes a b h k = elim (fault_cases table null before bytes a h) [
  | inl bad ↦ elim (fault_cases table null before bytes b k) [
    | inl worse ↦ bad.0 ∙ sym worse.0
    | inr later ↦ absurd (has_header table null before bytes later.2.header (later.2.records ++ later.1 ∷ []) later.2.first later.2.named bad.1)
  ]
  | inr early ↦ elim (fault_cases table null before bytes b k) [
    | inl bad ↦ absurd (has_header table null before bytes early.2.header (early.2.records ++ early.1 ∷ []) early.2.first early.2.named bad.1)
    | inr later ↦ same_later table null before bytes a b early.0 later.0 early.1 later.1 early.2 later.2 early.3 later.3
  ]
]

-- ---- a file in one part

pub same_loads : (table : Table) (bytes : List ℕ) (a b : List (List Val)) → Loads table bytes a → Loads table bytes b → a ≡ b
same_loads table bytes a b h k = same_part table None bytes a b h.0 k.0

pub loads_or_fails : (table : Table) (bytes : List ℕ) (rows : List (List Val)) (e : LoadFault) → Loads table bytes rows → IsFirstFault table bytes e → ⊥
loads_or_fails table bytes rows e h k = part_or_fails table None 0 bytes rows e h.0 (omega (arith, h.1)) k

pub same_fault : (table : Table) (bytes : List ℕ) (a b : LoadFault) → IsFirstFault table bytes a → IsFirstFault table bytes b → a ≡ b
same_fault table bytes a b h k = same_part_fault table None 0 bytes a b h k
