-- Values that are pushed behind those of a column.
use Rattle.std.proofs.Common.{◌≡◌, ◌≤◌, ◌<◌, ◌+◌, ◌-◌, ◌∙◌, ℕ, zero, suc, Bool, true, false, List, [], ◌∷◌, ◌++◌, length, map, take, drop, refl, sym, ap, arith, take_all, length-append, ℤ, Vec, Global, Option, Some, None, get_or, not}
use Rattle.std.specs.Prelude.{Err, IsTrue, IsUtf8, MatchResult, Ok, Result, chars, if◌then◌else◌, slice_get}
use Rattle.std.specs.Result.{is_ok}
use Rattle.std.specs.List.{AllByRecursion}
use Rattle.std.proofs.lemmas.Bool.{false≢true}
use Rattle.std.proofs.lemmas.List.{take-append-le}
use Rattle.std.proofs.lemmas.Str.{encodes-chars, length-le-encodes}
use Rattle.qw_types.specs.declared.value.Val.{Val}
use Rattle.qw_types.specs.declared.value.Val.TheVariants as val
use Rattle.qw_types.specs.DateText.{ShowsDate}
use Rattle.qw_types.specs.Numeral.{IsNumberOf}
use Rattle.qw_types.specs.Value.{IsOfTypeOrNull}
use Rattle.qw_types.specs.declared.schema.Column.{Column}
use Rattle.qw_csv.specs.Field.{IsFieldOf, IsTypedFieldOf}
use Rattle.std.proofs.lemmas.List.{length-map, map-append}
use Rattle.qw_types.specs.declared.value.Ty.{Ty}
use Rattle.qw_types.specs.declared.value.Ty.TheVariants as ty
use Rattle.qw_csv.specs.declared.storage.Cells.{Cells}
use Rattle.qw_csv.specs.declared.storage.Cells.TheVariants as cells
use Rattle.qw_csv.specs.declared.storage.Texts.{Texts}
use Rattle.qw_types.specs.declared.schema.ColumnType.{ColumnType}
use Rattle.qw_csv.specs.declared.storage.Values.{Values}
use Rattle.qw_types.specs.Contents.{column_type}
use Rattle.qw_csv.specs.Contents.{integer_column}
use Rattle.qw_csv.specs.Inner.Storage.{AreCellsOf, AreEnds, AreKept, IsLiteralOf, IsWrittenText, is_marked, is_null, placed, plain_values, texts_from, values_in, with_nulls}

-- octets behind a slice play no part in it
slice_front : (start count : ℕ) (xs ys : List ℕ) → start + count ≤ length xs → take count (drop start (xs ++ ys)) ≡ take count (drop start xs)
slice_front zero count xs ys le = take-append-le count xs ys (omega arith)
slice_front (suc start) count [] ys le = absurd (omega arith)
slice_front (suc start) count (x ∷ xs) ys le = slice_front start count xs ys (omega arith)

-- the last slice
slice_back : (xs ys : List ℕ) → take (length ys) (drop (length xs) (xs ++ ys)) ≡ ys
slice_back [] ys = take_all (length ys) ys (omega arith)
slice_back (x ∷ xs) ys = slice_back xs ys

pub texts_push : (start : ℕ) (ends octets text : List ℕ) → AreEnds start ends (length octets)
    → texts_from start (ends ++ (length octets + length text) ∷ []) (octets ++ text) ≡ texts_from start ends octets ++ text ∷ []
texts_push start [] octets text h =
    let long : (length octets + length text) - start ≡ length text = omega (arith, h) in
    rw (long, h) (ap (λ (t : List ℕ). t ∷ []) (slice_back octets text))
texts_push start (end ∷ ends) octets text (rises, within, rest) =
    cc (slice_front start (end - start) octets text (omega (arith, rises, within)), texts_push end ends octets text rest)

pub ends_push : (start total more : ℕ) (ends : List ℕ) → AreEnds start ends total → AreEnds start (ends ++ (total + more) ∷ []) (total + more)
ends_push start total more [] h = (omega (arith, h), omega arith, refl)
ends_push start total more (end ∷ ends) h = (h.0, omega (arith, h.1), ends_push end total more ends h.2)

-- ---- nulls

pub not_true : (b : Bool) → not b ≡ true → b ≡ false
not_true true e = sym e
not_true false e = refl

pub not_false : (b : Bool) → not b ≡ false → b ≡ true
not_false true e = refl
not_false false e = sym e

no_nulls : (values : List Val) → with_nulls values [] ≡ values
no_nulls [] = refl
no_nulls (v ∷ values) = refl

nulls_push : (values : List Val) (flags : List Bool) (value : Val) (null : Bool) → length flags ≡ length values
    → with_nulls (values ++ value ∷ []) (flags ++ null ∷ []) ≡ with_nulls values flags ++ (if null then val.Null else value) ∷ []
nulls_push [] [] value true same = refl
nulls_push [] [] value false same = refl
nulls_push [] (f ∷ flags) value null same = absurd (omega (arith, same))
nulls_push (v ∷ values) [] value null same = absurd (omega (arith, same))
nulls_push (v ∷ values) (f ∷ flags) value null same = ap (λ (vs : List Val). (if f then val.Null else v) ∷ vs) (nulls_push values flags value null (omega (arith, same)))

back : (type : Ty) (value : Val) → (if is_null value then val.Null else placed type value) ≡ value
back type val.Null = refl
back type (val.Num n) = refl
back type (val.Date n) = refl
back type (val.Text t) = refl

back_not_null : (type : Ty) (not_null : Bool) (value : Val) → not_null ≡ true → IsOfTypeOrNull type not_null value → placed type value ≡ value
back_not_null type not_null val.Null never h = absurd (false≢true (sym h ∙ never))
back_not_null type not_null (val.Num n) never h = refl
back_not_null type not_null (val.Date n) never h = refl
back_not_null type not_null (val.Text t) never h = refl

pub all_push : {X : Type 0} (P : X → Type 0) (xs : List X) (x : X) → AllByRecursion P xs → P x → AllByRecursion P (xs ++ x ∷ [])
all_push P [] x all h = (h, tt)
all_push P (y ∷ xs) x all h = (all.0, all_push P xs x all.1 h)

-- what stands in the places of values, and of one more
blank_push : (type : Ty) (plain more values all : List Val) (value : Val) → plain ≡ map (placed type) values → more ≡ plain ++ placed type value ∷ []
    → all ≡ values ++ value ∷ [] → more ≡ map (placed type) all
blank_push type plain more values all value before put pushed = rw (put, pushed, before, map-append (placed type) values (value ∷ [])) refl

-- a value of the type behind those of a column that may be null
pub kept_with_null : (type : ColumnType) (before after : Values) (value : Val) → type.not_null ≡ false → AreKept type before → IsOfTypeOrNull type.ty type.not_null value
    → AreCellsOf type.ty after.cells → plain_values after.cells ≡ plain_values before.cells ++ placed type.ty value ∷ []
    → after.nulls.items ≡ before.nulls.items ++ is_null value ∷ []
    → AreKept type after × (values_in after ≡ values_in before ++ value ∷ [])
kept_with_null type before after value nullable kept of form cells flags =
    let many : length before.nulls.items ≡ length (plain_values before.cells) = rw nullable at kept.flags in
    let pushed : values_in after ≡ values_in before ++ value ∷ [] = rw (cells, flags, nulls_push (plain_values before.cells) before.nulls.items (placed type.ty value) (is_null value) many, back type.ty value) refl in (
      record {
        form = form;
        flags = rw (nullable, cells, flags, length-append before.nulls.items (is_null value ∷ []), length-append (plain_values before.cells) (placed type.ty value ∷ [])) (ap (λ (n : ℕ). n + 1) many);
        typed = rw pushed (all_push (IsOfTypeOrNull type.ty type.not_null) (values_in before) value kept.typed of);
        blank = blank_push type.ty (plain_values before.cells) (plain_values after.cells) (values_in before) (values_in after) value kept.blank cells pushed;
      },
      pushed,
    )

-- and behind those of one that may not
pub kept_not_null : (type : ColumnType) (before after : Values) (value : Val) → type.not_null ≡ true → AreKept type before → IsOfTypeOrNull type.ty type.not_null value
    → AreCellsOf type.ty after.cells → plain_values after.cells ≡ plain_values before.cells ++ placed type.ty value ∷ []
    → after.nulls.items ≡ before.nulls.items
    → AreKept type after × (values_in after ≡ values_in before ++ value ∷ [])
kept_not_null type before after value never kept of form cells flags =
    let none : before.nulls.items ≡ [] = rw never at kept.flags in
    let pushed : values_in after ≡ values_in before ++ value ∷ [] = rw (cells, flags, none, no_nulls (plain_values before.cells ++ placed type.ty value ∷ []), no_nulls (plain_values before.cells), back_not_null type.ty type.not_null value never of) refl in (
      record {
        form = form;
        flags = rw (never, flags) none;
        typed = rw pushed (all_push (IsOfTypeOrNull type.ty type.not_null) (values_in before) value kept.typed of);
        blank = blank_push type.ty (plain_values before.cells) (plain_values after.cells) (values_in before) (values_in after) value kept.blank cells pushed;
      },
      pushed,
    )

-- ---- cells of each type

module _ (type : Ty) (not_null : Bool) (before : Cells) (value : Val) (form : AreCellsOf type before) (of : IsOfTypeOrNull type not_null value) where
  pub decimals_push : (numbers : Vec ℤ Global) (after : List ℤ) (number : ℤ) → before ≡ cells.Decimals numbers
      → ((precision scale : ℕ) (never : Bool) → IsOfTypeOrNull (ty.Decimal precision scale) never value → placed (ty.Decimal precision scale) value ≡ val.Num number)
      → after ≡ numbers.items ++ number ∷ [] → map val.Num after ≡ plain_values before ++ placed type value ∷ []
  decimals_push numbers after number is there pushed = rw (is, pushed, map-append val.Num numbers.items (number ∷ [])) (ap (λ (v : Val). map val.Num numbers.items ++ v ∷ []) (sym (of_type type (rw is at form) of)))
    where
      of_type : (t : Ty) → AreCellsOf t (cells.Decimals numbers) → IsOfTypeOrNull t not_null value → placed t value ≡ val.Num number
      of_type ty.Integer f o = absurd f
      of_type (ty.Decimal p s) f o = there p s not_null o
      of_type ty.Date f o = absurd f
      of_type (ty.Varchar n) f o = absurd f

  pub dates_push : (numbers : Vec ℤ Global) (after : List ℤ) (number : ℤ) → before ≡ cells.Dates numbers
      → ((never : Bool) → IsOfTypeOrNull ty.Date never value → placed ty.Date value ≡ val.Date number)
      → after ≡ numbers.items ++ number ∷ [] → map val.Date after ≡ plain_values before ++ placed type value ∷ []
  dates_push numbers after number is there pushed = rw (is, pushed, map-append val.Date numbers.items (number ∷ [])) (ap (λ (v : Val). map val.Date numbers.items ++ v ∷ []) (sym (of_type type (rw is at form) of)))
    where
      of_type : (t : Ty) → AreCellsOf t (cells.Dates numbers) → IsOfTypeOrNull t not_null value → placed t value ≡ val.Date number
      of_type ty.Integer f o = absurd f
      of_type (ty.Decimal p s) f o = absurd f
      of_type ty.Date f o = there not_null o
      of_type (ty.Varchar n) f o = absurd f

  pub varchars_push : (texts : Texts) (after : List (List ℕ)) (text : List ℕ) → before ≡ cells.Texts texts
      → ((limit : ℕ) (never : Bool) → IsOfTypeOrNull (ty.Varchar limit) never value → placed (ty.Varchar limit) value ≡ val.Text text)
      → after ≡ texts_from 0 texts.ends.items texts.octets.items ++ text ∷ [] → map val.Text after ≡ plain_values before ++ placed type value ∷ []
  varchars_push texts after text is there pushed = rw (is, pushed, map-append val.Text (texts_from 0 texts.ends.items texts.octets.items) (text ∷ []))
      (ap (λ (v : Val). map val.Text (texts_from 0 texts.ends.items texts.octets.items) ++ v ∷ []) (sym (of_type type (rw is at form) of)))
    where
      of_type : (t : Ty) → AreCellsOf t (cells.Texts texts) → IsOfTypeOrNull t not_null value → placed t value ≡ val.Text text
      of_type ty.Integer f o = absurd f
      of_type (ty.Decimal p s) f o = absurd f
      of_type ty.Date f o = absurd f
      of_type (ty.Varchar n) f o = there n not_null o

-- the values of an INTEGER NOT NULL column
pub integer_values : (kept : Values) (numbers : Vec ℤ Global) → AreKept integer_column kept → kept.cells ≡ cells.Integers numbers → values_in kept ≡ map val.Num numbers.items
integer_values kept numbers h is = rw (is, h.flags) (no_nulls (map val.Num numbers.items))

pub integer_at : (numbers : List ℤ) (row : ℕ) (number : ℤ) → slice_get numbers row ≡ Some number → slice_get (map val.Num numbers) row ≡ Some (val.Num number)
integer_at [] row number is = cc is
integer_at (n ∷ numbers) zero number is = cc is
integer_at (n ∷ numbers) (suc row) number is = integer_at numbers row number is

-- what indexing gave, and what is found
pub get_is : {X : Type 0} (xs : List X) (i : ℕ) (x : X) → i < length xs → x ≡ get_or xs i x → slice_get xs i ≡ Some x
get_is [] i x lt is = absurd (omega arith)
get_is (y ∷ xs) zero x lt is = cc is
get_is (y ∷ xs) (suc i) x lt is = get_is xs i x (omega arith) is

pub get_below : {X : Type 0} (xs : List X) (i : ℕ) (x : X) → slice_get xs i ≡ Some x → i < length xs
get_below [] i x is = cc is
get_below (y ∷ xs) zero x is = omega arith
get_below (y ∷ xs) (suc i) x is = let before = get_below xs i x is in omega (arith, before)

-- ---- reading

-- the text of a row, from the end of the one before to its own
pub text_at : (start : ℕ) (ends octets : List ℕ) (row from to : ℕ) → AreEnds start ends (length octets) → slice_get ends row ≡ Some to
    → (row ≡ 0 → from ≡ start) → ((before : ℕ) → row ≡ suc before → slice_get ends before ≡ Some from)
    → (from ≤ to) × (to ≤ length octets) × (slice_get (texts_from start ends octets) row ≡ Some (take (to - from) (drop from octets)))
text_at start [] octets row from to h is first later = cc is
text_at start (end ∷ ends) octets zero from to (rises, within, rest) is first later =
    let e : from ≡ start = first refl in
    let t : end ≡ to = cc is in
    (omega (arith, rises, e, t), omega (arith, within, t), rw (← t, e) refl)
text_at start (end ∷ ends) octets (suc zero) from to (rises, within, rest) is first later =
    text_at end ends octets zero from to rest is (λ none. let e : Some end ≡ Some from = later zero refl in cc e) (λ before same. absurd (omega (arith, same)))
text_at start (end ∷ ends) octets (suc (suc row)) from to (rises, within, rest) is first later =
    text_at end ends octets (suc row) from to rest is (λ none. absurd (omega (arith, none))) (λ before same. later (suc before) (ap (λ (n : ℕ). suc n) same))

pub length-texts : (start : ℕ) (ends octets : List ℕ) → length (texts_from start ends octets) ≡ length ends
length-texts start [] octets = refl
length-texts start (end ∷ ends) octets = ap (λ (n : ℕ). suc n) (length-texts end ends octets)

pub get_map : {X Y : Type 0} (f : X → Y) (xs : List X) (i : ℕ) (x : X) → slice_get xs i ≡ Some x → slice_get (map f xs) i ≡ Some (f x)
get_map f [] i x is = cc is
get_map f (y ∷ xs) zero x is = cc is
get_map f (y ∷ xs) (suc i) x is = get_map f xs i x is

-- nulls and what isn't
pub null_at : (values : List Val) (flags : List Bool) (row : ℕ) → row < length values → slice_get flags row ≡ Some true → slice_get (with_nulls values flags) row ≡ Some val.Null
null_at [] flags row lt is = absurd (omega arith)
null_at (v ∷ values) [] row lt is = cc is
null_at (v ∷ values) (f ∷ flags) zero lt is = let e : f ≡ true = cc is in rw e refl
null_at (v ∷ values) (f ∷ flags) (suc row) lt is = null_at values flags row (omega arith) is

pub plain_at : (values : List Val) (flags : List Bool) (row : ℕ) (value : Val) → (slice_get flags row ≡ Some true → ⊥) → slice_get values row ≡ Some value
    → slice_get (with_nulls values flags) row ≡ Some value
plain_at [] flags row value not is = cc is
plain_at (v ∷ values) [] row value not is = is
plain_at (v ∷ values) (true ∷ flags) zero value not is = absurd (not refl)
plain_at (v ∷ values) (false ∷ flags) zero value not is = is
plain_at (v ∷ values) (f ∷ flags) (suc row) value not is = plain_at values flags row value not is

pub length-with_nulls : (values : List Val) (flags : List Bool) → length (with_nulls values flags) ≡ length values
length-with_nulls [] flags = refl
length-with_nulls (v ∷ values) [] = refl
length-with_nulls (v ∷ values) (f ∷ flags) = ap (λ (n : ℕ). suc n) (length-with_nulls values flags)

-- what indexing gave, as what stands in its place
pub number_in_place : (make : ℤ → Val) (numbers : List ℤ) (row : ℕ) (n : ℤ) → row < length (map make numbers) → n ≡ get_or numbers row n → slice_get (map make numbers) row ≡ Some (make n)
number_in_place make numbers row n lt is = get_map make numbers row n (get_is numbers row n (omega (arith, lt, length-map numbers make)) is)

-- ---- numbers and dates of fields

-- a field that shows a number of a type isn't empty
typed_number : (type : Ty) (field : List ℕ) (number : ℤ) → IsNumberOf type field number → IsTypedFieldOf type field (val.Num number)
typed_number ty.Integer field number h = h
typed_number (ty.Decimal precision scale) field number h = h
typed_number ty.Date field number h = absurd h.range
typed_number (ty.Varchar limit) field number h = absurd h.range

number_field : (column : Column) (field : List ℕ) (number : ℤ) → IsNumberOf column.ty field number → IsFieldOf None column field (val.Num number)
number_field column [] number h = absurd (false≢true h.shows.form)
number_field column (octet ∷ octets) number h = typed_number column.ty (octet ∷ octets) number h

date_field : (column : Column) (field : List ℕ) (number : ℤ) → column.ty ≡ ty.Date → ShowsDate field number → IsFieldOf None column field (val.Date number)
date_field column [] number is h = absurd (omega (arith, h.form.long))
date_field column (octet ∷ octets) number is h = rw is h

text_field : (column : Column) (field octets : List ℕ) → IsWrittenText column.ty field octets → IsFieldOf None column field (val.Text octets)
text_field column [] octets h = absurd (none column.ty h)
  where
    none : (type : Ty) → IsWrittenText type [] octets → ⊥
    none ty.Integer these = these
    none (ty.Decimal precision scale) these = these
    none ty.Date these = these
    none (ty.Varchar limit) these = omega (arith, these.1)
text_field column (octet ∷ rest) octets h = of_type column.ty h
  where
    of_type : (type : Ty) → IsWrittenText type (octet ∷ rest) octets → IsTypedFieldOf type (octet ∷ rest) (val.Text octets)
    of_type ty.Integer these = absurd these
    of_type (ty.Decimal precision scale) these = absurd these
    of_type ty.Date these = absurd these
    of_type (ty.Varchar limit) these = (these.0, these.2)

text_typed : (type : Ty) (not_null : Bool) (field octets : List ℕ) → IsWrittenText type field octets → IsOfTypeOrNull type not_null (val.Text octets)
text_typed ty.Integer not_null field octets h = absurd h
text_typed (ty.Decimal precision scale) not_null field octets h = absurd h
text_typed ty.Date not_null field octets h = absurd h
text_typed (ty.Varchar limit) not_null field octets h = h.2

literal_plain : (column : Column) (field : List ℕ) (value : Val) → IsLiteralOf column.ty field value → IsFieldOf None column field value
literal_plain column field val.Null h = absurd h
literal_plain column field (val.Num number) h = number_field column field number h
literal_plain column field (val.Date number) h = date_field column field number h.0 h.1
literal_plain column field (val.Text octets) h = text_field column field octets h

-- so does a field that is judged by the type, whatever stands for null
literal_of_type : (type : Ty) (field : List ℕ) (value : Val) → IsLiteralOf type field value → IsTypedFieldOf type field value
literal_of_type type field val.Null h = absurd h
literal_of_type type field (val.Num number) h = typed_number type field number h
literal_of_type type field (val.Date number) h = rw h.0 h.1
literal_of_type type field (val.Text octets) h = written type h
  where
    written : (t : Ty) → IsWrittenText t field octets → IsTypedFieldOf t field (val.Text octets)
    written ty.Integer these = absurd these
    written (ty.Decimal precision scale) these = absurd these
    written ty.Date these = absurd these
    written (ty.Varchar limit) these = (these.0, these.2)

pub literal_field : (null : Option (List ℕ)) (column : Column) (field : List ℕ) (value : Val) → is_marked null field ≡ false → IsLiteralOf column.ty field value → IsFieldOf null column field value
literal_field None column field value other h = literal_plain column field value h
literal_field (Some null) column field value other h = rw other (literal_of_type column.ty field value h)

pub literal_typed : (type : Ty) (not_null : Bool) (field : List ℕ) (value : Val) → IsLiteralOf type field value → IsOfTypeOrNull type not_null value
literal_typed type not_null field val.Null h = absurd h
literal_typed type not_null field (val.Num number) h = h.range
literal_typed type not_null field (val.Date number) h = rw h.0 (record { year = _; month = _; day = _; there = h.1.there; packed_is = h.1.packed_is })
literal_typed type not_null field (val.Text octets) h = text_typed type not_null field octets h

pub literal_placed : (type : Ty) (field : List ℕ) (value : Val) → IsLiteralOf type field value → (value ≡ placed type value) × (false ≡ is_null value)
literal_placed type field val.Null h = absurd h
literal_placed type field (val.Num number) h = (refl, refl)
literal_placed type field (val.Date number) h = (refl, refl)
literal_placed type field (val.Text octets) h = (refl, refl)

-- what a number or a date is put behind
pub record Put (type : Ty) (field : List ℕ) (before after : Cells) : Type 0 where
  pub value : Val
  pub of : IsLiteralOf type field value
  pub form : AreCellsOf type after
  pub pushed : plain_values after ≡ plain_values before ++ value ∷ []

pub integer_type : (type : Ty) (numbers : Vec ℤ Global) → AreCellsOf type (cells.Integers numbers) → type ≡ ty.Integer
integer_type ty.Integer numbers form = refl
integer_type (ty.Decimal precision scale) numbers form = absurd form
integer_type ty.Date numbers form = absurd form
integer_type (ty.Varchar limit) numbers form = absurd form

pub integer_put : (type : Ty) (field : List ℕ) (before : Cells) (numbers after : Vec ℤ Global) (number : ℤ) → AreCellsOf type before → before ≡ cells.Integers numbers
    → IsNumberOf ty.Integer field number → after.items ≡ numbers.items ++ number ∷ [] → Put type field before (cells.Integers after)
integer_put type field before numbers after number form is of pushed =
    let same = integer_type type numbers (rw is at form) in
    rw (same, is) (record { value = val.Num number; of = of; form = tt; pushed = rw (pushed, map-append val.Num numbers.items (number ∷ [])) refl })

pub decimal_put : (type : Ty) (field : List ℕ) (before : Cells) (numbers after : Vec ℤ Global) (number : ℤ) → AreCellsOf type before → before ≡ cells.Decimals numbers
    → IsNumberOf type field number → after.items ≡ numbers.items ++ number ∷ [] → Put type field before (cells.Decimals after)
decimal_put type field before numbers after number form is of pushed =
    rw is (record { value = val.Num number; of = of; form = of_type type (rw is at form); pushed = rw (pushed, map-append val.Num numbers.items (number ∷ [])) refl })
  where
    of_type : (t : Ty) → AreCellsOf t (cells.Decimals numbers) → AreCellsOf t (cells.Decimals after)
    of_type ty.Integer f = absurd f
    of_type (ty.Decimal precision scale) f = tt
    of_type ty.Date f = absurd f
    of_type (ty.Varchar limit) f = absurd f

pub date_put : (type : Ty) (field : List ℕ) (before : Cells) (numbers after : Vec ℤ Global) (number : ℤ) → AreCellsOf type before → before ≡ cells.Dates numbers
    → ShowsDate field number → after.items ≡ numbers.items ++ number ∷ [] → Put type field before (cells.Dates after)
date_put type field before numbers after number form is of pushed =
    let same = date_type type (rw is at form) in
    rw (same, is) (record { value = val.Date number; of = (refl, of); form = tt; pushed = rw (pushed, map-append val.Date numbers.items (number ∷ [])) refl })
  where
    date_type : (t : Ty) → AreCellsOf t (cells.Dates numbers) → t ≡ ty.Date
    date_type ty.Integer f = absurd f
    date_type (ty.Decimal precision scale) f = absurd f
    date_type ty.Date f = refl
    date_type (ty.Varchar limit) f = absurd f

pub text_put : (type : Ty) (field : List ℕ) (before : Cells) (texts after : Texts) → AreCellsOf type before → before ≡ cells.Texts texts → IsWrittenText type field field
    → AreEnds 0 after.ends.items (length after.octets.items)
    → texts_from 0 after.ends.items after.octets.items ≡ texts_from 0 texts.ends.items texts.octets.items ++ field ∷ [] → Put type field before (cells.Texts after)
text_put type field before texts after form is of ends pushed = rw is (record {
  value = val.Text field;
  of = of;
  form = of_type type (rw is at form);
  pushed = rw (pushed, map-append val.Text (texts_from 0 texts.ends.items texts.octets.items) (field ∷ [])) refl;
})
  where
    of_type : (t : Ty) → AreCellsOf t (cells.Texts texts) → AreCellsOf t (cells.Texts after)
    of_type ty.Integer f = absurd f
    of_type (ty.Decimal precision scale) f = absurd f
    of_type ty.Date f = absurd f
    of_type (ty.Varchar limit) f = ends

-- what is so of a result that is there
pub text_read : {A E : Type 0} (P : A → Type 0) (Q : E → Type 0) (read : Result A E) → MatchResult read P Q → IsTrue (is_ok read) → (a : A) × P a
text_read P Q (Ok a) is there = (a, is)
text_read P Q (Err e) is there = absurd (false≢true there)

-- a text in its octets, of which there are no more than characters may be
pub short_text : (limit : ℕ) (field : List ℕ) → IsUtf8 field → 1 ≤ length field → length field ≤ limit → IsWrittenText (ty.Varchar limit) field field
short_text limit field utf8 some few =
    let most : length (chars field) ≤ length field = rw (encodes-chars field utf8) at (length-le-encodes (chars field)) in
    (refl, some, record { utf8 = utf8; short = omega (arith, few, most) })

-- a number or a date behind the values of a column
abbrev pub Literal : (column : Column) (field : List ℕ) (before after : Cells) → Type 0
Literal column field before after = (value : Val) × IsLiteralOf column.ty field value × AreCellsOf column.ty after × (plain_values after ≡ plain_values before ++ value ∷ [])

abbrev pub Stored : (column : Column) (field : List ℕ) (before after : Values) → Type 0
Stored column field before after = (value : Val) × IsLiteralOf column.ty field value × AreKept (column_type column) after × (values_in after ≡ values_in before ++ value ∷ [])

pub literal_kept_with_null : (column : Column) (field : List ℕ) (before after : Values) → column.not_null ≡ false → AreKept (column_type column) before
    → Literal column field before.cells after.cells → after.nulls.items ≡ before.nulls.items ++ false ∷ [] → Stored column field before after
literal_kept_with_null column field before after nullable kept (value, of, form, pushed) flags =
    let (same, not_null) = literal_placed column.ty field value of in
    let put : plain_values after.cells ≡ plain_values before.cells ++ placed column.ty value ∷ [] = pushed ∙ ap (λ (v : Val). plain_values before.cells ++ v ∷ []) same in
    let flag : after.nulls.items ≡ before.nulls.items ++ is_null value ∷ [] = flags ∙ ap (λ (b : Bool). before.nulls.items ++ b ∷ []) not_null in
    let h = kept_with_null (column_type column) before after value nullable kept (literal_typed column.ty column.not_null field value of) form put flag in
    (value, of, h.0, h.1)

pub literal_kept_not_null : (column : Column) (field : List ℕ) (before after : Values) → column.not_null ≡ true → AreKept (column_type column) before
    → Literal column field before.cells after.cells → after.nulls.items ≡ before.nulls.items → Stored column field before after
literal_kept_not_null column field before after never kept (value, of, form, pushed) flags =
    let (same, _) = literal_placed column.ty field value of in
    let put : plain_values after.cells ≡ plain_values before.cells ++ placed column.ty value ∷ [] = pushed ∙ ap (λ (v : Val). plain_values before.cells ++ v ∷ []) same in
    let h = kept_not_null (column_type column) before after value never kept (literal_typed column.ty column.not_null field value of) form put flags in
    (value, of, h.0, h.1)
