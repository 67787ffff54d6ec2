-- What is kept of a column, as numbers or texts one after another.
use Rattle.std.proofs.Common.{◌≡◌, ◌≤◌, ◌<◌, ◌+◌, ◌-◌, ◌∙◌, ℕ, ℤ, zero, suc, List, [], ◌∷◌, ◌++◌, length, map, take, drop, refl, sym, ap, arith, length-drop, take_all, Vec, Global, Some, Bor}
use Rattle.std.specs.Prelude.{slice_get, slice_index_or}
use Rattle.std.proofs.lemmas.List.{length-map, length-take-le, map-append, take-append-drop}
use Rattle.std.proofs.lemmas.Option.{get_or_from_slice_get}
use Rattle.std.proofs.Math.ListN.{drop_of_length-le}
use Rattle.qw_types.specs.Value.{text_octets}
use Rattle.qw_types.specs.declared.schema.ColumnType.{ColumnType}
use Rattle.qw_types.specs.declared.value.Ty.{Ty}
use Rattle.qw_types.specs.declared.value.Ty.TheVariants as ty
use Rattle.qw_types.specs.declared.value.Val.{Val}
use Rattle.qw_types.specs.declared.value.Val.TheVariants as val
use Rattle.qw_csv.specs.Cells.{AreCellsFor, AreTexts, number_in, octets_in, octets_together, values_of}
use Rattle.qw_csv.specs.declared.column_cells.ColumnCells.TheVariants as lent
use Rattle.qw_csv.specs.declared.storage.Cells.{Cells}
use Rattle.qw_csv.specs.declared.storage.Cells.TheVariants as cells
use Rattle.qw_csv.specs.declared.storage.Texts.{Texts}
use Rattle.qw_csv.specs.declared.storage.Values.{Values}
use Rattle.qw_csv.specs.Inner.Rows.{row_in, rows_in}
use Rattle.qw_csv.specs.Inner.Storage.{AreCellsOf, AreEnds, AreKept, placed, plain_values, texts_from, values_in}
use Rattle.qw_csv.proofs.CellFacts.{drop_further, text_octets-front}
use Rattle.qw_csv.proofs.RowLemmas.{value_there}
use Rattle.qw_csv.proofs.StorageLemmas.{length-texts}

-- ---- numbers

number_placed : (type : Ty) (value : Val) → number_in (placed type value) ≡ number_in value
number_placed ty.Integer val.Null = refl
number_placed (ty.Decimal precision scale) val.Null = refl
number_placed ty.Date val.Null = refl
number_placed (ty.Varchar limit) val.Null = refl
number_placed type (val.Num number) = refl
number_placed type (val.Date number) = refl
number_placed type (val.Text octets) = refl

numbers_placed : (type : Ty) (values : List Val) → map number_in (map (placed type) values) ≡ map number_in values
numbers_placed type [] = refl
numbers_placed type (value ∷ values) = cc (number_placed type value, numbers_placed type values)

numbers_back : (numbers : List ℤ) → map number_in (map val.Num numbers) ≡ numbers
numbers_back [] = refl
numbers_back (number ∷ numbers) = ap (λ (ns : List ℤ). number ∷ ns) (numbers_back numbers)

dates_back : (numbers : List ℤ) → map number_in (map val.Date numbers) ≡ numbers
dates_back [] = refl
dates_back (number ∷ numbers) = ap (λ (ns : List ℤ). number ∷ ns) (dates_back numbers)

pub numbers_kept : (type : Ty) (numbers : List ℤ) (values : List Val) → map val.Num numbers ≡ map (placed type) values → numbers ≡ map number_in values
numbers_kept type numbers values is = sym (numbers_back numbers) ∙ ap (λ (vs : List Val). map number_in vs) is ∙ numbers_placed type values

pub dates_kept : (type : Ty) (numbers : List ℤ) (values : List Val) → map val.Date numbers ≡ map (placed type) values → numbers ≡ map number_in values
dates_kept type numbers values is = sym (dates_back numbers) ∙ ap (λ (vs : List Val). map number_in vs) is ∙ numbers_placed type values

-- ---- texts

octets_placed : (type : Ty) (value : Val) → octets_in (placed type value) ≡ octets_in value
octets_placed ty.Integer val.Null = refl
octets_placed (ty.Decimal precision scale) val.Null = refl
octets_placed ty.Date val.Null = refl
octets_placed (ty.Varchar limit) val.Null = refl
octets_placed type (val.Num number) = refl
octets_placed type (val.Date number) = refl
octets_placed type (val.Text octets) = refl

together_placed : (type : Ty) (values : List Val) → octets_together (map (placed type) values) ≡ octets_together values
together_placed type [] = refl
together_placed type (value ∷ values) = cc (octets_placed type value, together_placed type values)

text_octets-placed : (type : Ty) (values : List Val) (count : ℕ) → text_octets (take count (map (placed type) values)) ≡ text_octets (take count values)
text_octets-placed type values zero = refl
text_octets-placed type [] (suc count) = refl
text_octets-placed type (value ∷ values) (suc count) =
    text_octets-front (placed type value) (take count (map (placed type) values))
    ∙ cc (octets_placed type value, text_octets-placed type values count)
    ∙ sym (text_octets-front value (take count values))

part_long : (start end : ℕ) (octets : List ℕ) → start ≤ end → end ≤ length octets → start + length (take (end - start) (drop start octets)) ≡ end
part_long start end octets rises within = omega (arith, length-take-le (end - start) (drop start octets) (omega (arith, length-drop start octets)))

end_at : (start : ℕ) (ends octets : List ℕ) (row end : ℕ) → AreEnds start ends (length octets) → slice_get ends row ≡ Some end
    → end ≡ start + text_octets (take (suc row) (map val.Text (texts_from start ends octets)))
end_at start [] octets row end are is = absurd (cc is)
end_at start (e ∷ ends) octets zero end (rises, within, rest) is =
    let this : e ≡ end = cc is in
    omega (arith, this, part_long start e octets rises within)
end_at start (e ∷ ends) octets (suc row) end (rises, within, rest) is =
    omega (arith, part_long start e octets rises within, end_at e ends octets row end rest is)

texts_together : (start : ℕ) (ends octets : List ℕ) → AreEnds start ends (length octets) → octets_together (map val.Text (texts_from start ends octets)) ≡ drop start octets
texts_together start [] octets are = sym (drop_of_length-le octets (omega (arith, are)))
texts_together start (end ∷ ends) octets (rises, within, rest) =
    let reached : start + (end - start) ≡ end = omega (arith, rises) in
    let front = take-append-drop (end - start) (drop start octets) in
    let back : drop (end - start) (drop start octets) ≡ drop end octets = drop_further start (end - start) octets ∙ ap (λ (n : ℕ). drop n octets) reached in
    ap (λ (more : List ℕ). take (end - start) (drop start octets) ++ more) (texts_together end ends octets rest ∙ sym back) ∙ front

pub texts_kept : (type : Ty) (ends octets : List ℕ) (values : List Val) → AreEnds 0 ends (length octets) → map val.Text (texts_from 0 ends octets) ≡ map (placed type) values
    → AreTexts ends octets values
texts_kept type ends octets values are is = record {
  many = sym (length-texts 0 ends octets) ∙ sym (length-map (texts_from 0 ends octets) val.Text) ∙ ap (λ (vs : List Val). length vs) is ∙ length-map values (placed type);
  each = λ row end there.
      let one : row + 1 ≡ suc row = omega arith in
      let last = end_at 0 ends octets row end are there in
      let same = rw is at last in
      rw one (omega (arith, same, text_octets-placed type values (suc row)));
  together = sym (texts_together 0 ends octets are) ∙ ap (λ (vs : List Val). octets_together vs) is ∙ together_placed type values;
}

-- ---- a column's values, lent

blank : {before after : Cells} {values : List Val} → before ≡ after → plain_values before ≡ values → plain_values after ≡ values
blank is all = ap (λ (c : Cells). plain_values c) (sym is) ∙ all

pub integers_lent : (type : ColumnType) (kept : Values) (numbers : Vec ℤ Global) (slice : Bor (List ℤ)) → AreKept type kept → kept.cells ≡ cells.Integers numbers → slice.now ≡ numbers.items
    → AreCellsFor type.ty (lent.Short slice) (values_in kept)
integers_lent type kept numbers slice valid is same = of_type type.ty (rw is at valid.form) (same ∙ numbers_kept type.ty numbers.items (values_in kept) (blank is valid.blank))
  where
    of_type : (t : Ty) → AreCellsOf t (cells.Integers numbers) → slice.now ≡ map number_in (values_in kept) → AreCellsFor t (lent.Short slice) (values_in kept)
    of_type ty.Integer form these = these
    of_type (ty.Decimal precision scale) form these = absurd form
    of_type ty.Date form these = absurd form
    of_type (ty.Varchar limit) form these = absurd form

pub decimals_lent : (type : ColumnType) (kept : Values) (numbers : Vec ℤ Global) (slice : Bor (List ℤ)) → AreKept type kept → kept.cells ≡ cells.Decimals numbers → slice.now ≡ numbers.items
    → AreCellsFor type.ty (lent.Long slice) (values_in kept)
decimals_lent type kept numbers slice valid is same = of_type type.ty (rw is at valid.form) (same ∙ numbers_kept type.ty numbers.items (values_in kept) (blank is valid.blank))
  where
    of_type : (t : Ty) → AreCellsOf t (cells.Decimals numbers) → slice.now ≡ map number_in (values_in kept) → AreCellsFor t (lent.Long slice) (values_in kept)
    of_type ty.Integer form these = absurd form
    of_type (ty.Decimal precision scale) form these = these
    of_type ty.Date form these = absurd form
    of_type (ty.Varchar limit) form these = absurd form

pub dates_lent : (type : ColumnType) (kept : Values) (numbers : Vec ℤ Global) (slice : Bor (List ℤ)) → AreKept type kept → kept.cells ≡ cells.Dates numbers → slice.now ≡ numbers.items
    → AreCellsFor type.ty (lent.Short slice) (values_in kept)
dates_lent type kept numbers slice valid is same = of_type type.ty (rw is at valid.form) (same ∙ dates_kept type.ty numbers.items (values_in kept) (blank is valid.blank))
  where
    of_type : (t : Ty) → AreCellsOf t (cells.Dates numbers) → slice.now ≡ map number_in (values_in kept) → AreCellsFor t (lent.Short slice) (values_in kept)
    of_type ty.Integer form these = absurd form
    of_type (ty.Decimal precision scale) form these = absurd form
    of_type ty.Date form these = these
    of_type (ty.Varchar limit) form these = absurd form

pub texts_lent : (type : ColumnType) (kept : Values) (texts : Texts) (ends octets : Bor (List ℕ)) → AreKept type kept → kept.cells ≡ cells.Texts texts → ends.now ≡ texts.ends.items → octets.now ≡ texts.octets.items
    → AreCellsFor type.ty (lent.Texts ends octets) (values_in kept)
texts_lent type kept texts ends octets valid is same-ends same-octets = of_type type.ty (rw is at valid.form) (blank is valid.blank)
  where
    of_type : (t : Ty) → AreCellsOf t (cells.Texts texts) → map val.Text (texts_from 0 texts.ends.items texts.octets.items) ≡ map (placed t) (values_in kept)
        → AreCellsFor t (lent.Texts ends octets) (values_in kept)
    of_type ty.Integer form these = absurd form
    of_type (ty.Decimal precision scale) form these = absurd form
    of_type ty.Date form these = absurd form
    of_type (ty.Varchar limit) form these = rw (same-ends, same-octets) (texts_kept (ty.Varchar limit) texts.ends.items texts.octets.items (values_in kept) form these)

-- ---- a column of rows

take_more : (values : List Val) (count : ℕ) → count < length values → take (suc count) values ≡ take count values ++ slice_index_or values count val.Null ∷ []
take_more [] count lt = absurd (omega arith)
take_more (value ∷ values) zero lt = refl
take_more (value ∷ values) (suc count) lt = ap (λ (vs : List Val). value ∷ vs) (take_more values count (omega arith))

first_values : (columns : List Values) (column : ℕ) (kept : Values) (count : ℕ) → slice_get columns column ≡ Some kept → count ≤ length (values_in kept)
    → values_of (rows_in count columns) column ≡ take count (values_in kept)
unfolding rows_in
first_values columns column kept zero there few = refl
first_values columns column kept (suc count) there few =
    let value : slice_index_or (row_in count columns) column val.Null ≡ slice_index_or (values_in kept) count val.Null =
    get_or_from_slice_get (row_in count columns) column _ val.Null (value_there columns column count kept there) in
    map-append (λ (row : List Val). slice_index_or row column val.Null) (rows_in count columns) (row_in count columns ∷ [])
    ∙ cc (value, first_values columns column kept count there (omega arith))
    ∙ sym (take_more (values_in kept) count (omega arith))

pub values_kept : (columns : List Values) (column : ℕ) (kept : Values) (count : ℕ) → slice_get columns column ≡ Some kept → length (values_in kept) ≡ count
    → values_of (rows_in count columns) column ≡ values_in kept
values_kept columns column kept count there long =
    first_values columns column kept count there (omega (arith, long)) ∙ take_all count (values_in kept) (omega (arith, long))
