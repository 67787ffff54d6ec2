-- A column stands where its parts were written.
use Rattle.std.proofs.Common.{◌≡◌, ◌≤◌, ◌<◌, ◌+◌, ◌-◌, ◌*◌, ◌/◌, ◌%◌, ◌^◌, ◌∙◌, refl, sym, ap, subst, ℕ, ℤ, pos, negsuc, Option, zero, suc, Bool, true, false, List, [], ◌∷◌, length, take, Some, arith, add-one, mul-le-mul_left, mul-suc, pow-suc, w32, w64}
use Rattle.std.specs.Prelude.{not, FitsSigned, slice_get}
use Rattle.std.specs.Int.{cast_signed, cast_unsigned}
use Rattle.std.specs.List.{AllByRecursion}
use Rattle.std.proofs.lemmas.Int.{ints, to_z-of_z}
use Rattle.std.proofs.lemmas.Option.{slice_get_past, slice_get_within}
use Rattle.std.proofs.Math.Facts.{Fits-of_z}
use Rattle.std.proofs.Math.Nat.{pow-le-pow_right}
use Rattle.std.proofs.lemmas.Bool.Decides.{nat_tests}
use mir.Syntax.{Width}
use mir.Val.{hbits}
use Rattle.qw_types.specs.Calendar.{days_of, packed}
use native.Mathlib.Nat.{div-div-eq-div-mul}
use Rattle.qw_types.specs.Value.{IsOfType, IsOfTypeOrNull, IsSized, text_octets}
use Rattle.qw_types.specs.declared.value.Ty.{Ty}
use Rattle.qw_types.specs.declared.value.Ty.TheVariants as ty
use Rattle.qw_types.specs.declared.value.Val.{Val}
use Rattle.qw_types.specs.declared.value.Val.TheVariants as val
use Rattle.qw_csv.specs.Cells.{number_in, octets_in}
use Rattle.qw_linear.specs.Memory.{SameBelow, number_at}
use Rattle.qw_linear.proofs.MemoryFacts.{number_at-same}
use Rattle.qw_map.specs.Areas.{Area}
use Rattle.qw_map.specs.Columns.{HasOffsets, HoldsColumn, areas_of, blank, column_end, null_bit, nulls_size, placed_at, stored_at, text_at, value_at}
use Rattle.qw_map.specs.declared.layout.Placed.{Placed}
use Rattle.qw_map.proofs.AreaLemmas.{all-weaker}
use Rattle.qw_map.proofs.ColumnLemmas.{placed-between}
use Rattle.qw_columns.specs.Inner.Writing.{HasNulls, HasNumbers, HasStarts, HasTexts, HasValues, bit_of, flags_from, is_null}
use Rattle.qw_columns.proofs.RoomLemmas.{text_octets-more}
use Rattle.qw_columns.proofs.WriteLemmas.{bit-below, slice_kept, text_inside}

-- ---- numbers

-- the low half of a small number
low_half : (n : ℤ) → FitsSigned w32 n → cast_unsigned w64 n % 2 ^ (8 * 4) ≡ cast_unsigned w32 n
low_half (pos k) fits = omega (arith, fits.sfits)
low_half (negsuc k) fits = omega (arith, fits.sfits)

-- a number that was written is read
read32 : (n : ℤ) → FitsSigned w32 n → cast_signed w32 (cast_unsigned w64 n % 2 ^ (8 * 4)) ≡ n
read32 n fits = ap (cast_signed w32) (low_half n fits) ∙ to_z-of_z w32 n fits

read64 : (n : ℤ) → FitsSigned w64 n → cast_signed w64 (cast_unsigned w64 n % 2 ^ (8 * 8)) ≡ n
read64 n fits =
    let small = Fits-of_z fits in
    let whole : cast_unsigned w64 n % 2 ^ (8 * 8) ≡ cast_unsigned w64 n = omega (arith, small) in
    ap (cast_signed w64) whole ∙ to_z-of_z w64 n fits

-- numbers of types fit
integer_fits : (n : ℤ) → IsOfType ty.Integer (val.Num n) → FitsSigned w32 n
integer_fits n of = omega (arith, ints, of.0, of.1)

decimal_fits : (precision scale : ℕ) (n : ℤ) → precision ≤ 18 → IsOfType (ty.Decimal precision scale) (val.Num n) → FitsSigned w64 n
decimal_fits precision scale (pos k) few of =
    let most : 10 ^ precision ≤ 10 ^ 18 = pow-le-pow_right {n = 10} (omega arith) {i = precision} {j = 18} few in
    let less : k < 10 ^ precision = of in
    record { sfits = omega (arith, less, most) }
decimal_fits precision scale (negsuc k) few of =
    let most : 10 ^ precision ≤ 10 ^ 18 = pow-le-pow_right {n = 10} (omega arith) {i = precision} {j = 18} few in
    let less : suc k < 10 ^ precision = of in
    record { sfits = omega (arith, less, most) }

few_days : (year month : ℕ) → days_of year month ≤ 31
few_days year month = grind (arith, nat_tests)

date_fits : (n : ℤ) → IsOfType ty.Date (val.Date n) → FitsSigned w32 n
date_fits n of =
    let less : packed of.year of.month of.day < 2 ^ 31 = omega (arith, of.there.last_year, of.there.last_month, of.there.last_day, few_days of.year of.month) in
    rw (of.packed_is) (record { sfits = less })

-- ---- what stands in the place of a value

-- a value, or what stands in the place of a null
abbrev pub shown : Ty → Val → Val
shown ty val.Null = blank ty
shown ty (val.Num number) = val.Num number
shown ty (val.Date number) = val.Date number
shown ty (val.Text octets) = val.Text octets

zero_fits : (w : Width) → 0 < 2 ^ hbits w → FitsSigned w (pos 0)
zero_fits w some = record { sfits = some }

module _ (memory : List ℕ) (placed : Placed) (not_null : Bool) (values : List Val) (row : ℕ) where
  -- numbers of four octets, and of eight
  stored32 : (value : Val) → HasNumbers memory placed.values 4 values (length values) → slice_get values row ≡ Some value → FitsSigned w32 (number_in value)
      → cast_signed w32 (number_at memory (placed.values + 4 * row) 4) ≡ number_in value
  stored32 value has is fits = ap (cast_signed w32) (has.each row value (slice_get_within values row value is) is) ∙ read32 (number_in value) fits

  stored64 : (value : Val) → HasNumbers memory placed.values 8 values (length values) → slice_get values row ≡ Some value → FitsSigned w64 (number_in value)
      → cast_signed w64 (number_at memory (placed.values + 8 * row) 8) ≡ number_in value
  stored64 value has is fits = ap (cast_signed w64) (has.each row value (slice_get_within values row value is) is) ∙ read64 (number_in value) fits

  -- texts
  text_there : (value : Val) → HasStarts memory placed.values values (length values + 1) → HasTexts memory placed.octets values (length values)
      → slice_get values row ≡ Some value → text_at memory placed row ≡ octets_in value
  text_there value starts texts is =
      let within : row < length values = slice_get_within values row value is in
      let from = starts.each row (omega arith) in
      let to = rw add-one at (starts.each (row + 1) (omega arith)) in
      let size : text_octets (take (suc row) values) - text_octets (take row values) ≡ length (octets_in value) = omega (arith, text_octets-more values row value is) in
      rw (from, add-one, to, size) (texts.each row value within is)

  pub stored_is : (ty : Ty) (value : Val) → IsSized ty → IsOfTypeOrNull ty not_null value → HasValues memory ty placed values → slice_get values row ≡ Some value
      → stored_at memory ty placed row ≡ shown ty value
  stored_is ty.Integer val.Null sized of has is = ap val.Num (stored32 val.Null has is (zero_fits w32 (omega arith)))
  stored_is ty.Integer (val.Num n) sized of has is = ap val.Num (stored32 (val.Num n) has is (integer_fits n of))
  stored_is ty.Integer (val.Date n) sized of has is = absurd of
  stored_is ty.Integer (val.Text t) sized of has is = absurd of
  stored_is (ty.Decimal precision scale) val.Null sized of has is = ap val.Num (stored64 val.Null has is (zero_fits w64 (omega arith)))
  stored_is (ty.Decimal precision scale) (val.Num n) sized of has is = ap val.Num (stored64 (val.Num n) has is (decimal_fits precision scale n sized.1 of))
  stored_is (ty.Decimal precision scale) (val.Date n) sized of has is = absurd of
  stored_is (ty.Decimal precision scale) (val.Text t) sized of has is = absurd of
  stored_is ty.Date val.Null sized of has is = ap val.Date (stored32 val.Null has is (zero_fits w32 (omega arith)))
  stored_is ty.Date (val.Date n) sized of has is = ap val.Date (stored32 (val.Date n) has is (date_fits n of))
  stored_is ty.Date (val.Num n) sized of has is = absurd of
  stored_is ty.Date (val.Text t) sized of has is = absurd of
  stored_is (ty.Varchar limit) val.Null sized of has is = ap val.Text (text_there val.Null has.0 has.1 is)
  stored_is (ty.Varchar limit) (val.Text t) sized of has is = ap val.Text (text_there (val.Text t) has.0 has.1 is)
  stored_is (ty.Varchar limit) (val.Num n) sized of has is = absurd of
  stored_is (ty.Varchar limit) (val.Date n) sized of has is = absurd of

-- ---- null bits

-- the bit of one of several rows
flag_at : (values : List Val) (row count j : ℕ) → j < count → flags_from values row count / 2 ^ j % 2 ≡ bit_of (is_null (slice_get values (row + j)))
unfolding flags_from
flag_at values row zero j lt = absurd (omega arith)
flag_at values row (suc count) zero lt =
    let here : row + 0 ≡ row = omega arith in
    rw here (omega (arith, bit-below (is_null (slice_get values row))))
flag_at values row (suc count) (suc j) lt =
    let rest = flag_at values (row + 1) count j (omega arith) in
    let there : row + 1 + j ≡ row + suc j = omega arith in
    let twice : 2 ^ suc j ≡ 2 * 2 ^ j = omega (arith, pow-suc 2 j) in
    let half : (bit_of (is_null (slice_get values row)) + 2 * flags_from values (row + 1) count) / 2 ≡ flags_from values (row + 1) count =
    omega (arith, bit-below (is_null (slice_get values row))) in
    rw (twice, ← div-div-eq-div-mul (bit_of (is_null (slice_get values row)) + 2 * flags_from values (row + 1) count) 2 (2 ^ j), half) (rw there at rest)

pub null_bit_is : (memory : List ℕ) (nulls : ℕ) (values : List Val) (row : ℕ) → row < 8 * ((length values + 7) / 8) → HasNulls memory nulls values ((length values + 7) / 8)
    → null_bit memory nulls row ≡ bit_of (is_null (slice_get values row))
null_bit_is memory nulls values row lt has =
    let octet = has.each (row / 8) (omega arith) in
    let there : 8 * (row / 8) + row % 8 ≡ row = omega arith in
    rw octet (rw there at (flag_at values (8 * (row / 8)) 8 (row % 8) (omega arith)))

-- ---- the column

-- the value of a row, from what stands in its place and its null bit
value_is : (memory : List ℕ) (ty : Ty) (not_null : Bool) (placed : Placed) (row : ℕ) (value : Val) → IsOfTypeOrNull ty not_null value
    → stored_at memory ty placed row ≡ shown ty value → (not_null ≡ false → null_bit memory placed.nulls row ≡ bit_of (is_null (Some value)))
    → value_at memory ty not_null placed row ≡ value
value_is memory ty true placed row val.Null of stored bit = absurd (cc of)
value_is memory ty true placed row (val.Num n) of stored bit = stored
value_is memory ty true placed row (val.Date n) of stored bit = stored
value_is memory ty true placed row (val.Text t) of stored bit = stored
value_is memory ty false placed row val.Null of stored bit = rw (bit refl) refl
value_is memory ty false placed row (val.Num n) of stored bit = rw (bit refl) stored
value_is memory ty false placed row (val.Date n) of stored bit = rw (bit refl) stored
value_is memory ty false placed row (val.Text t) of stored bit = rw (bit refl) stored

offsets_are : (memory : List ℕ) (ty : Ty) (placed : Placed) (values : List Val) → HasValues memory ty placed values → HasOffsets memory ty placed values
offsets_are memory ty.Integer placed values has = tt
offsets_are memory (ty.Decimal precision scale) placed values has = tt
offsets_are memory ty.Date placed values has = tt
offsets_are memory (ty.Varchar limit) placed values has = λ row le. has.0.each row (omega arith)

typed_at : (ty : Ty) (not_null : Bool) (values : List Val) (row : ℕ) (value : Val) → slice_get values row ≡ Some value
    → AllByRecursion (IsOfTypeOrNull ty not_null) values → IsOfTypeOrNull ty not_null value
typed_at ty not_null [] row value is are = absurd (cc is)
typed_at ty not_null (v ∷ values) zero value is are = let e : v ≡ value = cc is in subst (IsOfTypeOrNull ty not_null) e are.0
typed_at ty not_null (v ∷ values) (suc row) value is are = typed_at ty not_null values row value is are.1

areas_inside : (ty : Ty) (not_null : Bool) (values : List Val) (placed : Placed) (limit : ℕ) → placed ≡ placed_at placed.values ty values → column_end not_null placed ≤ limit
    → AllByRecursion (λ (area : Area). area.start + area.size ≤ limit) (areas_of ty not_null placed)
areas_inside ty not_null values placed limit is room =
    let end : column_end not_null placed ≡ column_end not_null (placed_at placed.values ty values) = ap (column_end not_null) is in
    let between = all-weaker (λ (area : Area). (placed.values ≤ area.start) × (area.start + area.size ≤ column_end not_null (placed_at placed.values ty values)))
    (λ (area : Area). area.start + area.size ≤ limit) (λ area h. omega (arith, h.1, end, room)) (areas_of ty not_null (placed_at placed.values ty values))
    (placed-between placed.values ty not_null values) in
    subst (λ (p : Placed). AllByRecursion (λ (area : Area). area.start + area.size ≤ limit) (areas_of ty not_null p)) (sym is) between

pub column_held : (memory : List ℕ) (ty : Ty) (not_null : Bool) (placed : Placed) (values : List Val) → IsSized ty → AllByRecursion (IsOfTypeOrNull ty not_null) values
    → placed ≡ placed_at placed.values ty values → column_end not_null placed ≤ length memory → HasValues memory ty placed values
    → (not_null ≡ false → HasNulls memory placed.nulls values ((length values + 7) / 8)) → HoldsColumn memory ty not_null placed values
column_held memory ty not_null placed values sized typed is room has nulls = record {
  rows_are = ap (λ (p : Placed). p.rows) is;
  size_is = ap (λ (p : Placed). p.size) is;
  inside = areas_inside ty not_null values placed (length memory) is room;
  each = λ row value there.
      let of = typed_at ty not_null values row value there typed in
      value_is memory ty not_null placed row value of (stored_is memory placed not_null values row ty value sized of has there)
      (λ may. null_bit_is memory placed.nulls values row (let inside = slice_get_within values row value there in omega (arith, inside)) (nulls may) ∙ ap (λ (v : Option Val). bit_of (is_null v)) there);
  blanks = λ row there. stored_is memory placed not_null values row ty val.Null sized (typed_at ty not_null values row val.Null there typed) has there;
  offsets = offsets_are memory ty placed values has;
  spare = λ row behind within. spare_is not_null nulls row behind (let same = ap (λ (p : Placed). p.rows) is in subst (λ (n : ℕ). row < 8 * nulls_size not_null n) same within);
}
  where
    spare_is : (b : Bool) → (b ≡ false → HasNulls memory placed.nulls values ((length values + 7) / 8)) → (row : ℕ) → length values ≤ row → row < 8 * nulls_size b (length values) → null_bit memory placed.nulls row ≡ 0
    spare_is true nulls row behind within = absurd (omega (arith, within))
    spare_is false nulls row behind within =
        null_bit_is memory placed.nulls values row within (nulls refl) ∙ ap (λ (v : Option Val). bit_of (is_null v)) (slice_get_past values row behind)

-- ---- parts that stand below what is written next

pub starts_kept : (before after : List ℕ) (at limit : ℕ) (values : List Val) (count : ℕ) → SameBelow before after limit → at + 4 * count ≤ limit
    → HasStarts before at values count → HasStarts after at values count
starts_kept before after at limit values count same below has =
    record { each = λ row lt. number_at-same after before (at + 4 * row) 4 (λ k low high. same k (omega arith)) ∙ has.each row lt }

texts_kept : (before after : List ℕ) (at limit : ℕ) (values : List Val) → SameBelow before after limit → length after ≡ length before → limit ≤ length before
    → at + text_octets values ≤ limit → HasTexts before at values (length values) → HasTexts after at values (length values)
texts_kept before after at limit values same long room below has = record {
  each = λ row value lt is.
      let inside = text_inside values row value is in
      slice_kept before after (at + text_octets (take row values)) (length (octets_in value)) limit same (omega (arith, inside)) room long ∙ has.each row value lt is;
}

numbers_kept : (before after : List ℕ) (at width limit : ℕ) (values : List Val) → SameBelow before after limit → at + width * length values ≤ limit
    → HasNumbers before at width values (length values) → HasNumbers after at width values (length values)
numbers_kept before after at width limit values same below has = record {
  each = λ row value lt is.
      let inside : width * suc row ≤ width * length values = mul-le-mul_left width lt in
      let next : width * suc row ≡ width * row + width = mul-suc width row in
      number_at-same after before (at + width * row) width (λ k low high. same k (omega arith)) ∙ has.each row value lt is;
}

-- the values of a column stay where its null bits are written
pub values_kept : (before after : List ℕ) (ty : Ty) (placed : Placed) (values : List Val) → placed ≡ placed_at placed.values ty values → SameBelow before after placed.nulls
    → length after ≡ length before → placed.nulls ≤ length before → HasValues before ty placed values → HasValues after ty placed values
values_kept before after ty.Integer placed values is same long room has =
    let end = ap (λ (p : Placed). p.nulls) is in
    numbers_kept before after placed.values 4 placed.nulls values same (omega (arith, end)) has
values_kept before after (ty.Decimal precision scale) placed values is same long room has =
    let end = ap (λ (p : Placed). p.nulls) is in
    numbers_kept before after placed.values 8 placed.nulls values same (omega (arith, end)) has
values_kept before after ty.Date placed values is same long room has =
    let end = ap (λ (p : Placed). p.nulls) is in
    numbers_kept before after placed.values 4 placed.nulls values same (omega (arith, end)) has
values_kept before after (ty.Varchar limit) placed values is same long room has =
    let end = ap (λ (p : Placed). p.nulls) is in
    let start = ap (λ (p : Placed). p.octets) is in (
      starts_kept before after placed.values placed.nulls values (length values + 1) same (omega (arith, end)) has.0,
      texts_kept before after placed.octets placed.nulls values same long room (omega (arith, end, start)) has.1,
    )

-- ---- the room of null bits

-- the null bits of a column that may be null lie before its end
pub nulls_room : (not_null : Bool) (placed : Placed) (rows limit : ℕ) → not not_null ≡ true → placed.rows ≡ rows → column_end not_null placed ≤ limit
    → placed.nulls + (rows + 7) / 8 ≤ limit
nulls_room true placed rows limit may is room = absurd (cc may)
nulls_room false placed rows limit may is room = omega (arith, is, room)
