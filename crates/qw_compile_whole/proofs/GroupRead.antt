-- What is read of the groups of a query: keys are of their columns' types, the values of set functions of their columns' kinds, and MIN and MAX compare no more
-- than was counted.
use Rattle.std.proofs.Common.{◌≡◌, ℕ, ◌+◌, ◌≤◌, ◌^◌, ◌-◌, ℤ, unsigned_abs, Bool, true, false, IsTrue, if◌then◌else◌, List, [], ◌∷◌, map, Option, Some, None, slice_get, refl, arith}
use Rattle.std.proofs.lemmas.Bool.Decides.{nat_tests}
use Rattle.std.specs.List.{AllByRecursion, AllZip, list_any}
use Rattle.qw_types.specs.Arithmetic.{fits}
use Rattle.qw_types.specs.Kind.{IsOfKind, IsRowOf, type_kind}
use Rattle.qw_types.specs.Value.{IsOfTypeOrNull}
use Rattle.qw_types.specs.Value as value
use Rattle.qw_types.specs.declared.kind.Kind.{Kind}
use Rattle.qw_types.specs.declared.kind.Kind.TheVariants as kind
use Rattle.qw_types.specs.declared.value.Val.{Val}
use Rattle.qw_types.specs.declared.value.Val.TheVariants.{Null, Num, Date, Text}
use Rattle.qw_scalar.specs.Evaluation.{cell_of}
use Rattle.qw_scalar.specs.Typing.{HasKind, has_kind, kind_of, IsUtf8Value}
use Rattle.qw_grouped.specs.Grouped.{SetFunction, type_of_function, value_kind, widest}
use Rattle.qw_grouped.specs.declared.query.GroupedColumn.{GroupedColumn}
use Rattle.qw_grouped.specs.declared.set_function.SetFunctionKind.{SetFunctionKind}
use Rattle.qw_grouped.specs.declared.set_function.SetFunctionKind.TheVariants.{CountRows, Count, Sum, Avg, Min, Max}
use Rattle.qw_expr.specs.Cells.{IsWithin}
use Rattle.qw_read.specs.Reading.{most_of}
use Rattle.qw_table.specs.Keys.{octets_of}
use Rattle.qw_group.specs.Areas.{Chooses}
use Rattle.qw_group.specs.Groups.{AreChosenWithin}
use Rattle.qw_group.specs.Groups as groups
use Rattle.qw_operator.proofs.PairRows.{AreStored, held_typed}
use Rattle.qw_group_pipeline.specs.Groups.{most_read}
use Rattle.qw_group_pipeline.proofs.ValuesCome.{AreRead}
use Rattle.qw_whole.specs.GroupTables.{chooses, chosen_units, is_average, octets_at, read_units}
use Rattle.qw_compile_whole.specs.GroupColumns.{key_from, values_from}

-- ---- units
pub read_less : (functions : List SetFunctionKind) → most_read functions ≤ read_units functions
read_less [] = omega arith
read_less (CountRows ∷ functions) = let rest = read_less functions in omega (arith, rest)
read_less (Count ∷ functions) = let rest = read_less functions in omega (arith, rest)
read_less (Sum ∷ functions) = let rest = read_less functions in omega (arith, rest)
read_less (Avg ∷ functions) = let rest = small (list_any is_average functions) (most_read functions) (read_less functions) in omega (arith, rest)
  where
    small : (b : Bool) (n : ℕ) → n ≤ (if b then 128 else 0) → n ≤ 128
    small true n h = h
    small false n h = omega (arith, h)
read_less (Min ∷ functions) = let rest = read_less functions in omega (arith, rest)
read_less (Max ∷ functions) = let rest = read_less functions in omega (arith, rest)

octets_same : (place : ℕ) (row : List Val) → octets_at place row ≡ groups.octets_at place row
octets_same place row = one (cell_of (slice_get row place))
  where
    one : (v : Val) → value.text_octets (v ∷ []) ≡ octets_of v
    one Null = refl
    one (Num v) = refl
    one (Date d) = refl
    one (Text t) = omega arith

-- what is counted of MIN and MAX at a row is enough for each comparison
pub compared_within : (place : ℕ) (functions : List SetFunctionKind) (row : List Val) (n : ℕ) → chosen_units place functions row ≤ n → AreChosenWithin place functions row n
compared_within place [] row n h = tt
compared_within place (f ∷ functions) row n h = (
  one f (omega (arith, h)),
  compared_within (place + 1) functions row n (omega (arith, h)),
)
  where
    one : (g : SetFunctionKind) → (if chooses g then octets_at place row else 0) ≤ n → Chooses g → groups.octets_at place row ≤ n
    one CountRows less never = absurd never
    one Count less never = absurd never
    one Sum less never = absurd never
    one Avg less never = absurd never
    one Min less so = let same = octets_same place row in omega (arith, less, same)
    one Max less so = let same = octets_same place row in omega (arith, less, same)

-- ---- keys
pub key_stored : (n : ℕ) (columns : List GroupedColumn) (key : List Val) → AllZip (λ (c : GroupedColumn) (v : Val). IsOfTypeOrNull c.ty false v) columns key → AreStored (key_from n columns) key
key_stored n [] [] h = tt
key_stored n [] (v ∷ key) h = absurd h
key_stored n (c ∷ columns) [] h = absurd h
key_stored n (c ∷ columns) (v ∷ key) h = (held_typed c.ty false v h.0, key_stored (n + 1) columns key h.1)

-- ---- values
number_small : (v : ℤ) → IsTrue (fits v) → unsigned_abs v ≤ 10 ^ 18 - 1
number_small v h = grind (arith, nat_tests, h)

number_within : (s : ℕ) (w : Val) → IsOfKind (kind.Number s) w → IsWithin (10 ^ 18 - 1) w
number_within s Null h = tt
number_within s (Num v) h = number_small v h
number_within s (Date d) h = tt
number_within s (Text t) h = tt

no_number : (most : ℕ) (w : Val) → IsOfKind kind.Date w → IsWithin most w
no_number most Null h = tt
no_number most (Num v) h = absurd h
no_number most (Date d) h = tt
no_number most (Text t) h = tt

no_text : (most : ℕ) (w : Val) → IsOfKind kind.Text w → IsWithin most w
no_text most Null h = tt
no_text most (Num v) h = absurd h
no_text most (Date d) h = tt
no_text most (Text t) h = tt

kind_within : (k : Kind) (w : Val) → IsOfKind (type_kind (widest (Some k))) w → IsWithin (most_of (widest (Some k))) w
kind_within (kind.Number s) w h = number_within s w h
kind_within kind.Date w h = no_number 0 w h
kind_within kind.Text w h = no_text 0 w h

finer_within : (k : Kind) (w : Val) → IsOfKind (type_kind (widest (value_kind Avg (Some k)))) w → IsWithin (most_of (widest (value_kind Avg (Some k)))) w
finer_within (kind.Number s) w h = number_within (s + 4) w h
finer_within kind.Date w h = no_number 0 w h
finer_within kind.Text w h = no_text 0 w h

value_within : (f : SetFunctionKind) (k : Option Kind) → IsTrue (has_kind k) → (w : Val) → IsOfKind (type_kind (widest (value_kind f k))) w → IsWithin (most_of (widest (value_kind f k))) w
value_within f None never w h = absurd cc
value_within CountRows (Some k) some w h = number_within 0 w h
value_within Count (Some k) some w h = number_within 0 w h
value_within Sum (Some k) some w h = kind_within k w h
value_within Avg (Some k) some w h = finer_within k w h
value_within Min (Some k) some w h = kind_within k w h
value_within Max (Some k) some w h = kind_within k w h

pub values_read : (n : ℕ) (functions : List SetFunction) (vs : List Val) → AllByRecursion (λ (f : SetFunction). HasKind f.argument) functions → IsRowOf (map type_kind (map type_of_function functions)) vs → AllByRecursion IsUtf8Value vs
    → AreRead (values_from n functions) vs
values_read n [] [] some typed utf8 = tt
values_read n [] (w ∷ vs) some typed utf8 = absurd typed
values_read n (f ∷ functions) [] some typed utf8 = absurd typed
values_read n (f ∷ functions) (w ∷ vs) some typed utf8 =
    ((typed.0, utf8.0, value_within f.kind (kind_of f.argument) some.0 w typed.0), values_read (n + 1) functions vs some.1 typed.1 utf8.1)
