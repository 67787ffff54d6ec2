-- The columns of the grouped table are of sizes that types may have, and of the types that their values are read with.
use Rattle.std.proofs.Common.{◌≡◌, ℕ, ◌+◌, ◌≤◌, ◌/◌, ◌%◌, IsTrue, Option, Some, None, slice_get, zero, suc, List, [], ◌∷◌, length, map, refl, ap₂, subst, arith}
use Rattle.std.specs.List.{AllByRecursion}
use Rattle.std.proofs.lemmas.Option.{same_Some}
use Rattle.qw_types.specs.Kind.{type_kind}
use Rattle.qw_types.specs.Value.{IsSized, type_scale}
use Rattle.qw_types.specs.declared.kind.Kind.{Kind}
use Rattle.qw_types.specs.declared.kind.Kind.TheVariants as kind
use Rattle.qw_types.specs.declared.schema.ColumnType.{ColumnType}
use Rattle.qw_types.specs.declared.value.Ty.{Ty}
use Rattle.qw_types.specs.declared.value.Ty.TheVariants as types
use Rattle.qw_scalar.specs.declared.expression.Operator.{Operator}
use Rattle.qw_scalar.specs.declared.expression.Operator.TheVariants as op
use Rattle.qw_scalar.specs.Expression.{Expression, null, number, date, text, column, arithmetic, negative, extract, brought, choice, given, cell, kind_scale, scale_after, scale_of}
use Rattle.qw_scalar.specs.Tree.{expression_of}
use Rattle.qw_scalar.specs.Typing.{HasKind, IsTyped, ScalesAllowed, at_scale, has_kind, is_number, joined, kind_of}
use Rattle.qw_meaning.specs.Select.{Entry, IsColumnOf, IsItemOver, entries_of, type_in, types_of}
use Rattle.qw_leaves.proofs.LeafLists.{all_back, all_front}
use Rattle.qw_module.specs.declared.instruction.ValType.TheVariants.{I64}
use Rattle.qw_grouped.specs.Grouped.{Grouped, HasAverage, IsGrouped, SetFunction, Takes, arguments_of, expression_of_column, finer, value_kind, widest}
use Rattle.qw_grouped.specs.Query.{GroupedParts, function_of, grouped_of}
use Rattle.qw_grouped.specs.declared.query.GroupedColumn.{GroupedColumn}
use Rattle.qw_grouped.specs.declared.set_function.SetFunction as coded
use Rattle.qw_grouped.specs.declared.set_function.SetFunctionKind.{SetFunctionKind}
use Rattle.qw_grouped.specs.declared.set_function.SetFunctionKind.TheVariants.{CountRows, Count, Sum, Avg, Min, Max}
use Rattle.qw_group.specs.Values.{chosen_type, value_type}
use Rattle.qw_operator.specs.Takes.{AreSized}
use Rattle.qw_group_pipeline.specs.declared.columns.ValueColumn.{ValueColumn}
use Rattle.qw_group_pipeline.proofs.RowFeeds.{AreOfKinds}
use Rattle.qw_compile_whole.specs.GroupColumns.{argument_kind, key_columns, key_from, value_columns, values_from}

-- ---- scales
scales_low : (operator : Operator) (sa sb : ℕ) → sa ≤ 18 → sb ≤ 18 → ScalesAllowed operator sa sb → scale_after operator sa sb ≤ 18
scales_low op.Add sa sb la lb h = omega (arith, la, lb)
scales_low op.Subtract sa sb la lb h = omega (arith, la, lb)
scales_low op.Multiply sa sb la lb h = h
scales_low op.Divide sa sb la lb h = la

scale_low : (e : Expression) → IsTyped e → scale_of e ≤ 18
scale_low null h = omega arith
scale_low (number v s) h = h.1
scale_low (date d) h = omega arith
scale_low (text t) h = omega arith
scale_low (column i ty) h = h
scale_low (arithmetic operator a b) h = scales_low operator (scale_of a) (scale_of b) (scale_low a h.0.0) (scale_low b h.0.1) h.1.1
scale_low (negative a) h = scale_low a h.0
scale_low (extract field a) h = omega arith
scale_low (brought a s) h = h.1.1
scale_low (choice c a b) h =
    let one = scale_low a h.1.0.0 in
    let other = scale_low b h.1.0.1 in
    omega (arith, one, other)
scale_low (given w k most v) h = h.0.0
scale_low (cell i ty most) h = h.0

-- the numbers of a kind have at most 18 digits behind the point
abbrev IsLow : Option Kind → Type 0
IsLow None = Unit {0}
IsLow (Some (kind.Number s)) = s ≤ 18
IsLow (Some kind.Date) = Unit {0}
IsLow (Some kind.Text) = Unit {0}

type_low : (ty : Ty) → type_scale ty ≤ 18 → IsLow (Some (type_kind ty))
type_low types.Integer h = omega arith
type_low (types.Decimal precision scale) h = h
type_low types.Date h = tt
type_low (types.Varchar limit) h = tt

given_low : (k : Kind) → kind_scale k ≤ 18 → IsLow (Some k)
given_low (kind.Number s) h = h
given_low kind.Date h = tt
given_low kind.Text h = tt

brought_low : (k : Option Kind) (s : ℕ) → s ≤ 18 → IsLow (at_scale k s)
brought_low None s h = tt
brought_low (Some (kind.Number t)) s h = h
brought_low (Some kind.Date) s h = tt
brought_low (Some kind.Text) s h = tt

joined_low : (k l : Option Kind) → IsLow k → IsLow l → IsLow (joined k l)
joined_low None l h g = g
joined_low (Some (kind.Number s)) None h g = h
joined_low (Some (kind.Number s)) (Some (kind.Number t)) h g = omega (arith, h, g)
joined_low (Some (kind.Number s)) (Some kind.Date) h g = h
joined_low (Some (kind.Number s)) (Some kind.Text) h g = h
joined_low (Some kind.Date) l h g = tt
joined_low (Some kind.Text) l h g = tt

pub kind_low : (e : Expression) → IsTyped e → IsLow (kind_of e)
kind_low null h = tt
kind_low (number v s) h = h.1
kind_low (date d) h = tt
kind_low (text t) h = tt
kind_low (column i ty) h = type_low ty h
kind_low (arithmetic operator a b) h = scales_low operator (scale_of a) (scale_of b) (scale_low a h.0.0) (scale_low b h.0.1) h.1.1
kind_low (negative a) h = scale_low a h.0
kind_low (extract field a) h = omega arith
kind_low (brought a s) h = brought_low (kind_of a) s h.1.1
kind_low (choice c a b) h = joined_low (kind_of a) (kind_of b) (kind_low a h.1.0.0) (kind_low b h.1.0.1)
kind_low (given w k most v) h = given_low k h.0.0
kind_low (cell i ty most) h = type_low ty h.0

-- ---- the values of set functions
pub widest_sized : (k : Option Kind) → IsLow k → IsSized (widest k)
widest_sized None h = tt
widest_sized (Some (kind.Number s)) h = (omega arith, omega arith, h)
widest_sized (Some kind.Date) h = tt
widest_sized (Some kind.Text) h = (omega arith, omega arith)

finer_low : (k : Option Kind) → HasAverage k → IsLow (finer k)
finer_low None h = absurd h
finer_low (Some (kind.Number s)) h = omega (arith, h)
finer_low (Some kind.Date) h = absurd h
finer_low (Some kind.Text) h = absurd h

value_sized : (f : SetFunctionKind) (e : Expression) → IsTyped e → Takes f e → IsSized (widest (value_kind f (kind_of e)))
value_sized CountRows e typed h = (omega arith, omega arith, omega arith)
value_sized Count e typed h = (omega arith, omega arith, omega arith)
value_sized Sum e typed h = widest_sized (kind_of e) (kind_low e typed)
value_sized Avg e typed h = widest_sized (finer (kind_of e)) (finer_low (kind_of e) h)
value_sized Min e typed h = widest_sized (kind_of e) (kind_low e typed)
value_sized Max e typed h = widest_sized (kind_of e) (kind_low e typed)

summed_type : (k : Option Kind) → IsTrue (is_number k) → I64 ≡ chosen_type (type_kind (widest k))
summed_type None h = absurd cc
summed_type (Some (kind.Number s)) h = refl
summed_type (Some kind.Date) h = absurd cc
summed_type (Some kind.Text) h = absurd cc

averaged_type : (k : Option Kind) → HasAverage k → I64 ≡ chosen_type (type_kind (widest (finer k)))
averaged_type None h = absurd h
averaged_type (Some (kind.Number s)) h = refl
averaged_type (Some kind.Date) h = absurd h
averaged_type (Some kind.Text) h = absurd h

chosen_same : (k : Option Kind) → chosen_type (argument_kind k) ≡ chosen_type (type_kind (widest k))
chosen_same None = refl
chosen_same (Some (kind.Number s)) = refl
chosen_same (Some kind.Date) = refl
chosen_same (Some kind.Text) = refl

value_as : (f : SetFunctionKind) (e : Expression) → Takes f e → value_type f (argument_kind (kind_of e)) ≡ chosen_type (type_kind (widest (value_kind f (kind_of e))))
value_as CountRows e h = refl
value_as Count e h = refl
value_as Sum e h = summed_type (kind_of e) h
value_as Avg e h = averaged_type (kind_of e) h
value_as Min e h = chosen_same (kind_of e)
value_as Max e h = chosen_same (kind_of e)

argument_is : (k : Option Kind) → IsTrue (has_kind k) → k ≡ Some (argument_kind k)
argument_is None h = absurd cc
argument_is (Some k) h = refl

abbrev IsArgument : SetFunction → Type 0
IsArgument f = (IsTyped f.argument × HasKind f.argument) × Takes f.kind f.argument

all_sized : (n : ℕ) (functions : List SetFunction) → AllByRecursion IsArgument functions → AllByRecursion (λ (v : ValueColumn). IsSized v.ty) (values_from n functions)
all_sized n [] h = tt
all_sized n (f ∷ functions) h = (value_sized f.kind f.argument h.0.0.0 h.0.1, all_sized (n + 1) functions h.1)

all_of_kinds : (n : ℕ) (functions : List SetFunction) → AllByRecursion IsArgument functions → AreOfKinds (values_from n functions)
all_of_kinds n [] h = tt
all_of_kinds n (f ∷ functions) h = (value_as f.kind f.argument h.0.1, all_of_kinds (n + 1) functions h.1)

all_arguments : (n : ℕ) (functions : List SetFunction) → AllByRecursion IsArgument functions → map kind_of (arguments_of functions) ≡ map (λ (v : ValueColumn). Some v.argument) (values_from n functions)
all_arguments n [] h = refl
all_arguments n (f ∷ functions) h = ap₂ (λ (k : Option Kind) (l : List (Option Kind)). k ∷ l) (argument_is (kind_of f.argument) h.0.0.1) (all_arguments (n + 1) functions h.1)

-- ---- the columns of GROUP BY
one_type : (columns : List ColumnType) (k : ℕ) (ty : Ty) → AllByRecursion (λ (d : ColumnType). IsSized d.ty) columns → slice_get (types_of columns) k ≡ Some ty → IsSized ty
one_type [] k ty h e = absurd cc
one_type (d ∷ columns) zero ty h e = subst IsSized (same_Some d.ty ty e) h.0
one_type (d ∷ columns) (suc k) ty h e = one_type columns k ty h.1 e

entry_type : (entries : List Entry) (e k : ℕ) (ty : Ty) → AllByRecursion (λ (one : Entry). AllByRecursion (λ (d : ColumnType). IsSized d.ty) one.columns) entries → type_in (slice_get entries e) k ≡ Some ty → IsSized ty
entry_type [] e k ty h there = absurd cc
entry_type (one ∷ entries) zero k ty h there = one_type one.columns k ty h.0 there
entry_type (one ∷ entries) (suc e) k ty h there = entry_type entries e k ty h.1 there

keys_sized : (entries : List Entry) (n : ℕ) (columns : List GroupedColumn) → AllByRecursion (λ (one : Entry). AllByRecursion (λ (d : ColumnType). IsSized d.ty) one.columns) entries → AllByRecursion (IsItemOver (IsColumnOf entries)) (map expression_of_column columns) → AreSized (key_from n columns)
keys_sized entries n [] sized h = tt
keys_sized entries n (c ∷ columns) sized h = (entry_type entries (c.number / 64) (c.number % 64) c.ty sized h.0.1, keys_sized entries (n + 1) columns sized h.1)

-- ---- of a query
arguments_typed : (entries : List Entry) (functions : List SetFunction) → AllByRecursion (IsItemOver (IsColumnOf entries)) (arguments_of functions) → AllByRecursion (λ (f : SetFunction). Takes f.kind f.argument) functions → AllByRecursion IsArgument functions
arguments_typed entries [] h g = tt
arguments_typed entries (f ∷ functions) h g = ((h.0.0, g.0), arguments_typed entries functions h.1 g.1)

module _ (query : Grouped) (grouped : IsGrouped query) where
  abbrev entries : List Entry
  entries = entries_of query.sources

  typed : AllByRecursion IsArgument query.functions
  typed = arguments_typed entries query.functions (all_back (IsItemOver (IsColumnOf entries)) (map expression_of_column query.columns) (arguments_of query.functions) grouped.front.items) grouped.functions

  pub key_sized : AllByRecursion (λ (one : Entry). AllByRecursion (λ (d : ColumnType). IsSized d.ty) one.columns) (entries_of query.sources) → AreSized (key_columns query)
  key_sized sized = keys_sized entries 0 query.columns sized (all_front (IsItemOver (IsColumnOf entries)) (map expression_of_column query.columns) (arguments_of query.functions) grouped.front.items)

  pub values_sized : AllByRecursion (λ (v : ValueColumn). IsSized v.ty) (value_columns query)
  values_sized = all_sized (length query.columns) query.functions typed

  pub values_of_kinds : AreOfKinds (value_columns query)
  values_of_kinds = all_of_kinds (length query.columns) query.functions typed

  pub arguments_are : map kind_of (arguments_of query.functions) ≡ map (λ (v : ValueColumn). Some v.argument) (value_columns query)
  arguments_are = all_arguments (length query.columns) query.functions typed

-- the set functions of the code
coded_typed : (functions : List coded.SetFunction) → AllByRecursion IsArgument (map function_of functions) → AllByRecursion (λ (f : coded.SetFunction). IsTyped (expression_of f.argument) × Takes f.kind (expression_of f.argument)) functions
coded_typed [] h = tt
coded_typed (f ∷ functions) h = ((h.0.0.0, h.0.1), coded_typed functions h.1)

pub arguments_coded : (parts : GroupedParts) → IsGrouped (grouped_of parts) → AllByRecursion (λ (f : coded.SetFunction). IsTyped (expression_of f.argument) × Takes f.kind (expression_of f.argument)) parts.functions
arguments_coded parts grouped = coded_typed parts.functions (typed (grouped_of parts) grouped)
