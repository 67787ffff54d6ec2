-- The rows of the grouped table have values of its columns' types, where fewer than 10 ^ 18 rows reach GROUP BY.
use Rattle.std.proofs.Common.{◌≡◌, ◌+◌, ◌<◌, ◌≤◌, ◌^◌, ℕ, zero, suc, Bool, true, false, IsTrue, ℤ, pos, ◌*ℤ◌, int_div, not, if◌then◌else◌, List, [], ◌∷◌, ◌++◌, map, length, take, Option, Some, None, Result, Ok, Err, IfOk, refl, ap, subst, arith}
use Rattle.std.proofs.lemmas.Bool.Decides.{nat_tests}
use Rattle.std.proofs.lemmas.List.{append_assoc}
use Rattle.std.specs.List.{AllByRecursion, AllZip, filter}
use Rattle.std.specs.Ordering.{is_ge, is_le}
use Rattle.qw_types.specs.Arithmetic.{◌>>=◌, checked, fits}
use Rattle.qw_types.specs.Kind.{IsOfKind, IsRowOf, type_kind}
use Rattle.qw_types.specs.ValueOrder.{is_same_row, value_order}
use Rattle.qw_types.specs.declared.code.Code.{Code}
use Rattle.qw_types.specs.declared.kind.Kind.{Kind}
use Rattle.qw_types.specs.declared.kind.Kind.TheVariants as kind
use Rattle.qw_types.specs.declared.value.Ty.{Ty}
use Rattle.qw_types.specs.declared.value.Val.{Val}
use Rattle.qw_types.specs.declared.value.Val.TheVariants.{Null}
use Rattle.qw_scalar.specs.Evaluation.{as_number}
use Rattle.qw_scalar.specs.Expression.{Expression}
use Rattle.qw_scalar.specs.Typing.{HasKind, IsValueOf, has_kind, is_number, kind_of}
use Rattle.qw_meaning.specs.Flow.{rows_given}
use Rattle.qw_meaning.specs.Select.{IsColumnOf, IsItemOver, entries_of}
use Rattle.qw_meaning.proofs.FromLemmas.{cell}
use Rattle.qw_grouped.specs.Grouped.{Grouped, HasAverage, IsGrouped, SetFunction, Takes, expression_of_column, front, kinds_of, type_of_function, types_of_group, value_kind, widest}
use Rattle.qw_grouped.specs.Groups.{Group, function_values, group_row, grouped_table, groups, key_of, keys, members, once, values_at}
use Rattle.qw_grouped.specs.SetFunctions.{average_value, greater, greatest, greatest_value, is_not_null, least, least_value, lesser, not_null, set_function_value, sum_value, total}
use Rattle.qw_grouped.specs.declared.query.GroupedColumn.{GroupedColumn}
use Rattle.qw_grouped.specs.declared.set_function.SetFunctionKind.{SetFunctionKind}
use Rattle.qw_grouped.specs.declared.set_function.SetFunctionKind.TheVariants.{CountRows, Count, Sum, Avg, Min, Max}
use Rattle.qw_grouped.proofs.Lists.{all_filter}
use Rattle.qw_meaning.proofs.ListLemmas.{all_flat_map, all_map, all_more}

-- ---- lists

pub map_long : {A B : Type 0} (f : A → B) (xs : List A) → length (map f xs) ≡ length xs
map_long f [] = refl
map_long f (x ∷ xs) = ap suc (map_long f xs)

filter_short_by : {A : Type 0} (p : A → Bool) (x : A) (xs : List A) (b : Bool) → p x ≡ b → length (filter p xs) ≤ length xs → length (filter p (x ∷ xs)) ≤ suc (length xs)
filter_short_by p x xs true e h = rw e (omega (arith, h))
filter_short_by p x xs false e h = rw e (omega (arith, h))

pub filter_short : {A : Type 0} (p : A → Bool) (xs : List A) → length (filter p xs) ≤ length xs
filter_short p [] = omega arith
filter_short p (x ∷ xs) = filter_short_by p x xs (p x) refl (filter_short p xs)

pub all_behind : {A : Type 0} (P : A → Type 0) (xs ys : List A) → AllByRecursion P (xs ++ ys) → AllByRecursion P ys
all_behind P [] ys h = h
all_behind P (x ∷ xs) ys h = all_behind P xs ys h.1

pub all_once : (P : List Val → Type 0) (rows : List (List Val)) → AllByRecursion P rows → AllByRecursion P (once rows)
all_once P [] h = h
all_once P (row ∷ rows) h = (h.0, all_filter P (λ other. not (is_same_row row other)) (once rows) (all_once P rows h.1))

zip_append : (tys others : List Ty) (key values : List Val) → IsRowOf (map type_kind tys) key → IsRowOf (map type_kind others) values → IsRowOf (map type_kind (tys ++ others)) (key ++ values)
zip_append [] others [] values h g = g
zip_append [] others (v ∷ key) values h g = absurd h
zip_append (ty ∷ tys) others [] values h g = absurd h
zip_append (ty ∷ tys) others (v ∷ key) values h g = (h.0, zip_append tys others key values h.1 g)

-- ---- what a set function comes to

abbrev takes_kind : SetFunctionKind → Option Kind → Type 0
takes_kind CountRows k = Unit {0}
takes_kind Count k = Unit {0}
takes_kind Sum k = IsTrue (is_number k)
takes_kind Avg k = HasAverage k
takes_kind Min k = Unit {0}
takes_kind Max k = Unit {0}

small : (n : ℕ) → n < 10 ^ 18 → IsTrue (fits (pos n))
small n h = grind (arith, nat_tests, h)

checked_typed : (s : ℕ) (t : ℤ) (b : Bool) → fits t ≡ b → IfOk (as_number (checked t)) (IsOfKind (kind.Number s))
checked_typed s t true e = rw e e
checked_typed s t false e = rw e tt

sum_typed : (s : ℕ) (values : List Val) → IfOk (sum_value values) (IsOfKind (kind.Number s))
sum_typed s [] = tt
sum_typed s (v ∷ values) = checked_typed s (total (v ∷ values)) (fits (total (v ∷ values))) refl

average_typed : (s : ℕ) (values : List Val) → IfOk (average_value values) (IsOfKind (kind.Number s))
average_typed s [] = tt
average_typed s (v ∷ values) =
    let found : ℤ = int_div (total (v ∷ values) *ℤ pos (10 ^ 4)) (pos (length (v ∷ values))) in
    checked_typed s found (fits found) refl

either_typed : (P : Val → Type 0) (v w : Val) (b : Bool) → P v → P w → P (if b then v else w)
either_typed P v w true h g = h
either_typed P v w false h g = g

least_typed : (P : Val → Type 0) (v : Val) (values : List Val) → P v → AllByRecursion P values → P (least v values)
least_typed P v [] h g = h
least_typed P v (w ∷ values) h g = least_typed P (lesser v w) values (either_typed P v w (is_le (value_order v w)) h g.0) g.1

greatest_typed : (P : Val → Type 0) (v : Val) (values : List Val) → P v → AllByRecursion P values → P (greatest v values)
greatest_typed P v [] h g = h
greatest_typed P v (w ∷ values) h g = greatest_typed P (greater v w) values (either_typed P v w (is_ge (value_order v w)) h g.0) g.1

least_value_typed : (P : Val → Type 0) (values : List Val) → P Null → AllByRecursion P values → P (least_value values)
least_value_typed P [] n h = n
least_value_typed P (v ∷ values) n h = least_typed P v values h.0 h.1

greatest_value_typed : (P : Val → Type 0) (values : List Val) → P Null → AllByRecursion P values → P (greatest_value values)
greatest_value_typed P [] n h = n
greatest_value_typed P (v ∷ values) n h = greatest_typed P v values h.0 h.1

kind_of_widest : (k : Kind) → k ≡ type_kind (widest (Some k))
kind_of_widest (kind.Number s) = refl
kind_of_widest kind.Date = refl
kind_of_widest kind.Text = refl

value_typed : (f : SetFunctionKind) (k : Option Kind) (values : List Val) → takes_kind f k → IsTrue (has_kind k) → AllByRecursion (IsValueOf k) values → length values < 10 ^ 18
    → IfOk (set_function_value f values) (IsOfKind (type_kind (widest (value_kind f k))))
value_typed CountRows k values t h g few = small (length values) few
value_typed Count k values t h g few = small (length (not_null values)) (omega (arith, few, filter_short is_not_null values))
value_typed Sum None values t h g few = absurd cc
value_typed Sum (Some (kind.Number s)) values t h g few = sum_typed s (not_null values)
value_typed Sum (Some kind.Date) values t h g few = absurd cc
value_typed Sum (Some kind.Text) values t h g few = absurd cc
value_typed Avg None values t h g few = absurd cc
value_typed Avg (Some (kind.Number s)) values t h g few = average_typed (s + 4) (not_null values)
value_typed Avg (Some kind.Date) values t h g few = absurd t
value_typed Avg (Some kind.Text) values t h g few = absurd t
value_typed Min None values t h g few = absurd cc
value_typed Min (Some k) values t h g few =
    subst (λ other. IsOfKind other (least_value (not_null values))) (kind_of_widest k)
    (least_value_typed (IsOfKind k) (not_null values) tt (all_filter (IsOfKind k) is_not_null values g))
value_typed Max None values t h g few = absurd cc
value_typed Max (Some k) values t h g few =
    subst (λ other. IsOfKind other (greatest_value (not_null values))) (kind_of_widest k)
    (greatest_value_typed (IsOfKind k) (not_null values) tt (all_filter (IsOfKind k) is_not_null values g))

takes_kind_of : (f : SetFunctionKind) (e : Expression) → Takes f e → takes_kind f (kind_of e)
takes_kind_of CountRows e h = tt
takes_kind_of Count e h = tt
takes_kind_of Sum e h = h
takes_kind_of Avg e h = h
takes_kind_of Min e h = tt
takes_kind_of Max e h = tt

-- ---- rows that reach GROUP BY

-- a row has a value of each argument's kind, from a place on
abbrev ArgumentsAt : ℕ → List SetFunction → List Val → Type 0
ArgumentsAt place [] row = Unit {0}
ArgumentsAt place (f ∷ functions) row = IsValueOf (kind_of f.argument) (cell row place) × ArgumentsAt (place + 1) functions row

cell_between : (before : List Val) (v : Val) (row : List Val) → v ≡ cell (before ++ v ∷ row) (length before)
cell_between [] v row = refl
cell_between (w ∷ before) v row = cell_between before v row

one_more : (before : List Val) (v : Val) → length (before ++ v ∷ []) ≡ length before + 1
one_more [] v = refl
one_more (w ∷ before) v = omega (arith, one_more before v)

arguments_behind : (functions : List SetFunction) (before row : List Val) → AllZip IsValueOf (map kind_of (map (λ (f : SetFunction). f.argument) functions)) row → ArgumentsAt (length before) functions (before ++ row)
arguments_behind [] before row h = tt
arguments_behind (f ∷ functions) before [] h = absurd h
arguments_behind (f ∷ functions) before (v ∷ row) h = (
  subst (IsValueOf (kind_of f.argument)) (cell_between before v row) h.0,
  subst (λ r. ArgumentsAt (length before + 1) functions r) (append_assoc before (v ∷ []) row)
      (subst (λ n. ArgumentsAt n functions ((before ++ v ∷ []) ++ row)) (one_more before v) (arguments_behind functions (before ++ v ∷ []) row h.1)),
)

arguments_from : (columns : List GroupedColumn) (functions : List SetFunction) (before row : List Val)
    → AllZip IsValueOf (map kind_of (map expression_of_column columns ++ map (λ (f : SetFunction). f.argument) functions)) row → ArgumentsAt (length before + length columns) functions (before ++ row)
arguments_from [] functions before row h =
    let count : length before ≡ length before + 0 = omega arith in
    subst (λ n. ArgumentsAt n functions (before ++ row)) count (arguments_behind functions before row h)
arguments_from (c ∷ columns) functions before [] h = absurd h
arguments_from (c ∷ columns) functions before (v ∷ row) h =
    let count : length (before ++ v ∷ []) + length columns ≡ length before + suc (length columns) = omega (arith, one_more before v) in
    subst (λ r. ArgumentsAt (length before + suc (length columns)) functions r) (append_assoc before (v ∷ []) row)
    (subst (λ n. ArgumentsAt n functions ((before ++ v ∷ []) ++ row)) count (arguments_from columns functions (before ++ v ∷ []) row h.1))

key_typed : (columns : List GroupedColumn) (arguments : List Expression) (row : List Val) → AllZip IsValueOf (map kind_of (map expression_of_column columns ++ arguments)) row
    → IsRowOf (map type_kind (map (λ (c : GroupedColumn). c.ty) columns)) (take (length columns) row)
key_typed [] arguments row h = tt
key_typed (c ∷ columns) arguments [] h = absurd h
key_typed (c ∷ columns) arguments (v ∷ row) h = (h.0, key_typed columns arguments row h.1)

-- ---- groups

functions_typed : (functions : List SetFunction) (place : ℕ) (rows : List (List Val)) → AllByRecursion (λ (f : SetFunction). Takes f.kind f.argument) functions
    → AllByRecursion HasKind (map (λ (f : SetFunction). f.argument) functions) → AllByRecursion (ArgumentsAt place functions) rows → length rows < 10 ^ 18
    → IfOk (function_values place (kinds_of functions) rows) (IsRowOf (map type_kind (map type_of_function functions)))
functions_typed [] place rows t h g few = tt
functions_typed (f ∷ functions) place rows t h g few =
    both (set_function_value f.kind (values_at place rows)) (function_values (place + 1) (kinds_of functions) rows)
    (value_typed f.kind (kind_of f.argument) (values_at place rows) (takes_kind_of f.kind f.argument t.0) h.0
    (all_map (ArgumentsAt place (f ∷ functions)) (IsValueOf (kind_of f.argument)) (λ row. cell row place) rows (λ row a. a.0) g)
    (omega (arith, few, map_long (λ row. cell row place) rows)))
    (functions_typed functions (place + 1) rows t.1 h.1 (all_more (ArgumentsAt place (f ∷ functions)) (ArgumentsAt (place + 1) functions) rows (λ row a. a.1) g) few)
  where
    both : (r : Result Val Code) (q : Result (List Val) Code) → IfOk r (IsOfKind (type_kind (type_of_function f))) → IfOk q (IsRowOf (map type_kind (map type_of_function functions)))
        → IfOk (r >>= (λ value. q >>= (λ values. Ok (value ∷ values)))) (IsRowOf (map type_kind (map type_of_function (f ∷ functions))))
    both (Ok v) (Ok vs) x y = (x, y)
    both (Ok v) (Err code) x y = tt
    both (Err code) q x y = tt

module _ (query : Grouped) (typed : IsGrouped query) where
  abbrev pub IsFrontRow : List Val → Type 0
  IsFrontRow row = AllZip IsValueOf (map kind_of (front query).items) row

  abbrev pub IsTableRow : List Val → Type 0
  IsTableRow row = IsRowOf (map type_kind (types_of_group query)) row

  -- a group of few rows that reached GROUP BY, with a key of its columns
  record IsTypedGroup (g : Group) : Type 0 where
    key : IsRowOf (map type_kind (map (λ (c : GroupedColumn). c.ty) query.columns)) g.key
    rows : AllByRecursion IsFrontRow g.rows
    few : length g.rows < 10 ^ 18

  have_kinds : AllByRecursion HasKind (map (λ (f : SetFunction). f.argument) query.functions)
  have_kinds = all_behind HasKind (map expression_of_column query.columns) (map (λ (f : SetFunction). f.argument) query.functions)
      (all_more (IsItemOver (IsColumnOf (entries_of query.sources))) HasKind (map expression_of_column query.columns ++ map (λ (f : SetFunction). f.argument) query.functions) (λ e h. h.0.1) typed.front.items)

  at_arguments : (row : List Val) → IsFrontRow row → ArgumentsAt (length query.columns) query.functions row
  at_arguments row h =
      let count : 0 + length query.columns ≡ length query.columns = omega arith in
      subst (λ n. ArgumentsAt n query.functions row) count (arguments_from query.columns query.functions [] row h)

  row_typed : (g : Group) → IsTypedGroup g → AllByRecursion IsTableRow (rows_given (group_row (length query.columns) (kinds_of query.functions) g))
  row_typed g h = given (function_values (length query.columns) (kinds_of query.functions) g.rows)
      (functions_typed query.functions (length query.columns) g.rows typed.functions have_kinds
      (all_more IsFrontRow (ArgumentsAt (length query.columns) query.functions) g.rows at_arguments h.rows) h.few)
    where
      given : (r : Result (List Val) Code) → IfOk r (IsRowOf (map type_kind (map type_of_function query.functions))) → AllByRecursion IsTableRow (rows_given (r >>= (λ values. Ok ((g.key ++ values) ∷ []))))
      given (Ok values) v = (zip_append (map (λ (c : GroupedColumn). c.ty) query.columns) (map type_of_function query.functions) g.key values h.key v, tt)
      given (Err code) v = tt

  no_columns : (columns : List GroupedColumn) → length columns ≡ 0 → IsRowOf (map type_kind (map (λ (c : GroupedColumn). c.ty) columns)) []
  no_columns [] e = tt
  no_columns (c ∷ columns) e = absurd (omega (arith, e))

  keys_typed : (rows : List (List Val)) → AllByRecursion IsFrontRow rows → AllByRecursion (IsRowOf (map type_kind (map (λ (c : GroupedColumn). c.ty) query.columns))) (keys (length query.columns) rows)
  keys_typed rows h = all_once (IsRowOf (map type_kind (map (λ (c : GroupedColumn). c.ty) query.columns))) (map (key_of (length query.columns)) rows)
      (all_map IsFrontRow (IsRowOf (map type_kind (map (λ (c : GroupedColumn). c.ty) query.columns))) (key_of (length query.columns)) rows
      (λ row f. key_typed query.columns (map (λ (f : SetFunction). f.argument) query.functions) row f) h)

  groups_typed : (n : ℕ) → length query.columns ≡ n → (rows : List (List Val)) → AllByRecursion IsFrontRow rows → length rows < 10 ^ 18 → AllByRecursion IsTypedGroup (groups n rows)
  groups_typed zero e rows h few = (record { key = no_columns query.columns e; rows = h; few = few }, tt)
  groups_typed (suc n) e rows h few =
      all_map (IsRowOf (map type_kind (map (λ (c : GroupedColumn). c.ty) query.columns))) IsTypedGroup (λ key. record { key = key; rows = members (suc n) key rows }) (keys (suc n) rows)
      (λ key k. record {
        key = k;
        rows = all_filter IsFrontRow (λ row. is_same_row key (key_of (suc n) row)) rows h;
        few = omega (arith, few, filter_short (λ row. is_same_row key (key_of (suc n) row)) rows);
      })
      (subst (λ m. AllByRecursion (IsRowOf (map type_kind (map (λ (c : GroupedColumn). c.ty) query.columns))) (keys m rows)) e (keys_typed rows h))

  pub table_typed : (rows : List (List Val)) → AllByRecursion IsFrontRow rows → length rows < 10 ^ 18
      → AllByRecursion IsTableRow (grouped_table (length query.columns) (kinds_of query.functions) (record { rows = rows; codes = [] })).rows
  table_typed rows h few =
      all_flat_map IsTypedGroup IsTableRow (λ g. rows_given (group_row (length query.columns) (kinds_of query.functions) g)) (groups (length query.columns) rows) row_typed
      (groups_typed (length query.columns) refl rows h few)
