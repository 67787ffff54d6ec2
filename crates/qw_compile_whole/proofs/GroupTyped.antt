-- The rows that reach the groups of a query have values of the types of the grouped columns, and the values of set functions are of their columns' kinds
-- (ISO/IEC 9075:1992, 6.5, 7.7).
use Rattle.std.proofs.Common.{◌≡◌, ◌∙◌, ℕ, zero, suc, ◌<◌, ◌≤◌, ◌^◌, Bool, false, List, [], ◌∷◌, ◌++◌, map, length, take, Some, Result, Ok, Err, IfOk, slice_get, refl, sym, ap, subst, arith}
use Rattle.std.specs.List.{AllByRecursion, AllZip, flat_map}
use Rattle.std.specs.List.Sorted.{IsPermutation}
use Rattle.std.proofs.ByRecursion.{all_shuffled}
use Rattle.qw_types.specs.Arithmetic.{◌>>=◌}
use Rattle.qw_types.specs.Contents.{IsOfColumnType, rows_of}
use Rattle.qw_types.specs.Kind.{IsRowOf, type_kind}
use Rattle.qw_types.specs.Value.{IsOfTypeOrNull, IsSized}
use Rattle.qw_types.proofs.KindLemmas.{stored_of_kind}
use Rattle.qw_types.specs.declared.code.Code.{Code}
use Rattle.qw_types.specs.declared.schema.ColumnType.{ColumnType}
use Rattle.qw_types.specs.declared.value.Ty.{Ty}
use Rattle.qw_types.specs.declared.value.Val.{Val}
use Rattle.qw_types.specs.declared.value.Val.TheVariants.{Null, Num, Date, Text}
use Rattle.qw_scalar.specs.Evaluation.{at_row}
use Rattle.qw_scalar.specs.Expression.{Expression}
use Rattle.qw_scalar.specs.Typing.{IsValueOf, kind_of}
use Rattle.qw_meaning.specs.Flow.{each, kept, rows_given, selected, values_of}
use Rattle.qw_meaning.specs.From.{from_sources}
use Rattle.qw_meaning.specs.Outcome.{flow}
use Rattle.qw_meaning.specs.Select.{AreOfEntries, Entry, IsColumnOf, IsItemOver, IsOfEntry, IsSpecification, Specification, entries_of, types_of}
use Rattle.qw_meaning.proofs.RowLemmas as lemmas
use Rattle.qw_meaning.proofs.FromLemmas.{cell}
use Rattle.qw_leaves.proofs.LeafLists.{all_back, all_front}
use Rattle.qw_grouped.specs.Grouped.{Grouped, IsGrouped, arguments_of, expression_of_column, front, kinds_of, type_of_function, types_of_group}
use Rattle.qw_grouped.specs.Groups.{Group, function_values, group_row, groups, key_of, keys, members}
use Rattle.qw_grouped.specs.declared.query.GroupedColumn.{GroupedColumn}
use Rattle.qw_grouped.specs.declared.set_function.SetFunctionKind.{SetFunctionKind}
use Rattle.qw_grouped.proofs.TypedGroups.{all_once, table_typed}
use Rattle.qw_meaning.proofs.ListLemmas.{all_flat_map, all_map, all_more}
use Rattle.qw_grouped.proofs.TypedRows.{rows_typed}

-- ---- values

null_or : (ty : Ty) (b : Bool) (v : Val) → IsOfTypeOrNull ty b v → IsOfTypeOrNull ty false v
null_or ty b Null h = refl
null_or ty b (Num v) h = h
null_or ty b (Date d) h = h
null_or ty b (Text t) h = h

row_holds : (columns : List ColumnType) (row : List Val) → AllZip IsOfColumnType columns row → (j : ℕ) (ty : Ty) → slice_get (types_of columns) j ≡ Some ty → IsOfTypeOrNull ty false (cell row j)
row_holds [] row h j ty e = absurd cc
row_holds (c ∷ columns) [] h j ty e = absurd h
row_holds (c ∷ columns) (v ∷ row) h zero ty e =
    let same : c.ty ≡ ty = cc in
    subst (λ (t : Ty). IsOfTypeOrNull t false v) same (null_or c.ty c.not_null v h.0)
row_holds (c ∷ columns) (v ∷ row) h (suc j) ty e = row_holds columns row h.1 j ty e

row_long : (columns : List ColumnType) (row : List Val) → AllZip IsOfColumnType columns row → length row ≡ length columns
row_long [] [] h = refl
row_long [] (v ∷ row) h = absurd h
row_long (c ∷ columns) [] h = absurd h
row_long (c ∷ columns) (v ∷ row) h = ap suc (row_long columns row h.1)

-- ---- FROM and WHERE

-- a value of its type, or null
abbrev pub IsOfItsType : Ty → Val → Type 0
IsOfItsType ty v = IsOfTypeOrNull ty false v

pub null_of_type : (ty : Ty) → IsOfItsType ty Null
null_of_type ty = refl

-- a row holds a value of its type, or null, for each column of the entries
abbrev pub HoldsEach : List Entry → List Val → Type 0
HoldsEach entries row = lemmas.HoldsEach IsOfItsType entries row

row_of_types : (entries : List Entry) (tables : List (List (List Val))) (e : Entry) (row : List Val) → AllZip IsOfColumnType e.columns row → lemmas.IsRowFor IsOfItsType null_of_type entries tables e row
row_of_types entries tables e row typed = (row_long e.columns row typed, row_holds e.columns row typed)

module _ (entries : List Entry) where
  -- the values of grouped columns
  abbrev IsKeyOf : List GroupedColumn → List Val → Type 0
  IsKeyOf columns key = AllZip (λ (c : GroupedColumn) (v : Val). IsOfTypeOrNull c.ty false v) columns key

  key_evaluated : (columns : List GroupedColumn) (arguments : List Expression) → AllByRecursion (IsItemOver (IsColumnOf entries)) (map expression_of_column columns ++ arguments) → (row : List Val) → HoldsEach entries row
      → IfOk (values_of (map expression_of_column columns ++ arguments) (at_row row)) (λ vs. IsKeyOf columns (take (length columns) vs))
  key_evaluated [] arguments typed row held = any (values_of arguments (at_row row))
    where
      any : (r : Result (List Val) Code) → IfOk r (λ vs. IsKeyOf [] (take 0 vs))
      any (Ok vs) = tt
      any (Err code) = tt
  key_evaluated (c ∷ columns) arguments typed row held = one (values_of (map expression_of_column columns ++ arguments) (at_row row)) (key_evaluated columns arguments typed.1 row held)
    where
      one : (q : Result (List Val) Code) → IfOk q (λ vs. IsKeyOf columns (take (length columns) vs))
          → IfOk (q >>= (λ vs. let r : Result (List Val) Code = Ok (cell row c.number ∷ vs) in r)) (λ vs. IsKeyOf (c ∷ columns) (take (suc (length columns)) vs))
      one (Ok vs) h = (held c.number c.ty typed.0.1, h)
      one (Err code) h = tt

  key_selected : (columns : List GroupedColumn) (arguments : List Expression) → AllByRecursion (IsItemOver (IsColumnOf entries)) (map expression_of_column columns ++ arguments) → (row : List Val) → HoldsEach entries row
      → AllByRecursion (λ (r : List Val). IsKeyOf columns (take (length columns) r)) (rows_given (selected (map expression_of_column columns ++ arguments) row))
  key_selected columns arguments typed row held = one (values_of (map expression_of_column columns ++ arguments) (at_row row)) (key_evaluated columns arguments typed row held)
    where
      one : (q : Result (List Val) Code) → IfOk q (λ vs. IsKeyOf columns (take (length columns) vs))
          → AllByRecursion (λ (r : List Val). IsKeyOf columns (take (length columns) r)) (rows_given (q >>= (λ vs. let r : Result (List (List Val)) Code = Ok (vs ∷ []) in r)))
      one (Ok vs) h = (h, tt)
      one (Err code) h = tt

-- ---- a specification over tables of its entries

both_all : {A : Type 0} (P Q R : A → Type 0) (xs : List A) → ((x : A) → P x → Q x → R x) → AllByRecursion P xs → AllByRecursion Q xs → AllByRecursion R xs
both_all P Q R [] f h g = tt
both_all P Q R (x ∷ xs) f h g = (f x h.0 g.0, both_all P Q R xs f h.1 g.1)

-- the rows that FROM and WHERE leave
pub clauses_hold : (query : Specification) (tables : List (List (List Val))) → IsSpecification query → AreOfEntries (entries_of query.sources) tables
    → AllByRecursion (HoldsEach (entries_of query.sources)) (each (kept query.conjuncts) (from_sources query.sources tables)).rows
clauses_hold query tables whole loaded =
    lemmas.clauses_hold IsOfItsType null_of_type query tables whole.few_columns
    (all_more (IsOfEntry tables) (lemmas.HasRowsFor IsOfItsType null_of_type (entries_of query.sources) tables) (entries_of query.sources)
    (λ e of. all_more (AllZip IsOfColumnType e.columns) (lemmas.IsRowFor IsOfItsType null_of_type (entries_of query.sources) tables e) (rows_of tables e.table) (row_of_types (entries_of query.sources) tables e) of.typed) loaded)

kinds_of_row : (columns : List ColumnType) (row : List Val) → AllByRecursion (λ (c : ColumnType). IsSized c.ty) columns → AllZip IsOfColumnType columns row → IsRowOf (map type_kind (types_of columns)) row
kinds_of_row [] [] s h = tt
kinds_of_row [] (v ∷ row) s h = absurd h
kinds_of_row (c ∷ columns) [] s h = absurd h
kinds_of_row (c ∷ columns) (v ∷ row) s h = (stored_of_kind c.ty c.not_null v s.0 h.0, kinds_of_row columns row s.1 h.1)

-- and those of its select list have values of its items' kinds
pub kinds_hold : (query : Specification) (tables : List (List (List Val))) → IsSpecification query → AreOfEntries (entries_of query.sources) tables → AllByRecursion (λ (e : Entry). AllByRecursion (λ (c : ColumnType). IsSized c.ty) e.columns) (entries_of query.sources)
    → AllByRecursion (AllZip IsValueOf (map kind_of query.items)) (flow query tables).rows
kinds_hold query tables whole loaded sized =
    rows_typed query tables whole (both_all (λ (e : Entry). AllByRecursion (λ (c : ColumnType). IsSized c.ty) e.columns) (IsOfEntry tables) (λ (e : Entry). AllByRecursion (IsRowOf (map type_kind (types_of e.columns))) (rows_of tables e.table)) (entries_of query.sources)
    (λ e s of. all_more (AllZip IsOfColumnType e.columns) (IsRowOf (map type_kind (types_of e.columns))) (rows_of tables e.table) (λ row h. kinds_of_row e.columns row s h) of.typed) sized loaded)

-- ---- what reaches the groups

-- a key has a value of each grouped column's type, or null
abbrev pub IsTypedKey : Grouped → List Val → Type 0
IsTypedKey query key = AllZip (λ (c : GroupedColumn) (v : Val). IsOfTypeOrNull c.ty false v) query.columns key

-- and set functions have values of their columns' kinds
abbrev pub AreTypedValues : Grouped → List Val → Type 0
AreTypedValues query vs = IsRowOf (map type_kind (map type_of_function query.functions)) vs

split_row : (tys others : List Ty) (key vs : List Val) → length key ≡ length tys → IsRowOf (map type_kind (tys ++ others)) (key ++ vs) → IsRowOf (map type_kind others) vs
split_row [] others [] vs long h = h
split_row [] others (v ∷ key) vs long h = absurd (omega (arith, long))
split_row (t ∷ tys) others [] vs long h = absurd (omega (arith, long))
split_row (t ∷ tys) others (v ∷ key) vs long h = let less : length key ≡ length tys = omega (arith, long) in split_row tys others key vs less h.1

zip_long : {A B : Type 0} (R : A → B → Type 0) (xs : List A) (ys : List B) → AllZip R xs ys → length ys ≡ length xs
zip_long R [] [] h = refl
zip_long R [] (y ∷ ys) h = absurd h
zip_long R (x ∷ xs) [] h = absurd h
zip_long R (x ∷ xs) (y ∷ ys) h = ap suc (zip_long R xs ys h.1)

long_map : {A B : Type 0} (f : A → B) (xs : List A) → length (map f xs) ≡ length xs
long_map f [] = refl
long_map f (x ∷ xs) = ap suc (long_map f xs)

unflat : {A B : Type 0} (P : B → Type 0) (f : A → List B) (xs : List A) → AllByRecursion P (flat_map f xs) → AllByRecursion (λ (x : A). AllByRecursion P (f x)) xs
unflat P f [] h = tt
unflat P f (x ∷ xs) h = (all_front P (f x) (flat_map f xs) h, unflat P f xs (all_back P (f x) (flat_map f xs) h))

unmap : {A B : Type 0} (P : B → Type 0) (f : A → B) (xs : List A) → AllByRecursion P (map f xs) → AllByRecursion (λ (x : A). P (f x)) xs
unmap P f [] h = tt
unmap P f (x ∷ xs) h = (h.0, unmap P f xs h.1)

groups_of : (columns : ℕ) (rows : List (List Val)) → 1 ≤ columns → groups columns rows ≡ map (λ (key : List Val). record { key = key; rows = members columns key rows }) (keys columns rows)
groups_of zero rows some = absurd (omega (arith, some))
groups_of (suc columns) rows some = refl

module _ (query : Grouped) (whole : IsGrouped query) (tables : List (List (List Val))) (loaded : AreOfEntries (entries_of query.sources) tables) where
  -- the rows that FROM and WHERE leave
  pub from_rows : AllByRecursion (HoldsEach (entries_of query.sources)) (each (kept query.conjuncts) (from_sources query.sources tables)).rows
  from_rows = clauses_hold (front query) tables whole.front loaded

  rows_hold : AllByRecursion (λ (r : List Val). IsTypedKey query (take (length query.columns) r)) (flow (front query) tables).rows
  rows_hold =
      all_flat_map (HoldsEach (entries_of query.sources)) (λ (r : List Val). IsTypedKey query (take (length query.columns) r)) (λ row. rows_given (selected (front query).items row)) (each (kept query.conjuncts) (from_sources query.sources tables)).rows
      (key_selected (entries_of query.sources) query.columns (arguments_of query.functions) whole.front.items) from_rows

  -- of those rows, in any order
  module _ (rows : List (List Val)) (same : IsPermutation (flow (front query) tables).rows rows) where
    pub keys_typed : AllByRecursion (IsTypedKey query) (keys (length query.columns) rows)
    keys_typed =
        all_once (IsTypedKey query) (map (key_of (length query.columns)) rows)
        (all_map (λ (r : List Val). IsTypedKey query (take (length query.columns) r)) (IsTypedKey query) (key_of (length query.columns)) rows (λ r h. h)
        (all_shuffled (λ (r : List Val). IsTypedKey query (take (length query.columns) r)) (flow (front query) tables).rows rows same rows_hold))

    pub values_typed : AllByRecursion (λ (e : Entry). AllByRecursion (λ (c : ColumnType). IsSized c.ty) e.columns) (entries_of query.sources) → 1 ≤ length query.columns → length rows < 10 ^ 18 →
        AllByRecursion (λ (key : List Val). (vs : List Val) → function_values (length query.columns) (kinds_of query.functions) (members (length query.columns) key rows) ≡ Ok vs → AreTypedValues query vs) (keys (length query.columns) rows)
    values_typed sized some few =
        let n : ℕ = length query.columns in
        let functions : List SetFunctionKind = kinds_of query.functions in
        let made : List Val → Group = λ key. record { key = key; rows = members n key rows } in
        let IsTableRow : List Val → Type 0 = IsRowOf (map type_kind (types_of_group query)) in
        let table = table_typed query whole rows (all_shuffled (AllZip IsValueOf (map kind_of (front query).items)) (flow (front query) tables).rows rows same (kinds_hold (front query) tables whole.front loaded sized)) few in
        let of_groups : AllByRecursion (λ (g : Group). AllByRecursion IsTableRow (rows_given (group_row n functions g))) (groups n rows) = unflat IsTableRow (λ (g : Group). rows_given (group_row n functions g)) (groups n rows) table in
        let of_keys : AllByRecursion (λ (key : List Val). AllByRecursion IsTableRow (rows_given (group_row n functions (made key)))) (keys n rows) =
        unmap (λ (g : Group). AllByRecursion IsTableRow (rows_given (group_row n functions g))) made (keys n rows) (subst (AllByRecursion (λ (g : Group). AllByRecursion IsTableRow (rows_given (group_row n functions g)))) (groups_of n rows some) of_groups) in
        both_all (IsTypedKey query) (λ (key : List Val). AllByRecursion IsTableRow (rows_given (group_row n functions (made key))))
        (λ (key : List Val). (vs : List Val) → function_values n functions (members n key rows) ≡ Ok vs → AreTypedValues query vs) (keys n rows)
        (λ key typed h vs come. one key vs typed (subst (λ (r : Result (List Val) Code). AllByRecursion IsTableRow (rows_given (r >>= (λ values. let q : Result (List (List Val)) Code = Ok ((key ++ values) ∷ []) in q)))) come h))
        keys_typed of_keys
      where
        one : (key vs : List Val) → IsTypedKey query key → AllByRecursion (IsRowOf (map type_kind (types_of_group query))) ((key ++ vs) ∷ []) → AreTypedValues query vs
        one key vs typed h =
            split_row (map (λ (c : GroupedColumn). c.ty) query.columns) (map type_of_function query.functions) key vs
            (zip_long (λ (c : GroupedColumn) (v : Val). IsOfTypeOrNull c.ty false v) query.columns key typed ∙ sym (long_map (λ (c : GroupedColumn). c.ty) query.columns)) h.0

    -- all rows are one group where there is no grouped column
    pub alone_typed : AllByRecursion (λ (e : Entry). AllByRecursion (λ (c : ColumnType). IsSized c.ty) e.columns) (entries_of query.sources) → length query.columns ≡ 0 → length rows < 10 ^ 18 →
        (vs : List Val) → function_values (length query.columns) (kinds_of query.functions) rows ≡ Ok vs → AreTypedValues query vs
    alone_typed sized none few vs come =
        let n : ℕ = length query.columns in
        let functions : List SetFunctionKind = kinds_of query.functions in
        let IsTableRow : List Val → Type 0 = IsRowOf (map type_kind (types_of_group query)) in
        let table = table_typed query whole rows (all_shuffled (AllZip IsValueOf (map kind_of (front query).items)) (flow (front query) tables).rows rows same (kinds_hold (front query) tables whole.front loaded sized)) few in
        let of_groups : AllByRecursion (λ (g : Group). AllByRecursion IsTableRow (rows_given (group_row n functions g))) (groups n rows) = unflat IsTableRow (λ (g : Group). rows_given (group_row n functions g)) (groups n rows) table in
        let of_one : AllByRecursion (λ (g : Group). AllByRecursion IsTableRow (rows_given (group_row n functions g))) (groups 0 rows) =
        subst (λ (m : ℕ). AllByRecursion (λ (g : Group). AllByRecursion IsTableRow (rows_given (group_row n functions g))) (groups m rows)) none of_groups in
        let one = subst (λ (r : Result (List Val) Code). AllByRecursion IsTableRow (rows_given (r >>= (λ values. let q : Result (List (List Val)) Code = Ok (([] ++ values) ∷ []) in q)))) come of_one.0 in
        split_row (map (λ (c : GroupedColumn). c.ty) query.columns) (map type_of_function query.functions) [] vs (sym (long_map (λ (c : GroupedColumn). c.ty) query.columns ∙ none)) one.0
