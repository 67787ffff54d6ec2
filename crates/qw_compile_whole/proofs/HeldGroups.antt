-- The rows that HAVING and the select list make of groups have values that cells of the greatest types of their items' kinds give back, texts of any length among
-- them (ISO/IEC 9075:1992, 6.5, 7.8, 7.9).
use Rattle.std.proofs.Common.{◌≡◌, ◌≤◌, ◌<◌, ℕ, zero, suc, ◌^◌, false, IsUtf8, List, [], ◌∷◌, ◌++◌, map, length, Result, Ok, Err, IfOk, take, refl, sym, subst, arith}
use Rattle.std.specs.List.{AllByRecursion, AllZip, flat_map}
use Rattle.std.specs.List.Sorted.{IsPermutation}
use Rattle.std.proofs.ByRecursion.{all_shuffled}
use Rattle.std.proofs.lemmas.List.Sorted.{length_permutation}
use Rattle.qw_types.specs.Arithmetic.{◌>>=◌}
use Rattle.qw_types.specs.Kind.{IsRowOf, type_kind}
use Rattle.qw_types.specs.Value.{IsSized}
use Rattle.qw_types.specs.ValueOrder.{is_same_row}
use Rattle.qw_types.specs.declared.code.Code.{Code}
use Rattle.qw_types.specs.declared.schema.ColumnType.{ColumnType}
use Rattle.qw_types.specs.declared.value.Ty.{Ty}
use Rattle.qw_types.specs.declared.value.Val.{Val}
use Rattle.qw_scalar.specs.Expression.{Expression}
use Rattle.qw_scalar.specs.Typing.{IsValueOf, kind_of, IsUtf8Value}
use Rattle.qw_leaves.specs.Leaves.{HasLeaves, OfText}
use Rattle.qw_meaning.specs.Flow.{kept, rows_given, selected}
use Rattle.qw_meaning.specs.Outcome.{flow}
use Rattle.qw_meaning.specs.Select.{AreOfEntries, Entry, entries_of}
use Rattle.qw_meaning.proofs.SelectLemmas.{row_holds}
use Rattle.qw_rewrite.proofs.Stages.{kept_all}
use Rattle.qw_grouped.specs.Grouped.{Grouped, IsGroupColumn, IsGrouped, SetFunction, arguments_of, expression_of_column, front, kinds_of, type_of_function, types_of_group, widest}
use Rattle.qw_grouped.specs.Groups.{Group, behind_front, function_values, group_row, grouped_table, groups, key_of, keys, members}
use Rattle.qw_grouped.specs.declared.query.GroupedColumn.{GroupedColumn}
use Rattle.qw_grouped.specs.declared.set_function.SetFunctionKind.{SetFunctionKind}
use Rattle.qw_grouped.proofs.Lists.{all_filter}
use Rattle.qw_grouped.proofs.TypedGroups.{all_once, table_typed}
use Rattle.qw_meaning.proofs.ListLemmas.{all_append, all_flat_map, all_map}
use Rattle.qw_operator.proofs.PairRows.{IsHeld}
use Rattle.qw_compile_whole.proofs.GroupTyped.{kinds_hold}
use Rattle.qw_compile_whole.proofs.GroupUtf8.{cell_utf8, functions_utf8, rows_utf8}
use Rattle.qw_compile_whole.proofs.HeldRows.{IsHeldRow, selected_held}

both_all : {A : Type 0} (P Q R : A → Type 0) (xs : List A) → ((x : A) → P x → Q x → R x) → AllByRecursion P xs → AllByRecursion Q xs → AllByRecursion R xs
both_all P Q R [] f h g = tt
both_all P Q R (x ∷ xs) f h g = (f x h.0 g.0, both_all P Q R xs f h.1 g.1)

-- ---- the texts of groups
abbrev AreUtf8 : List Val → Type 0
AreUtf8 row = AllByRecursion IsUtf8Value row

-- the key of a group, and its rows
abbrev IsUtf8Group : Group → Type 0
IsUtf8Group g = AreUtf8 g.key × AllByRecursion AreUtf8 g.rows

take_utf8 : (n : ℕ) (row : List Val) → AreUtf8 row → AreUtf8 (take n row)
take_utf8 zero row h = tt
take_utf8 (suc n) [] h = tt
take_utf8 (suc n) (v ∷ row) h = (h.0, take_utf8 n row h.1)

groups_utf8 : (n : ℕ) (rows : List (List Val)) → AllByRecursion AreUtf8 rows → AllByRecursion IsUtf8Group (groups n rows)
groups_utf8 zero rows h = ((tt, h), tt)
groups_utf8 (suc n) rows h =
    all_map AreUtf8 IsUtf8Group (λ key. let g : Group = record { key = key; rows = members (suc n) key rows } in g) (keys (suc n) rows)
    (λ key k. (k, all_filter AreUtf8 (λ row. is_same_row key (key_of (suc n) row)) rows h))
    (all_once AreUtf8 (map (key_of (suc n)) rows) (all_map AreUtf8 AreUtf8 (key_of (suc n)) rows (λ row s. take_utf8 (suc n) row s) h))

table_utf8 : (n : ℕ) (functions : List SetFunctionKind) (rows : List (List Val)) → AllByRecursion AreUtf8 rows → AllByRecursion AreUtf8 (grouped_table n functions (record { rows = rows; codes = [] })).rows
table_utf8 n functions rows h = all_flat_map IsUtf8Group AreUtf8 (λ g. rows_given (group_row n functions g)) (groups n rows) (λ g s. given g s (function_values n functions g.rows) (functions_utf8 functions n g.rows s.1)) (groups_utf8 n rows h)
  where
    given : (g : Group) → IsUtf8Group g → (r : Result (List Val) Code) → IfOk r AreUtf8 → AllByRecursion AreUtf8 (rows_given (r >>= (λ values. let q : Result (List (List Val)) Code = Ok ((g.key ++ values) ∷ []) in q)))
    given g s (Ok values) v = (all_append IsUtf8Value g.key values s.0 v, tt)
    given g s (Err code) v = tt

-- ---- the kinds of groups, where no set function counts their rows
key_kinds : (columns : List GroupedColumn) (arguments : List Expression) (row : List Val) → AllZip IsValueOf (map kind_of (map expression_of_column columns ++ arguments)) row → IsRowOf (map type_kind (map (λ (c : GroupedColumn). c.ty) columns)) (take (length columns) row)
key_kinds [] arguments row h = tt
key_kinds (c ∷ columns) arguments [] h = absurd h
key_kinds (c ∷ columns) arguments (v ∷ row) h = (h.0, key_kinds columns arguments row h.1)

zip_more : (types : List Ty) (row : List Val) → IsRowOf (map type_kind types) row → IsRowOf (map type_kind (types ++ [])) (row ++ [])
zip_more [] [] h = tt
zip_more [] (v ∷ row) h = absurd h
zip_more (t ∷ types) [] h = absurd h
zip_more (t ∷ types) (v ∷ row) h = (h.0, zip_more types row h.1)

-- the keys alone are the rows of the grouped table
module _ (columns : List GroupedColumn) (arguments : List Expression) where
  abbrev types : List Ty
  types = map (λ (c : GroupedColumn). c.ty) columns

  abbrev IsKey : List Val → Type 0
  IsKey key = IsRowOf (map type_kind types) key

  no_columns : (cs : List GroupedColumn) → length cs ≡ 0 → IsRowOf (map type_kind (map (λ (c : GroupedColumn). c.ty) cs)) []
  no_columns [] e = tt
  no_columns (c ∷ cs) e = absurd (omega (arith, e))

  groups_kinds : (n : ℕ) → length columns ≡ n → (rows : List (List Val)) → AllByRecursion (AllZip IsValueOf (map kind_of (map expression_of_column columns ++ arguments))) rows → AllByRecursion (λ (g : Group). IsKey g.key) (groups n rows)
  groups_kinds zero e rows h = (no_columns columns e, tt)
  groups_kinds (suc n) e rows h =
      all_map IsKey (λ (g : Group). IsKey g.key) (λ key. let g : Group = record { key = key; rows = members (suc n) key rows } in g) (keys (suc n) rows) (λ key k. k)
      (subst (λ (m : ℕ). AllByRecursion IsKey (keys m rows)) e
      (all_once IsKey (map (key_of (length columns)) rows)
      (all_map (AllZip IsValueOf (map kind_of (map expression_of_column columns ++ arguments))) IsKey (key_of (length columns)) rows (λ row f. key_kinds columns arguments row f) h)))

  keys_kinds : (n : ℕ) → length columns ≡ n → (rows : List (List Val)) → AllByRecursion (AllZip IsValueOf (map kind_of (map expression_of_column columns ++ arguments))) rows →
      AllByRecursion (IsRowOf (map type_kind (types ++ []))) (grouped_table n [] (record { rows = rows; codes = [] })).rows
  keys_kinds n e rows h =
      all_flat_map (λ (g : Group). IsKey g.key) (IsRowOf (map type_kind (types ++ []))) (λ g. rows_given (group_row n [] g)) (groups n rows) (λ g k. (zip_more types g.key k, tt)) (groups_kinds n e rows h)

-- ---- a query over tables of its entries, whose text literals are UTF-8
module _ (query : Grouped) (whole : IsGrouped query) (tables : List (List (List Val))) (loaded : AreOfEntries (entries_of query.sources) tables)
    (sized : AllByRecursion (λ (e : Entry). AllByRecursion (λ (c : ColumnType). IsSized c.ty) e.columns) (entries_of query.sources)) (argument_texts : AllByRecursion (HasLeaves (OfText IsUtf8)) (arguments_of query.functions)) (texts : AllByRecursion (HasLeaves (OfText IsUtf8)) query.items) where
  abbrev IsTableRow : List Val → Type 0
  IsTableRow row = IsRowOf (map type_kind (types_of_group query)) row

  -- rows that reach the groups, few enough where there is a set function to count them
  module _ (rows : List (List Val)) (same : IsPermutation (flow (front query) tables).rows rows) (few : 1 ≤ length query.functions → length (flow (front query) tables).rows < 10 ^ 18) where
    abbrev table : List (List Val)
    table = (grouped_table (length query.columns) (kinds_of query.functions) (record { rows = rows; codes = [] })).rows

    fronts : AllByRecursion (AllZip IsValueOf (map kind_of (front query).items)) rows
    fronts = all_shuffled (AllZip IsValueOf (map kind_of (front query).items)) (flow (front query) tables).rows rows same (kinds_hold (front query) tables whole.front loaded sized)

    table_kinds : (functions : List SetFunction) → query.functions ≡ functions → AllByRecursion IsTableRow table
    table_kinds [] none =
        subst (λ (fs : List SetFunction). AllByRecursion (IsRowOf (map type_kind (map (λ (c : GroupedColumn). c.ty) query.columns ++ map type_of_function fs))) (grouped_table (length query.columns) (kinds_of fs) (record { rows = rows; codes = [] })).rows) (sym none)
        (keys_kinds query.columns (arguments_of query.functions) (length query.columns) refl rows fronts)
    table_kinds (f ∷ functions) is =
        let some : 1 ≤ length query.functions = subst (λ (fs : List SetFunction). 1 ≤ length fs) (sym is) (omega arith) in
        table_typed query whole rows fronts (let less = few some in let count = length_permutation (flow (front query) tables).rows rows same in omega (arith, less, count))

    pub behind_held : AllByRecursion (λ (row : List Val). AllZip (λ (e : Expression) (v : Val). IsHeld (widest (kind_of e)) false v) query.items row) (behind_front query (record { rows = rows; codes = [] })).rows
    behind_held =
        let texts_there = table_utf8 (length query.columns) (kinds_of query.functions) rows (all_shuffled AreUtf8 (flow (front query) tables).rows rows same (rows_utf8 query whole tables loaded sized argument_texts)) in
        all_flat_map (λ (row : List Val). IsTableRow row × AreUtf8 row) (IsHeldRow query.items) (λ row. rows_given (selected query.items row)) (flat_map (λ row. rows_given (kept query.having row)) table)
        (λ row held. selected_held (IsGroupColumn query) row (λ i ty c. (row_holds (types_of_group query) row held.0 i ty c, cell_utf8 i row held.1)) query.items whole.items texts)
        (kept_all (λ (row : List Val). IsTableRow row × AreUtf8 row) query.having table (both_all IsTableRow AreUtf8 (λ (row : List Val). IsTableRow row × AreUtf8 row) table (λ row h g. (h, g)) (table_kinds query.functions refl) texts_there))
