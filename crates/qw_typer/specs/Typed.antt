-- What a query means over a schema's tables, with the names of its result columns and the keys of their order; or
-- its faults (ISO/IEC 9075:1992, 6.3, 6.4, 7.4, 7.6, 7.9, 13.1).
use Rattle.std.specs.Prelude.{◌≡◌, ◌≤◌, ◌+◌, ◌*◌, ℕ, suc, List, [], ◌∷◌, ◌++◌, length, map, Option, position, slice_get, unwrap_or, is_none, if◌then◌else◌, Contains, codes}
use Rattle.std.specs.Fmt.{decimal}
use Rattle.std.specs.List.{flat_map, list_any}
use Rattle.std.specs.Option.{option_and_then, option_map_or}
use Rattle.std.specs.Str.{bytes_eq}
use Rattle.qw_types.specs.Contents.{column_type}
use Rattle.qw_types.specs.declared.schema.Column.{Column}
use Rattle.qw_types.specs.declared.schema.Table.{Table}
use Rattle.qw_scalar.specs.Expression as meaning
use Rattle.qw_meaning.specs.Select as specified
use Rattle.qw_meaning.specs.Select.{Specification}
use Rattle.qw_grouped.specs.Grouped.{Grouped}
use Rattle.qw_grouped.specs.Whole.{Whole, grouped, plain}
use Rattle.qw_order.specs.declared.sort_key.SortKey.{SortKey}
use Rattle.qw_ast.specs.Grammar.{name_of}
use Rattle.qw_ast.specs.Limits.{entries_in, entries_of}
use Rattle.qw_ast.specs.Syntax.{Expression, null, number, text, date, column, signed, arithmetic, extract, searched_case, simple_case, call, count_rows, set_function, Condition, comparison, between, among, predicate, both, either, negation_of, is, bracketed, SelectItem, Selected, all_columns, items, Entry, Joined, Source, Select}
use Rattle.qw_typer.specs.declared.fault.FaultKind.TheVariants.{DuplicateAlias, UnknownTable}
use Rattle.qw_typer.specs.declared.fault.TypeFault.{TypeFault}
use Rattle.qw_typer.specs.declared.fault.TypeFault.TheVariants as type_fault
use Rattle.qw_typer.specs.Meant as scoped
use Rattle.qw_typer.specs.Meant.{Scope, condition_meant, meant, ungrouped}
use Rattle.qw_typer.specs.Faults.{Fault, condition_faults, fault_where, faults, first_token, item_faults, or_own}
use Rattle.qw_typer.specs.Functions.{functions_in}
use Rattle.qw_typer.specs.Grouping.{columns_grouped, function_of, grouping_faults, is_grouped, or_rows, scope_behind, starred, starred_faults}
use Rattle.qw_typer.specs.Keys.{keys_faults, keys_meant}

-- ---- FROM (6.3, 7.4, 7.5). What is said here of a name that is no table means nothing, and only makes the meaning total.

-- the place of the table of a name among the tables, counted from 0
abbrev pub place_of : List Table → List ℕ → Option ℕ
place_of schema name = position (λ (t : Table). bytes_eq name t.name) schema

-- the columns of the table of a name
abbrev pub columns_of : List Table → List ℕ → List Column
columns_of schema name = option_map_or (λ (t : Table). t.columns) (option_and_then (slice_get schema) (place_of schema name)) []

-- an alias hides the table's name
abbrev pub entry_name : Entry → List ℕ
entry_name e = option_map_or name_of e.alias (name_of e.table)

-- an entry, number `index` of FROM
abbrev pub in_scope : List Table → (index : ℕ) → Entry → scoped.Entry
in_scope schema index e = record { name = entry_name e; number = index; table = unwrap_or (place_of schema (name_of e.table)) 0; columns = columns_of schema (name_of e.table) }

-- entries, of which the first is number `index`
abbrev pub entries_from : List Table → (index : ℕ) → List Entry → List scoped.Entry
entries_from schema index [] = []
entries_from schema index (e ∷ es) = in_scope schema index e ∷ entries_from schema (index + 1) es

abbrev pub entries_named : List Table → Select → List scoped.Entry
entries_named schema s = entries_from schema 0 (entries_of s.sources)

-- WHERE reaches all entries, and so do GROUP BY and the arguments of set functions
abbrev pub scope_of : List Table → Select → Scope
scope_of schema s = ungrouped (entries_named schema s)

-- and so do the select list and HAVING, in a grouped query over its grouped table (7.8, 7.9)
abbrev pub scope_over : List Table → Select → Scope
scope_over schema s = scope_behind (entries_named schema s) s

-- an entry has the columns of its table, each with its type and NOT NULL (11.4)
abbrev pub entry_meant : scoped.Entry → specified.Entry
entry_meant e = record { table = e.table; columns = map column_type e.columns }

-- ---- WHERE (7.6)

-- the operands of the outermost AND chain, as they are written
abbrev pub conjuncts_of : Condition → List Condition
conjuncts_of (both c d) = conjuncts_of c ++ d ∷ []
conjuncts_of (comparison op a b) = comparison op a b ∷ []
conjuncts_of (between negated x a b) = between negated x a b ∷ []
conjuncts_of (among negated x es) = among negated x es ∷ []
conjuncts_of (predicate p negated a) = predicate p negated a ∷ []
conjuncts_of (either c d) = either c d ∷ []
conjuncts_of (negation_of c) = negation_of c ∷ []
conjuncts_of (is negated c t) = is negated c t ∷ []
conjuncts_of (bracketed c) = bracketed c ∷ []

abbrev pub conjuncts : Select → List Condition
conjuncts s = option_map_or conjuncts_of s.filter []

-- those of HAVING (7.8)
abbrev pub conjuncts_having : Select → List Condition
conjuncts_having s = option_map_or conjuncts_of s.having []

-- those of each ON (7.5)
abbrev pub conjuncts_on : Select → List Condition
conjuncts_on s = flat_map (λ (source : Source). flat_map (λ (j : Joined). conjuncts_of j.on) source.joins) s.sources

-- An ON reaches the entries of its source up to its own, number `index`: those before it, `reached`, and its own (7.5).
abbrev pub joins_meant : List Table → (reached : List scoped.Entry) → (index : ℕ) → List Joined → List specified.Joined
joins_meant schema reached index [] = []
joins_meant schema reached index (j ∷ joins) =
    record { entry = entry_meant (in_scope schema index j.entry); outer = j.outer; on = map (condition_meant (ungrouped (reached ++ in_scope schema index j.entry ∷ []))) (conjuncts_of j.on) }
    ∷ joins_meant schema (reached ++ in_scope schema index j.entry ∷ []) (index + 1) joins

-- sources, of which the first begins with entry number `index`
abbrev pub sources_meant : List Table → (index : ℕ) → List Source → List specified.Source
sources_meant schema index [] = []
sources_meant schema index (source ∷ sources) =
    record { first = entry_meant (in_scope schema index source.first); joins = joins_meant schema (in_scope schema index source.first ∷ []) (index + 1) source.joins }
    ∷ sources_meant schema (index + length (entries_in source)) sources

-- ---- the select list (7.9)

-- the columns in order, from a place on
abbrev pub columns_from : ℕ → List Column → List meaning.Expression
columns_from place [] = []
columns_from place (c ∷ cs) = meaning.column place c.ty ∷ columns_from (suc place) cs

-- all columns of all entries, and their names
abbrev pub columns_meant : List scoped.Entry → List meaning.Expression
columns_meant entries = flat_map (λ (e : scoped.Entry). columns_from (64 * e.number) e.columns) entries

abbrev pub column_names : List scoped.Entry → List (List ℕ)
column_names entries = flat_map (λ (e : scoped.Entry). map (λ (c : Column). c.name) e.columns) entries

-- `*` is all of them, in a grouped query over its grouped table
abbrev pub items_meant : Scope → Selected → List meaning.Expression
items_meant scope all_columns = starred scope.grouping (columns_meant scope.entries)
items_meant scope (items list) = map (λ (i : SelectItem). meant scope i.value) list

-- an expression that is a column is named by it, any other by C and its position from 1
abbrev pub own_name : ℕ → Expression → List ℕ
own_name position' null = codes "C" ++ decimal position'
own_name position' (number octets) = codes "C" ++ decimal position'
own_name position' (text octets) = codes "C" ++ decimal position'
own_name position' (date string intervals) = codes "C" ++ decimal position'
own_name position' (column qualifier name) = name_of name
own_name position' (signed sign a) = codes "C" ++ decimal position'
own_name position' (arithmetic operator a b) = codes "C" ++ decimal position'
own_name position' (extract field a) = codes "C" ++ decimal position'
own_name position' (searched_case branches) = codes "C" ++ decimal position'
own_name position' (simple_case x branches) = codes "C" ++ decimal position'
own_name position' (call function es) = codes "C" ++ decimal position'
own_name position' (count_rows place) = codes "C" ++ decimal position'
own_name position' (set_function place f a) = codes "C" ++ decimal position'

-- a name behind the expression comes first
abbrev pub item_name : ℕ → SelectItem → List ℕ
item_name position' i = option_map_or name_of i.name (own_name position' i.value)

abbrev pub item_names : ℕ → List SelectItem → List (List ℕ)
item_names position' [] = []
item_names position' (i ∷ others) = item_name position' i ∷ item_names (suc position') others

-- the names of the result columns
abbrev pub result_names : Scope → Selected → List (List ℕ)
result_names scope all_columns = column_names scope.entries
result_names scope (items list) = item_names 1 list

-- ---- the faults of a query

abbrev pub list_faults : Scope → List SelectItem → List Fault
list_faults scope [] = []
list_faults scope (i ∷ others) = or_own (faults scope i.value) (item_faults (first_token i.value) (meant scope i.value)) ++ list_faults scope others

abbrev pub selected_faults : Scope → Selected → List Fault
selected_faults scope all_columns = starred_faults scope.grouping (columns_meant scope.entries)
selected_faults scope (items list) = list_faults scope list

abbrev pub filter_faults : Scope → Select → List Fault
filter_faults scope s = option_map_or (condition_faults scope) s.filter []

-- of each ON over what it reaches
abbrev pub joins_faults : List Table → (reached : List scoped.Entry) → (index : ℕ) → List Joined → List Fault
joins_faults schema reached index [] = []
joins_faults schema reached index (j ∷ joins) =
    condition_faults (ungrouped (reached ++ in_scope schema index j.entry ∷ [])) j.on ++ joins_faults schema (reached ++ in_scope schema index j.entry ∷ []) (index + 1) joins

abbrev pub sources_faults : List Table → (index : ℕ) → List Source → List Fault
sources_faults schema index [] = []
sources_faults schema index (source ∷ sources) =
    joins_faults schema (in_scope schema index source.first ∷ []) (index + 1) source.joins ++ sources_faults schema (index + length (entries_in source)) sources

-- of entries, `before` being the names of those before them: a name that is no table, and the name of an entry before (6.3)
abbrev pub entries_faults : List Table → (before : List (List ℕ)) → List Entry → List Fault
entries_faults schema before [] = []
entries_faults schema before (e ∷ es) =
    (fault_where (is_none (place_of schema (name_of e.table))) UnknownTable (name_of e.table) ++ fault_where (list_any (bytes_eq (entry_name e)) before) DuplicateAlias (entry_name e))
    ++ entries_faults schema (before ++ entry_name e ∷ []) es

-- of HAVING
abbrev pub having_faults : Scope → Select → List Fault
having_faults scope s = option_map_or (condition_faults scope) s.having []

-- over the entries of FROM: of GROUP BY and the set functions, and without one of these of the other clauses
abbrev pub over_faults : List Table → Select → List Fault
over_faults schema s =
    or_own (grouping_faults (entries_named schema s) s) (selected_faults (scope_over schema s) s.selected ++ (sources_faults schema 0 s.sources ++ (having_faults (scope_over schema s) s ++ filter_faults (scope_of schema s) s)))

-- of the keys of ORDER BY over the result columns
abbrev pub order_faults : List Table → Select → List Fault
order_faults schema s = keys_faults (result_names (scope_over schema s) s.selected) s.order

-- the faults of the entries of FROM; without one those of the expressions over their columns; and without one of these those of the keys
abbrev pub query_faults : List Table → Select → List Fault
query_faults schema s = or_own (entries_faults schema [] (entries_of s.sources)) (or_own (over_faults schema s) (order_faults schema s))

-- ---- what a query means

-- the specification of one that isn't grouped
abbrev pub specification_meant : List Table → Select → Specification
specification_meant schema s = record {
  sources = sources_meant schema 0 s.sources;
  conjuncts = map (condition_meant (scope_of schema s)) (conjuncts s);
  items = items_meant (scope_of schema s) s.selected;
}

-- one with GROUP BY, HAVING or a set function (7.7 to 7.9)
abbrev pub grouped_meant : List Table → Select → Grouped
grouped_meant schema s = record {
  sources = sources_meant schema 0 s.sources;
  conjuncts = map (condition_meant (scope_of schema s)) (conjuncts s);
  columns = columns_grouped (entries_named schema s) s.grouping;
  functions = or_rows (columns_grouped (entries_named schema s) s.grouping) (map (function_of (entries_named schema s)) (functions_in s));
  having = map (condition_meant (scope_over schema s)) (conjuncts_having s);
  items = items_meant (scope_over schema s) s.selected;
}

-- and whether each row is kept once (7.9)
abbrev pub whole_meant : List Table → Select → Whole
whole_meant schema s = record { body = if is_grouped s then grouped (grouped_meant schema s) else plain (specification_meant schema s); distinct = s.distinct }

-- The query has no fault, and means this one, whose result columns have these names, and these keys for the order of its rows.
pub record Means (schema : List Table) (s : Select) (whole : Whole) (names : List (List ℕ)) (keys : List SortKey) : Type 0 where
  pub faultless : query_faults schema s ≡ []
  pub whole_is : whole ≡ whole_meant schema s
  pub names_are : names ≡ result_names (scope_over schema s) s.selected
  pub keys_are : keys ≡ keys_meant (result_names (scope_over schema s) s.selected) s.order

-- ---- a script

-- The first query that has a fault, counted from k on, and one of its faults.
pub data HasFirstFault (schema : List Table) : ℕ → List Select → TypeFault → Type 0 where
  here : (k : ℕ) (s : Select) (others : List Select) (fault : Fault) → Contains (query_faults schema s) fault → HasFirstFault schema k (s ∷ others) (type_fault.Fault k fault.kind fault.name)
  later : (k : ℕ) (s : Select) (others : List Select) (fault : TypeFault) → query_faults schema s ≡ [] → HasFirstFault schema (suc k) others fault → HasFirstFault schema k (s ∷ others) fault

-- one item or more, at most 64
abbrev pub HasFewItems : Selected → Type 0
HasFewItems all_columns = Unit {0}
HasFewItems (items list) = (1 ≤ length list) × (length list ≤ 64)

-- the sizes of a query
pub record IsWithin (s : Select) : Type 0 where
  pub some_source : 1 ≤ length s.sources
  pub few_entries : length (entries_of s.sources) ≤ 8
  pub items : HasFewItems s.selected
  pub few_columns : length s.grouping ≤ 64
  pub conjuncts : length (conjuncts_on s) + length (conjuncts s) + length (conjuncts_having s) ≤ 1000
