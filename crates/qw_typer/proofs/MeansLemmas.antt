-- What follows of what a query means: its entries are tables of the schema, each item has a kind and a name, and each key is
-- a result column.
use Rattle.std.specs.Prelude.{if◌then◌else◌, codes}
use Rattle.std.proofs.Common.{Bool, position, ◌==◌, ◌≡◌, ℕ, suc, true, false, List, [], ◌∷◌, ◌++◌, ◌+◌, ◌*◌, arith, map, length, get_or, Option, Some, None, refl, sym, ap, ◌∙◌, slice_get, subst, is_none}
use Rattle.std.specs.List.{AllByRecursion, list_any}
use Rattle.std.specs.Str.{bytes_eq}
use Rattle.std.proofs.lemmas.Bool.{or_parts}
use Rattle.std.proofs.lemmas.List.{length-append, length-map}
use Rattle.std.proofs.lemmas.List.Quantifiers.{position-Some}
use Rattle.std.proofs.lemmas.Option.{slice_get-get_or}
use Rattle.qw_types.specs.Contents.{column_type}
use Rattle.qw_types.specs.declared.schema.Column.{Column}
use Rattle.qw_types.specs.declared.schema.Table.{Table}
use Rattle.qw_scalar.specs.Expression as meaning
use Rattle.qw_scalar.specs.Typing.{has_kind, kind_of}
use Rattle.qw_order.specs.declared.sort_key.SortKey.{SortKey}
use Rattle.qw_meaning.specs.Select as specified
use Rattle.qw_grouped.specs.Whole.{Body, Whole, grouped, plain, sources_in}
use Rattle.qw_grouped.specs.declared.query.GroupedColumn.{GroupedColumn}
use Rattle.qw_ast.specs.Grammar.{name_of}
use Rattle.qw_ast.specs.Limits.{entries_of}
use Rattle.qw_ast.specs.Syntax as written
use Rattle.qw_ast.specs.Syntax.{SelectItem, Selected, all_columns, items, Select}
use Rattle.qw_typer.specs.declared.fault.FaultKind.TheVariants.{DuplicateAlias, NotGrouped, UnknownTable}
use Rattle.qw_typer.specs.Faults.{fault_where, faults, first_token, item_faults, or_own}
use Rattle.qw_typer.specs.Grouping.{grouping_faults, has_ungrouped, is_grouped, starred, starred_faults}
use Rattle.qw_typer.specs.Meant.{Entry, Grouping, Scope, column_grouped, meant}
use Rattle.qw_typer.specs.Typed.{Means, columns_from, columns_meant, column_names, entries_faults, entries_from, entry_meant, entry_name, in_scope, item_names, items_meant, list_faults, order_faults, over_faults, place_of, result_names, entries_named, grouped_meant, scope_over, selected_faults, sources_meant, specification_meant}
use Rattle.qw_typer.proofs.GroupedLemmas.{plain_scope}
use Rattle.qw_typer.proofs.GroupedSound.{has_kind_at, starred_more}
use Rattle.qw_typer.proofs.LawLemmas.{entries_meant, starred_length}
use Rattle.qw_typer.proofs.StarLemmas.{ungrouped_both}
use Rattle.qw_typer.proofs.SoundLemmas.{all_both, no_both, no_own, not_where, tested}

-- ---- what is asked

-- the select list
abbrev pub items_in : Body → List meaning.Expression
items_in (plain specification) = specification.items
items_in (grouped query) = query.items

body_items : (schema : List Table) (s : Select) (b : Bool) → is_grouped s ≡ b → items_in (if b then grouped (grouped_meant schema s) else plain (specification_meant schema s)) ≡ items_meant (scope_over schema s) s.selected
body_items schema s true e = refl
body_items schema s false e = ap (λ (sc : Scope). items_meant sc s.selected) (sym (plain_scope schema s e))

body_sources : (schema : List Table) (s : Select) (b : Bool) → sources_in (if b then grouped (grouped_meant schema s) else plain (specification_meant schema s)) ≡ sources_meant schema 0 s.sources
body_sources schema s true = refl
body_sources schema s false = refl

items_are : (schema : List Table) (s : Select) (whole : Whole) (names : List (List ℕ)) (keys : List SortKey) → Means schema s whole names keys → items_in whole.body ≡ items_meant (scope_over schema s) s.selected
items_are schema s whole names keys means = ap (λ (w : Whole). items_in w.body) means.whole_is ∙ body_items schema s (is_grouped s) refl

-- ---- entries

-- the entry is a table of the schema, with its columns
pub record IsOfTable (schema : List Table) (e : specified.Entry) : Type 0 where
  pub table : Table
  pub there : slice_get schema e.table ≡ Some table
  pub columns_are : e.columns ≡ map column_type table.columns

entry_there : (schema : List Table) (number : ℕ) (w : written.Entry) → is_none (place_of schema (name_of w.table)) ≡ false → IsOfTable schema (entry_meant (in_scope schema number w))
entry_there schema number w known = by_place (place_of schema (name_of w.table)) refl known
  where
    none : Table
    none = record { name = []; columns = [] }

    by_place : (o : Option ℕ) → place_of schema (name_of w.table) ≡ o → is_none o ≡ false → IsOfTable schema (entry_meant (in_scope schema number w))
    by_place None e some = absurd cc
    by_place (Some i) e some =
        let t = get_or schema i none in
        let before = (position-Some (λ (u : Table). bytes_eq (name_of w.table) u.name) schema i none e).0 in
        let there : slice_get schema i ≡ Some t = slice_get-get_or schema i none before in
        record { table = t; there = rw e there; columns_are = rw (e, there) refl }

scope_there : (schema : List Table) (before : List (List ℕ)) (number : ℕ) (es : List written.Entry) → entries_faults schema before es ≡ [] → AllByRecursion (IsOfTable schema) (map entry_meant (entries_from schema number es))
scope_there schema before number [] h = tt
scope_there schema before number (e ∷ es) h =
    let fs = fault_where (is_none (place_of schema (name_of e.table))) UnknownTable (name_of e.table) in
    let gs = fault_where (list_any (bytes_eq (entry_name e)) before) DuplicateAlias (entry_name e) in
    let q = no_both (fs ++ gs) (entries_faults schema (before ++ entry_name e ∷ []) es) h in
    let p = no_both fs gs q.0 in
    (entry_there schema number e (not_where (is_none (place_of schema (name_of e.table))) UnknownTable (name_of e.table) p.0), scope_there schema (before ++ entry_name e ∷ []) (number + 1) es q.1)

pub entries_there : (schema : List Table) (s : Select) (whole : Whole) (names : List (List ℕ)) (keys : List SortKey) → Means schema s whole names keys → AllByRecursion (IsOfTable schema) (specified.entries_of (sources_in whole.body))
entries_there schema s whole names keys means =
    let q = no_own (entries_faults schema [] (entries_of s.sources)) (or_own (over_faults schema s) (order_faults schema s)) means.faultless in
    let same : map entry_meant (entries_from schema 0 (entries_of s.sources)) ≡ specified.entries_of (sources_in whole.body) = sym (ap (λ (w : Whole). specified.entries_of (sources_in w.body)) means.whole_is ∙ ap specified.entries_of (body_sources schema s (is_grouped s)) ∙ entries_meant schema 0 s.sources) in
    subst (AllByRecursion (IsOfTable schema)) same (scope_there schema [] 0 (entries_of s.sources) q.0)

-- ---- items

abbrev HaveKinds : List meaning.Expression → Type 0
HaveKinds es = AllByRecursion (λ (e : meaning.Expression). has_kind (kind_of e) ≡ true) es

column_kinds : (place : ℕ) (columns : List Column) → HaveKinds (columns_from place columns)
column_kinds place [] = tt
column_kinds place (c ∷ columns) = (refl, column_kinds (suc place) columns)

all_kinds : (entries : List Entry) → HaveKinds (columns_meant entries)
all_kinds [] = tt
all_kinds (e ∷ es) = all_both (λ (x : meaning.Expression). has_kind (kind_of x) ≡ true) (columns_from (64 * e.number) e.columns) (columns_meant es) (column_kinds (64 * e.number) e.columns) (all_kinds es)

starred_kinds : (g : Grouping) (place : ℕ) (columns : List Column) → has_ungrouped g (columns_from place columns) ≡ false → HaveKinds (starred (Some g) (columns_from place columns))
starred_kinds g place [] h = tt
starred_kinds g place (c ∷ columns) h =
    let q = or_parts (is_none (column_grouped g (meaning.column place c.ty))) (has_ungrouped g (columns_from (suc place) columns)) h in
    (has_kind_at g (position (λ (d : GroupedColumn). d.number == place) g.columns) q.0, starred_kinds g (suc place) columns q.1)

all_grouped : (g : Grouping) (entries : List Entry) → has_ungrouped g (columns_meant entries) ≡ false → HaveKinds (starred (Some g) (columns_meant entries))
all_grouped g [] h = tt
all_grouped g (e ∷ es) h =
    let q = ungrouped_both g (columns_from (64 * e.number) e.columns) (columns_meant es) h in
    let here = columns_from (64 * e.number) e.columns in
    subst HaveKinds (sym (starred_more g here (columns_meant es)))
    (all_both (λ (x : meaning.Expression). has_kind (kind_of x) ≡ true) (starred (Some g) here) (starred (Some g) (columns_meant es)) (starred_kinds g (64 * e.number) e.columns q.0) (all_grouped g es q.1))

all_starred : (grouping : Option Grouping) (entries : List Entry) → starred_faults grouping (columns_meant entries) ≡ [] → HaveKinds (starred grouping (columns_meant entries))
all_starred None entries h = all_kinds entries
all_starred (Some g) entries h = all_grouped g entries (not_where (has_ungrouped g (columns_meant entries)) NotGrouped (codes "*") h)

list_kinds : (scope : Scope) (list : List SelectItem) → list_faults scope list ≡ [] → HaveKinds (map (λ (i : SelectItem). meant scope i.value) list)
list_kinds scope [] h = tt
list_kinds scope (i ∷ others) h =
    let q = no_both (or_own (faults scope i.value) (item_faults (first_token i.value) (meant scope i.value))) (list_faults scope others) h in
    let p = no_own (faults scope i.value) (item_faults (first_token i.value) (meant scope i.value)) q.0 in
    (tested (has_kind (kind_of (meant scope i.value))) _ _ p.1, list_kinds scope others q.1)

item_kinds : (scope : Scope) (selected : Selected) → selected_faults scope selected ≡ [] → HaveKinds (items_meant scope selected)
item_kinds scope all_columns h = all_starred scope.grouping scope.entries h
item_kinds scope (items list) h = list_kinds scope list h

-- each item has a kind
pub items_have_kinds : (schema : List Table) (s : Select) (whole : Whole) (names : List (List ℕ)) (keys : List SortKey) → Means schema s whole names keys → AllByRecursion (λ (e : meaning.Expression). has_kind (kind_of e) ≡ true) (items_in whole.body)
items_have_kinds schema s whole names keys means =
    let q = no_own (entries_faults schema [] (entries_of s.sources)) (or_own (over_faults schema s) (order_faults schema s)) means.faultless in
    let r = no_own (over_faults schema s) (order_faults schema s) q.1 in
    let own = no_own (grouping_faults (entries_named schema s) s) _ r.0 in
    let p = no_both (selected_faults (scope_over schema s) s.selected) _ own.1 in
    subst HaveKinds (sym (items_are schema s whole names keys means)) (item_kinds (scope_over schema s) s.selected p.0)

-- ---- names

many_columns : (place : ℕ) (columns : List Column) → length (columns_from place columns) ≡ length columns
many_columns place [] = refl
many_columns place (c ∷ columns) = ap suc (many_columns (suc place) columns)

many_named : (position' : ℕ) (list : List SelectItem) → length (item_names position' list) ≡ length list
many_named position' [] = refl
many_named position' (i ∷ others) = ap suc (many_named (suc position') others)

many_of_all : (entries : List Entry) → length (column_names entries) ≡ length (columns_meant entries)
many_of_all [] = refl
many_of_all (e ∷ es) =
    let a = length-append (map (λ (c : Column). c.name) e.columns) (column_names es) in
    let b = length-append (columns_from (64 * e.number) e.columns) (columns_meant es) in
    let c = length-map e.columns (λ (c : Column). c.name) in
    let d = many_columns (64 * e.number) e.columns in
    let others = many_of_all es in
    omega (arith, a, b, c, d, others)

many : (scope : Scope) (selected : Selected) → length (result_names scope selected) ≡ length (items_meant scope selected)
many scope all_columns = many_of_all scope.entries ∙ sym (starred_length scope.grouping (columns_meant scope.entries))
many scope (items list) = many_named 1 list ∙ sym (length-map list (λ (i : SelectItem). meant scope i.value))

-- there are as many names as items
pub many_names : (schema : List Table) (s : Select) (whole : Whole) (names : List (List ℕ)) (keys : List SortKey) → Means schema s whole names keys → length names ≡ length (items_in whole.body)
many_names schema s whole names keys means =
    ap (λ (ns : List (List ℕ)). length ns) means.names_are ∙ many (scope_over schema s) s.selected ∙ sym (ap (λ (es : List meaning.Expression). length es) (items_are schema s whole names keys means))
