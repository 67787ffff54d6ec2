-- A grouped query that has no fault is typed: GROUP BY and the arguments over the columns of FROM, HAVING and the select list over the grouped table.
use Rattle.std.proofs.Common.{◌≡◌, ℕ, suc, ◌+◌, ◌*◌, ◌≤◌, ◌==◌, Bool, true, false, nat_le, not, List, [], ◌∷◌, ◌++◌, map, length, position, Option, Some, None, is_none, unwrap_or, option_map, slice_get, refl, sym, ap, ◌∙◌, arith, subst, inl, inr}
use Rattle.std.specs.Prelude.{if◌then◌else◌, codes}
use Rattle.std.specs.List.{AllByRecursion}
use Rattle.std.specs.Option.{option_and_then}
use Rattle.std.specs.Str.{bytes_eq}
use Rattle.std.proofs.lemmas.Bool.{or_parts}
use Rattle.std.proofs.lemmas.Bool.Decides.{nat_tests}
use Rattle.std.proofs.lemmas.List.{length-append, map-append}
use Rattle.qw_types.specs.Value.{IsSized}
use Rattle.qw_types.specs.declared.kind.Kind.{Kind}
use Rattle.qw_types.specs.declared.kind.Kind.TheVariants as kind
use Rattle.qw_types.specs.declared.schema.Column.{Column}
use Rattle.qw_types.specs.declared.schema.Table.{Table}
use Rattle.qw_types.specs.declared.value.Ty.{Ty}
use Rattle.qw_scalar.specs.Expression as meaning
use Rattle.qw_scalar.specs.Typing.{has_kind, is_number, kind_of}
use Rattle.qw_meaning.specs.Select as specified
use Rattle.qw_meaning.specs.Select.{IsColumnOf, IsConditionOver, IsItemOver}
use Rattle.qw_grouped.specs.Grouped as group
use Rattle.qw_grouped.specs.Grouped.{Grouped, HasAverage, IsGroupColumn, IsGrouped, Takes, arguments_of, expression_of_column, finer, type_of_function, widest}
use Rattle.qw_grouped.specs.declared.query.GroupedColumn.{GroupedColumn}
use Rattle.qw_ast.specs.declared.script.SetFunction.{SetFunction}
use Rattle.qw_ast.specs.declared.script.SetFunction.TheVariants.{Count, Sum, Avg, Min, Max}
use Rattle.qw_ast.specs.Grammar.{name_of}
use Rattle.qw_ast.specs.Limits.{entries_of}
use Rattle.qw_ast.specs.Syntax.{column, Reference, Select, Selected, all_columns, items}
use Rattle.qw_typer.specs.declared.fault.FaultKind.TheVariants.{NotGrouped}
use Rattle.qw_typer.specs.Faults.{Fault, argument_faults, counted_faults, fault_where, faults, first_token, has_scale, or_own, reference_faults, takes}
use Rattle.qw_typer.specs.Functions.{Written, counted, applied, functions_in}
use Rattle.qw_typer.specs.Grouping.{as_grouped, columns_faults, columns_grouped, function_column, function_faults, function_of, functions_faults, grouping_faults, grouping_of, has_ungrouped, is_grouped, kind_of_function, many_faults, or_rows, rows_counted, starred}
use Rattle.qw_typer.specs.Meant.{Entry, FunctionColumn, Grouping, Scope, column_grouped, column_named, condition_meant, first_of, is_qualified, listed, meant, referred, ungrouped}
use Rattle.qw_typer.specs.Typed.{IsWithin, columns_from, columns_meant, conjuncts, conjuncts_having, entries_named, entry_meant, filter_faults, grouped_meant, having_faults, items_meant, over_faults, scope_of, selected_faults, sources_faults, sources_meant}
use Rattle.qw_typer.specs.Inner.Grouping.{over_group}
use Rattle.qw_typer.specs.Inner.Queries.{HaveTables}
use Rattle.qw_typer.specs.Inner.Typing.{kind_scale}
use Rattle.qw_typer.proofs.GroupedLemmas.{behind_faults, group_scope, grouped_over}
use Rattle.qw_typer.proofs.LawLemmas.{condition_more, conjuncts_of_sources, entries_meant, filter_over, in_scope_of, item_more, length_map, length_scope, list_over, ones_from, sized_ones, some_entry, some_items, specified_query}
use Rattle.qw_typer.proofs.StarLemmas.{ungrouped_both}
use Rattle.qw_typer.proofs.SoundLemmas.{AreSized, HasSized, HasSizedTypes, IsAt, IsGood, Reaches, all_both, all_more, good, grouped_good, no_both, no_own, not_where, sized_type, tested, types_of}

-- ---- columns of GROUP BY

abbrev IsPlace : meaning.Expression → Type 0
IsPlace (meaning.column i ty) = Unit {0}
IsPlace meaning.null = ⊥
IsPlace (meaning.number v s) = ⊥
IsPlace (meaning.date d) = ⊥
IsPlace (meaning.text t) = ⊥
IsPlace (meaning.arithmetic operator a b) = ⊥
IsPlace (meaning.negative a) = ⊥
IsPlace (meaning.extract field a) = ⊥
IsPlace (meaning.brought a s) = ⊥
IsPlace (meaning.choice c a b) = ⊥
IsPlace (meaning.given w k most v) = ⊥
IsPlace (meaning.cell i ty most) = ⊥

placed : (entry : Entry) (k : ℕ) (o : Option Column) → AllByRecursion IsPlace (listed (option_map (λ (c : Column). meaning.column (64 * entry.number + k) c.ty) o))
placed entry k None = tt
placed entry k (Some c) = (tt, tt)

named_places : (entry : Entry) (o : Option ℕ) → AllByRecursion IsPlace (listed (option_and_then (λ (k : ℕ). option_map (λ (c : Column). meaning.column (64 * entry.number + k) c.ty) (slice_get entry.columns k)) o))
named_places entry None = tt
named_places entry (Some k) = placed entry k (slice_get entry.columns k)

if_places : (b : Bool) (es : List meaning.Expression) → AllByRecursion IsPlace es → AllByRecursion IsPlace (if b then es else [])
if_places true es h = h
if_places false es h = tt

referred_places : (entries : List Entry) (qualifier : Option (List ℕ)) (name : List ℕ) → AllByRecursion IsPlace (referred entries qualifier name)
referred_places [] qualifier name = tt
referred_places (e ∷ es) qualifier name =
    let here = listed (column_named e name) in
    all_both IsPlace (if is_qualified qualifier e then here else []) (referred es qualifier name) (if_places (is_qualified qualifier e) here (named_places e (position (λ (c : Column). bytes_eq name c.name) e.columns))) (referred_places es qualifier name)

only_place : (name : List ℕ) (es : List meaning.Expression) → counted_faults name es ≡ [] → AllByRecursion IsPlace es → IsPlace (first_of es)
only_place name [] none all = absurd cc
only_place name (e ∷ []) none all = all.0
only_place name (e ∷ f ∷ es) none all = absurd cc

sized_types : (columns : List Column) → HasSized columns → AllByRecursion IsSized (types_of columns)
sized_types [] h = tt
sized_types (c ∷ cs) h = (h.0, sized_types cs h.1)

at_sized : (entries : List Entry) (i : ℕ) (ty : Ty) → AreSized entries → IsAt entries i ty → IsSized ty
at_sized [] i ty s at = absurd at
at_sized (e ∷ es) i ty s (inl here) = sized_type (types_of e.columns) here.0 ty (sized_types e.columns s.0) here.2
at_sized (e ∷ es) i ty s (inr later) = at_sized es i ty s.1 later

-- a column of FROM as one of GROUP BY
pub record IsSoundColumn (entries : List Entry) (c : GroupedColumn) : Type 0 where
  pub item : IsItemOver (IsAt entries) (expression_of_column c)
  pub sized : IsSized c.ty

column_sound : (entries : List Entry) → AreSized entries → (m : meaning.Expression) → IsPlace m → IsGood (IsAt entries) m → IsSoundColumn entries (as_grouped m)
column_sound entries s (meaning.column i ty) p g = record { item = ((g.typed, refl), g.columns); sized = at_sized entries i ty s g.columns }
column_sound entries s meaning.null p g = absurd p
column_sound entries s (meaning.number v sc) p g = absurd p
column_sound entries s (meaning.date d) p g = absurd p
column_sound entries s (meaning.text t) p g = absurd p
column_sound entries s (meaning.arithmetic operator a b) p g = absurd p
column_sound entries s (meaning.negative a) p g = absurd p
column_sound entries s (meaning.extract field a) p g = absurd p
column_sound entries s (meaning.brought a sc) p g = absurd p
column_sound entries s (meaning.choice c a b) p g = absurd p
column_sound entries s (meaning.given w k most v) p g = absurd p
column_sound entries s (meaning.cell i ty most) p g = absurd p

reference_sound : (entries : List Entry) → AreSized entries → (r : Reference) → reference_faults entries r.qualifier r.name ≡ [] → IsSoundColumn entries (as_grouped (meant (ungrouped entries) (column r.qualifier r.name)))
reference_sound entries s r h =
    let es = referred entries (option_map name_of r.qualifier) (name_of r.name) in
    let own = no_own _ (counted_faults (name_of r.name) es) h in
    column_sound entries s (first_of es) (only_place (name_of r.name) es own.1 (referred_places entries (option_map name_of r.qualifier) (name_of r.name)))
    (good (ungrouped entries) (s, tt) (column r.qualifier r.name) (ap (λ (fs : List Fault). or_own fs []) h))

columns_sound : (entries : List Entry) → AreSized entries → (references : List Reference) → columns_faults entries references ≡ [] → AllByRecursion (IsSoundColumn entries) (columns_grouped entries references)
columns_sound entries s [] h = tt
columns_sound entries s (r ∷ references) h =
    let q = no_both (reference_faults entries r.qualifier r.name) (columns_faults entries references) h in
    (reference_sound entries s r q.0, columns_sound entries s references q.1)

columns_over : (entries : List Entry) (columns : List GroupedColumn) → AllByRecursion (IsSoundColumn entries) columns → AllByRecursion (IsItemOver (IsAt entries)) (map expression_of_column columns)
columns_over entries [] h = tt
columns_over entries (c ∷ cs) h = (h.0.item, columns_over entries cs h.1)

columns_sized : (entries : List Entry) (columns : List GroupedColumn) → AllByRecursion (IsSoundColumn entries) columns → AllByRecursion IsSized (map (λ (c : GroupedColumn). c.ty) columns)
columns_sized entries [] h = tt
columns_sized entries (c ∷ cs) h = (h.0.sized, columns_sized entries cs h.1)

-- ---- set functions

pub record IsSound (entries : List Entry) (f : group.SetFunction) : Type 0 where
  pub item : IsItemOver (IsAt entries) f.argument
  pub takes : Takes f.kind f.argument
  pub sized : IsSized (type_of_function f)

number_kind : (k : Option Kind) → is_number k ≡ true → has_kind k ≡ true
number_kind None h = absurd cc
number_kind (Some k) h = refl

average : (k : Option Kind) → is_number k ≡ true → kind_scale k ≤ 14 → HasAverage k
average None n h = absurd cc
average (Some (kind.Number s)) n h = h
average (Some kind.Date) n h = absurd cc
average (Some kind.Text) n h = absurd cc

widest_sized : (k : Option Kind) → kind_scale k ≤ 18 → IsSized (widest k)
widest_sized None h = tt
widest_sized (Some (kind.Number s)) h = (omega arith, omega arith, h)
widest_sized (Some kind.Date) h = tt
widest_sized (Some kind.Text) h = (omega arith, omega arith)

finer_sized : (k : Option Kind) → is_number k ≡ true → kind_scale k ≤ 14 → IsSized (widest (finer k))
finer_sized None n h = absurd cc
finer_sized (Some (kind.Number s)) n h = (omega arith, omega arith, omega (arith, h))
finer_sized (Some kind.Date) n h = absurd cc
finer_sized (Some kind.Text) n h = absurd cc

count_sized : IsSized (widest (Some (kind.Number 0)))
count_sized = (omega arith, omega arith, omega arith)

fourteen : (s : ℕ) → nat_le s 14 ≡ true → s ≤ 14
fourteen s h = grind (arith, nat_tests)

rows_sound : (entries : List Entry) → IsSound entries rows_counted
rows_sound entries = record { item = (((refl, omega arith), refl), tt); takes = refl; sized = count_sized }

argument_sound : (entries : List Entry) (f : SetFunction) (x : meaning.Expression) → takes f (kind_of x) ≡ true → has_scale f (meaning.scale_of x) ≡ true → IsGood (IsAt entries) x → IsSound entries (record { kind = kind_of_function f; argument = x })
argument_sound entries Count x t sc g = record { item = ((g.typed, t), g.columns); takes = tt; sized = count_sized }
argument_sound entries Sum x t sc g =
    let small = g.small in
    let scaled = g.scaled in
    record { item = ((g.typed, number_kind (kind_of x) t), g.columns); takes = t; sized = widest_sized (kind_of x) (omega (arith, small, scaled)) }
argument_sound entries Avg x t sc g =
    let few = fourteen (meaning.scale_of x) sc in
    let scaled = g.scaled in
    let low : kind_scale (kind_of x) ≤ 14 = omega (arith, few, scaled) in
    record { item = ((g.typed, number_kind (kind_of x) t), g.columns); takes = average (kind_of x) t low; sized = finer_sized (kind_of x) t low }
argument_sound entries Min x t sc g =
    let small = g.small in
    let scaled = g.scaled in
    record { item = ((g.typed, t), g.columns); takes = tt; sized = widest_sized (kind_of x) (omega (arith, small, scaled)) }
argument_sound entries Max x t sc g =
    let small = g.small in
    let scaled = g.scaled in
    record { item = ((g.typed, t), g.columns); takes = tt; sized = widest_sized (kind_of x) (omega (arith, small, scaled)) }

function_sound : (entries : List Entry) → AreSized entries → (w : Written) → function_faults entries w ≡ [] → IsSound entries (function_of entries w)
function_sound entries s (counted place) h = rows_sound entries
function_sound entries s (applied place f a) h =
    let x = meant (ungrouped entries) a in
    let p = no_own (faults (ungrouped entries) a) (argument_faults (first_token a) f x) h in
    let t = no_own (fault_where (not (takes f (kind_of x))) _ (first_token a)) (fault_where (not (has_scale f (meaning.scale_of x))) _ (first_token a)) p.1 in
    argument_sound entries f x (tested (takes f (kind_of x)) _ (first_token a) t.0) (tested (has_scale f (meaning.scale_of x)) _ (first_token a) t.1) (good (ungrouped entries) (s, tt) a p.0)

functions_sound : (entries : List Entry) → AreSized entries → (written : List Written) → functions_faults entries written ≡ [] → AllByRecursion (IsSound entries) (map (function_of entries) written)
functions_sound entries s [] h = tt
functions_sound entries s (w ∷ written) h =
    let q = no_both (function_faults entries w) (functions_faults entries written) h in
    (function_sound entries s w q.0, functions_sound entries s written q.1)

with_rows : (entries : List Entry) (columns : List GroupedColumn) (fs : List group.SetFunction) → AllByRecursion (IsSound entries) fs → AllByRecursion (IsSound entries) (or_rows columns fs)
with_rows entries [] [] h = (rows_sound entries, tt)
with_rows entries [] (f ∷ fs) h = h
with_rows entries (c ∷ cs) fs h = h

arguments_over : (entries : List Entry) (fs : List group.SetFunction) → AllByRecursion (IsSound entries) fs → AllByRecursion (IsItemOver (IsAt entries)) (arguments_of fs)
arguments_over entries [] h = tt
arguments_over entries (f ∷ fs) h = (h.0.item, arguments_over entries fs h.1)

functions_sized : (entries : List Entry) (written : List Written) → AllByRecursion (IsSound entries) (map (function_of entries) written) → AllByRecursion IsSized (map (λ (f : FunctionColumn). f.ty) (map (function_column entries) written))
functions_sized entries [] h = tt
functions_sized entries (w ∷ written) h = (h.0.sized, functions_sized entries written h.1)

-- ---- the grouped table

table_sized : (entries : List Entry) → AreSized entries → (s : Select) → grouping_faults entries s ≡ [] → HasSizedTypes (Some (grouping_of entries s))
table_sized entries sized s h =
    let p = no_both (columns_faults entries s.grouping) (functions_faults entries (functions_in s) ++ many_faults (functions_in s)) h in
    let q = no_both (functions_faults entries (functions_in s)) (many_faults (functions_in s)) p.1 in
    all_both IsSized (map (λ (c : GroupedColumn). c.ty) (columns_grouped entries s.grouping)) (map (λ (f : FunctionColumn). f.ty) (map (function_column entries) (functions_in s)))
    (columns_sized entries (columns_grouped entries s.grouping) (columns_sound entries sized s.grouping p.0)) (functions_sized entries (functions_in s) (functions_sound entries sized (functions_in s) q.0))

same_types : (entries : List Entry) (written : List Written) → map (λ (f : FunctionColumn). f.ty) (map (function_column entries) written) ≡ map type_of_function (map (function_of entries) written)
same_types entries [] = refl
same_types entries (w ∷ written) = ap (λ (types : List Ty). type_of_function (function_of entries w) ∷ types) (same_types entries written)

more_types : (columns : List GroupedColumn) (fs : List group.SetFunction) (i : ℕ) (ty : Ty) → slice_get (map (λ (c : GroupedColumn). c.ty) columns ++ map type_of_function fs) i ≡ Some ty
    → slice_get (map (λ (c : GroupedColumn). c.ty) columns ++ map type_of_function (or_rows columns fs)) i ≡ Some ty
more_types [] [] i ty h = absurd cc
more_types [] (f ∷ fs) i ty h = h
more_types (c ∷ cs) fs i ty h = h

table_column : (schema : List Table) (s : Select) (query : Grouped) → query.columns ≡ columns_grouped (entries_named schema s) s.grouping
    → query.functions ≡ or_rows (columns_grouped (entries_named schema s) s.grouping) (map (function_of (entries_named schema s)) (functions_in s)) → (i : ℕ) (ty : Ty)
    → Reaches (entries_named schema s) (Some (grouping_of (entries_named schema s) s)) i ty → IsGroupColumn query i ty
table_column schema s query columns functions i ty h =
    let es = entries_named schema s in
    let cs = columns_grouped es s.grouping in
    let fs = map (function_of es) (functions_in s) in
    let here : slice_get (map (λ (c : GroupedColumn). c.ty) cs ++ map type_of_function fs) i ≡ Some ty = sym (ap (λ (types : List Ty). slice_get (map (λ (c : GroupedColumn). c.ty) cs ++ types) i) (same_types es (functions_in s))) ∙ h in
    ap (λ (xs : List GroupedColumn). slice_get (map (λ (c : GroupedColumn). c.ty) xs ++ map type_of_function query.functions) i) columns
    ∙ ap (λ (gs : List group.SetFunction). slice_get (map (λ (c : GroupedColumn). c.ty) cs ++ map type_of_function gs) i) functions ∙ more_types cs fs i ty here

-- ---- `*` over it

has_kind_there : (g : Grouping) (k : ℕ) (o : Option GroupedColumn) → is_none (option_map (λ (c : GroupedColumn). meaning.column k c.ty) o) ≡ false
    → has_kind (kind_of (unwrap_or (option_map (λ (c : GroupedColumn). meaning.column k c.ty) o) meaning.null)) ≡ true
has_kind_there g k None h = absurd cc
has_kind_there g k (Some c) h = refl

pub has_kind_at : (g : Grouping) (o : Option ℕ) → is_none (option_and_then (λ (k : ℕ). option_map (λ (c : GroupedColumn). meaning.column k c.ty) (slice_get g.columns k)) o) ≡ false
    → has_kind (kind_of (unwrap_or (option_and_then (λ (k : ℕ). option_map (λ (c : GroupedColumn). meaning.column k c.ty) (slice_get g.columns k)) o) meaning.null)) ≡ true
has_kind_at g None h = absurd cc
has_kind_at g (Some k) h = has_kind_there g k (slice_get g.columns k) h

starred_columns : (entries : List Entry) (g : Grouping) → HasSizedTypes (Some g) → (place : ℕ) (columns : List Column) → has_ungrouped g (columns_from place columns) ≡ false
    → AllByRecursion (IsItemOver (Reaches entries (Some g))) (starred (Some g) (columns_from place columns))
starred_columns entries g s place [] h = tt
starred_columns entries g s place (c ∷ columns) h =
    let q = or_parts (is_none (column_grouped g (meaning.column place c.ty))) (has_ungrouped g (columns_from (suc place) columns)) h in
    let x = grouped_good entries g s (position (λ (d : GroupedColumn). d.number == place) g.columns) in
    (((x.typed, has_kind_at g (position (λ (d : GroupedColumn). d.number == place) g.columns) q.0), x.columns), starred_columns entries g s (suc place) columns q.1)

pub starred_more : (g : Grouping) (xs ys : List meaning.Expression) → starred (Some g) (xs ++ ys) ≡ starred (Some g) xs ++ starred (Some g) ys
starred_more g xs ys = map-append (λ (e : meaning.Expression). unwrap_or (column_grouped g e) meaning.null) xs ys

starred_over : (all : List Entry) (g : Grouping) → HasSizedTypes (Some g) → (entries : List Entry) → has_ungrouped g (columns_meant entries) ≡ false → AllByRecursion (IsItemOver (Reaches all (Some g))) (starred (Some g) (columns_meant entries))
starred_over all g s [] h = tt
starred_over all g s (e ∷ es) h =
    let q = ungrouped_both g (columns_from (64 * e.number) e.columns) (columns_meant es) h in
    let here = columns_from (64 * e.number) e.columns in
    subst (AllByRecursion (IsItemOver (Reaches all (Some g)))) (sym (starred_more g here (columns_meant es)))
    (all_both (IsItemOver (Reaches all (Some g))) (starred (Some g) here) (starred (Some g) (columns_meant es)) (starred_columns all g s (64 * e.number) e.columns q.0) (starred_over all g s es q.1))

selected_over : (entries : List Entry) (g : Grouping) → AreSized entries → HasSizedTypes (Some g) → (selected : Selected) → selected_faults (over_group entries g) selected ≡ []
    → AllByRecursion (IsItemOver (Reaches entries (Some g))) (items_meant (over_group entries g) selected)
selected_over entries g sized s all_columns h = starred_over entries g s entries (not_where (has_ungrouped g (columns_meant entries)) NotGrouped (codes "*") h)
selected_over entries g sized s (items list) h = list_over (over_group entries g) (sized, s) list h

-- ---- a query

all_takes : (entries : List Entry) (fs : List group.SetFunction) → AllByRecursion (IsSound entries) fs → AllByRecursion (λ (f : group.SetFunction). Takes f.kind f.argument) fs
all_takes entries [] h = tt
all_takes entries (f ∷ fs) h = (h.0.takes, all_takes entries fs h.1)

none_many : (n : ℕ) (name : List ℕ) → fault_where (Rattle.std.specs.Prelude.nat_lt 128 n) Rattle.qw_typer.specs.declared.fault.FaultKind.TheVariants.TooManyFunctions name ≡ [] → n ≤ 128
none_many n name h = let few = not_where (Rattle.std.specs.Prelude.nat_lt 128 n) _ name h in grind (arith, nat_tests)

reaching : (columns : List GroupedColumn) (fs : List group.SetFunction) → length columns ≤ 64 → length fs ≤ 128
    → (1 ≤ length (map expression_of_column columns ++ arguments_of (or_rows columns fs))) × (length (map expression_of_column columns ++ arguments_of (or_rows columns fs)) ≤ 512)
reaching [] [] few_columns few_functions = (omega arith, omega arith)
reaching [] (f ∷ fs) few_columns few_functions = let count = length_map (λ (g : group.SetFunction). g.argument) fs in (omega (arith, count), omega (arith, count, few_functions))
reaching (c ∷ cs) fs few_columns few_functions =
    let both = length-append (map expression_of_column cs) (arguments_of fs) in
    let one = length_map expression_of_column cs in
    let two = length_map (λ (g : group.SetFunction). g.argument) fs in
    (omega arith, omega (arith, both, one, two, few_columns, few_functions))

-- with nothing but FROM and WHERE
abbrev plainer : Select → Select
plainer s = record { distinct = s.distinct; selected = all_columns; sources = s.sources; filter = s.filter; grouping = []; having = None; order = [] }

none_both : (fs gs : List Fault) → fs ≡ [] → gs ≡ [] → fs ++ gs ≡ []
none_both fs gs h k = ap (λ (xs : List Fault). xs ++ gs) h ∙ k

abbrev grouped_with : List Table → Select → Scope → Grouped
grouped_with schema s sc = record {
  sources = sources_meant schema 0 s.sources;
  conjuncts = map (condition_meant (scope_of schema s)) (conjuncts s);
  columns = columns_grouped (entries_named schema s) s.grouping;
  functions = or_rows (columns_grouped (entries_named schema s) s.grouping) (map (function_of (entries_named schema s)) (functions_in s));
  having = map (condition_meant sc) (conjuncts_having s);
  items = items_meant sc s.selected;
}

over_table : (schema : List Table) (s : Select) → HaveTables (entries_named schema s) → IsWithin s → grouping_faults (entries_named schema s) s ≡ [] → behind_faults schema s (grouping_of (entries_named schema s) s) ≡ []
    → IsGrouped (grouped_with schema s (over_group (entries_named schema s) (grouping_of (entries_named schema s) s)))
over_table schema s tables within grouping behind =
    let es = entries_named schema s in
    let g = grouping_of es s in
    let sc = over_group es g in
    let query = grouped_with schema s sc in
    let all = map entry_meant es in
    let p = no_both (columns_faults es s.grouping) (functions_faults es (functions_in s) ++ many_faults (functions_in s)) grouping in
    let q = no_both (functions_faults es (functions_in s)) (many_faults (functions_in s)) p.1 in
    let b = no_both (selected_faults sc s.selected) (sources_faults schema 0 s.sources ++ (having_faults sc s ++ filter_faults (scope_of schema s) s)) behind in
    let r = no_both (sources_faults schema 0 s.sources) (having_faults sc s ++ filter_faults (scope_of schema s) s) b.1 in
    let t = no_both (having_faults sc s) (filter_faults (scope_of schema s) s) r.1 in
    let sized = sized_ones es tables in
    let types = table_sized es sized s grouping in
    let columns = columns_sound es sized s.grouping p.0 in
    let functions = with_rows es (columns_grouped es s.grouping) (map (function_of es) (functions_in s)) (functions_sound es sized (functions_in s) q.0) in
    let ones = ones_from all schema 0 (entries_of s.sources) tables (λ k. ap (slice_get all) (zero_plus k)) in
    let few_conjuncts = within.conjuncts in
    let on_count = conjuncts_of_sources schema 0 s.sources in
    let where_count = length_map (condition_meant (scope_of schema s)) (conjuncts s) in
    let having_count = length_map (condition_meant sc) (conjuncts_having s) in
    let column_count = length_map (λ (r : Reference). as_grouped (meant (ungrouped es) (column r.qualifier r.name))) s.grouping in
    let function_count = length_map (function_of es) (functions_in s) in
    let few_columns = within.few_columns in
    let few_functions = none_many (length (functions_in s)) _ q.1 in
    let few_group : length query.columns ≤ 64 = omega (arith, column_count, few_columns) in
    let lengths = reaching (columns_grouped es s.grouping) (map (function_of es) (functions_in s)) few_group (omega (arith, function_count, few_functions)) in
    let plain_within : IsWithin (plainer s) = record { some_source = within.some_source; few_entries = within.few_entries; items = tt; few_columns = omega arith; conjuncts = omega (arith, few_conjuncts) } in
    let plain = specified_query schema (plainer s) tables plain_within (none_both (sources_faults schema 0 s.sources) (filter_faults (scope_of schema s) s) r.0 t.1) in
    let scope_count = length_scope schema 0 (entries_of s.sources) in
    let some_source = within.some_source in
    let few_entries = within.few_entries in
    let some = some_entry s.sources some_source in
    let sizes = some_items sc s.selected tables (omega (arith, scope_count, some)) (omega (arith, scope_count, few_entries)) within.items in
    let reached = all_both (IsItemOver (IsAt es)) (map expression_of_column query.columns) (arguments_of query.functions) (columns_over es query.columns columns) (arguments_over es query.functions functions) in
    let more = table_column schema s query refl refl in
    record {
      front = record {
        some_source = plain.some_source;
        few_entries = plain.few_entries;
        few_columns = plain.few_columns;
        few_conjuncts = plain.few_conjuncts;
        some_item = lengths.0;
        few_items = lengths.1;
        sources = plain.sources;
        conjuncts = plain.conjuncts;
        items = subst (λ (fs : List specified.Entry). AllByRecursion (IsItemOver (IsColumnOf fs)) (map expression_of_column query.columns ++ arguments_of query.functions)) (sym (entries_meant schema 0 s.sources))
            (all_more (IsItemOver (IsAt es)) (IsItemOver (IsColumnOf all)) (item_more (IsAt es) (IsColumnOf all) (in_scope_of all es ones)) (map expression_of_column query.columns ++ arguments_of query.functions) reached);
      };
      few_columns = few_group;
      functions = all_takes es query.functions functions;
      few_conjuncts = omega (arith, on_count, where_count, having_count, few_conjuncts);
      some_item = sizes.0;
      few_items = sizes.1;
      having = all_more (IsConditionOver (Reaches es (Some g))) (IsConditionOver (IsGroupColumn query)) (condition_more (Reaches es (Some g)) (IsGroupColumn query) more) query.having (filter_over sc (sized, types) s.having t.0);
      items = all_more (IsItemOver (Reaches es (Some g))) (IsItemOver (IsGroupColumn query)) (item_more (Reaches es (Some g)) (IsGroupColumn query) more) query.items (selected_over es g sized types s.selected b.0);
    }
  where
    zero_plus : (n : ℕ) → 0 + n ≡ n
    zero_plus n = omega arith

pub grouped_query : (schema : List Table) (s : Select) → HaveTables (entries_named schema s) → IsWithin s → is_grouped s ≡ true → over_faults schema s ≡ [] → IsGrouped (grouped_meant schema s)
grouped_query schema s tables within is none =
    let both = no_own (grouping_faults (entries_named schema s) s) (behind_faults schema s (grouping_of (entries_named schema s) s)) (sym (grouped_over schema s is) ∙ none) in
    subst IsGrouped (sym (ap (grouped_with schema s) (group_scope schema s is))) (over_table schema s tables within both.0 both.1)
