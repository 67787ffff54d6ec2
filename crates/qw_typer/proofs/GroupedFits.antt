-- A grouped query is typed with few nodes and octets.
use Rattle.std.proofs.Common.{◌≡◌, ◌+◌, ◌≤◌, List, [], ◌++◌, map, length, ap, arith, subst}
use Rattle.std.proofs.lemmas.List.{length-map}
use Rattle.qw_types.specs.declared.schema.Table.{Table}
use Rattle.qw_scalar.specs.Expression as meaning
use Rattle.qw_scalar.specs.Tree.{expression_of}
use Rattle.qw_grouped.specs.Grouped as group
use Rattle.qw_grouped.specs.Query.{GroupedParts}
use Rattle.qw_grouped.specs.declared.set_function.SetFunction as coded_function
use Rattle.qw_ast.specs.Limits.{entries_of}
use Rattle.qw_ast.specs.Syntax.{Reference, Select, Selected, all_columns, items}
use Rattle.qw_typer.specs.declared.grouped.Groups as coded_groups
use Rattle.qw_typer.specs.declared.grouped.Behind as coded_behind
use Rattle.qw_typer.specs.Grouping.{as_grouped, grouping_of}
use Rattle.qw_typer.specs.Meant.{Entry, Scope, meant, ungrouped}
use Rattle.qw_typer.specs.Typed.{IsWithin, entries_named, having_faults, filter_faults, items_meant, scope_of, scope_over, selected_faults, sources_faults}
use Rattle.qw_typer.specs.Inner.Grouping.{FitsBehind, FitsGrouped, FitsGroups, RowsAdded, behind_of, groups_of, listed_nodes, over_group, starred_nodes}
use Rattle.qw_typer.specs.Inner.Queries.{HaveTables}
use Rattle.qw_typer.specs.Inner.Sizes.{most_items}
use Rattle.qw_typer.proofs.GroupedLemmas.{group_scope}
use Rattle.qw_typer.proofs.LawLemmas.{few_meant, length_scope}
use Rattle.qw_typer.proofs.MadeLemmas.{IsMade, behind_none, made_is}
use Rattle.qw_typer.proofs.SoundLemmas.{no_both}
use Rattle.qw_typer.proofs.StarLemmas.{few_starred}

abbrev pub parts_with : coded_groups.Groups → coded_behind.Behind → List coded_function.SetFunction → GroupedParts
parts_with groups behind functions =
    record { sources = behind.sources.items; conjuncts = behind.conjuncts.items; columns = groups.columns.items; functions = functions; having = behind.having.items; items = behind.items.items }

star_few : (schema : List Table) (s : Select) (selected : Selected) → HaveTables (entries_named schema s) → length s.grouping ≤ 64 → selected_faults (over_group (entries_named schema s) (grouping_of (entries_named schema s) s)) selected ≡ []
    → starred_nodes (entries_named schema s) selected ≤ listed_nodes selected
star_few schema s all_columns tables few h =
    let es = entries_named schema s in
    let star = few_starred schema (entries_of s.sources) (grouping_of es s) tables h in
    let count = length-map s.grouping (λ (r : Reference). as_grouped (meant (ungrouped es) (Rattle.qw_ast.specs.Syntax.column r.qualifier r.name))) in
    omega (arith, star, count, few)
star_few schema s (items list) tables few h = omega arith

-- it has no more items than its select list
pub grouped_items : (schema : List Table) (s : Select) (entries : List Entry) (groups : coded_groups.Groups) (behind : coded_behind.Behind) (functions : List group.SetFunction) → IsMade schema s entries (groups_of groups) (behind_of behind) functions → IsWithin s
    → length behind.items.items ≤ most_items s.selected
grouped_items schema s entries groups behind functions m within =
    let es = entries_named schema s in
    let is : map expression_of behind.items.items ≡ items_meant (scope_over schema s) s.selected = ap (λ (q : group.Grouped). q.items) (made_is schema s entries (groups_of groups) (behind_of behind) functions m) in
    let over = group_scope schema s m.is in
    let all : length (items_meant (scope_over schema s) s.selected) ≡ length (items_meant (over_group es (grouping_of es s)) s.selected) = ap (λ (sc : Scope). length (items_meant sc s.selected)) over in
    let reached = length_scope schema 0 (entries_of s.sources) in
    let few_entries = within.few_entries in
    let few = few_meant (over_group es (grouping_of es s)) s.selected (subst HaveTables m.from.are m.from.tables) (omega (arith, reached, few_entries)) in
    let count = ap (λ (xs : List meaning.Expression). length xs) is in
    let many = length-map behind.items.items expression_of in
    omega (arith, few, all, count, many)

pub grouped_fits : (schema : List Table) (s : Select) (entries : List Entry) (groups : coded_groups.Groups) (behind : coded_behind.Behind) (functions : List group.SetFunction) (after : List coded_function.SetFunction)
    → IsMade schema s entries (groups_of groups) (behind_of behind) functions → IsWithin s → FitsGroups groups s → FitsBehind behind entries s → RowsAdded groups.functions.functions.items after → FitsGrouped (parts_with groups behind after) s
grouped_fits schema s entries groups behind functions after m within one two added =
    let es = entries_named schema s in
    let sc = over_group es (grouping_of es s) in
    let none = (behind_none schema s entries (groups_of groups) (behind_of behind) m.from m.groups_given m.behind_given).0 in
    let selected = no_both (selected_faults sc s.selected) (sources_faults schema 0 s.sources ++ (having_faults sc s ++ filter_faults (scope_of schema s) s)) none in
    let star = star_few schema s s.selected (subst HaveTables m.from.are m.from.tables) within.few_columns selected.0 in
    let same : starred_nodes entries s.selected ≡ starred_nodes es s.selected = ap (λ (fs : List Entry). starred_nodes fs s.selected) m.from.are in
    record { few_functions = one.few_functions; nodes_fit = omega arith; octets_fit = omega arith }
