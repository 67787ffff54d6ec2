use Rattle.std.proofs.Common.{rules, ◌≡◌, map, refl}
use Rattle.std.proofs.lemmas.Result.{err_from_is_err_and}
use Rattle.qw_grouped.specs.Query.{function_of}
use Rattle.qw_ast.specs.Limits.{entries_of}
use Rattle.qw_ast.specs.SyntaxTree.{select_of}
use Rattle.qw_typer.specs.Grouping.{or_rows}
use Rattle.qw_typer.specs.Inner.Grouping.{RowsAdded, behind_of, groups_of}
use Rattle.qw_typer.specs.Inner.Typing.{as_entries}
use Rattle.qw_typer.proofs.GroupedFits.{grouped_fits, grouped_items}
use Rattle.qw_typer.proofs.MadeLemmas.{IsMade, behind_refused, group_keys_refused, grouped_means, groups_refused, made_grouped}
use Rattle.qw_typer.proofs.QueryLemmas.{as_many}
use Rattle.qw_typer.proofs.query.grouped_query.Goals as goal

pub returns-in_err-groups-clause-means : goal.returns-in_err-groups-clause-means
returns-in_err-groups-clause-means c =
    let s = select_of c.args.statement.now in
    let err = err_from_is_err_and c.from_residual.result c.from_residual.ensures.1 in
    rw (err.1, err.2) (groups_refused c.args.schema.now s (as_entries c.args.entries.now) c.in_err-groups.field-0.0 c.requires.from c.requires.grouped c.in_err-groups.ensures.gives)

pub clauses-requires : goal.clauses-requires
clauses-requires c =
    let s = select_of c.args.statement.now in
    as_many c.args.schema.now s (entries_of s.sources) c.args.entries.now refl (c.requires.from.faultless, c.requires.from.are)

pub returns-in_err-behind-clause-means : goal.returns-in_err-behind-clause-means
returns-in_err-behind-clause-means c =
    let s = select_of c.args.statement.now in
    let err = err_from_is_err_and c.from_residual-in_err-behind.result c.from_residual-in_err-behind.ensures.1 in
    rw (err.1, err.2)
    (behind_refused c.args.schema.now s (as_entries c.args.entries.now) (groups_of c.in_ok-groups.groups) c.in_err-behind.field-0.0 c.requires.from c.requires.grouped c.in_ok-groups.ensures.gives
    (rw c.table.ensures at c.in_err-behind.ensures.gives))

pub returns-in_err-keys-clause-means : goal.returns-in_err-keys-clause-means
returns-in_err-keys-clause-means c =
    let s = select_of c.args.statement.now in
    let groups = groups_of c.in_ok-groups.groups in
    let err = err_from_is_err_and c.from_residual-in_err-keys.result c.from_residual-in_err-keys.ensures.1 in
    rw (err.1, err.2)
    (group_keys_refused c.args.schema.now s (as_entries c.args.entries.now) groups (behind_of c.in_ok-behind.behind) (or_rows groups.columns groups.functions.functions) c.in_ok-behind.behind.names.items c.in_err-keys.field-0.0
    (record { from = c.requires.from; is = c.requires.grouped; groups_given = c.in_ok-groups.ensures.gives; behind_given = rw c.table.ensures at c.in_ok-behind.ensures.gives.0; functions_are = refl })
    (rw c.table.ensures at c.in_ok-behind.ensures.gives.1) (rw c.as_slice.ensures.value at c.in_err-keys.ensures))

pub new-query-requires : goal.new-query-requires
new-query-requires c =
    let s = select_of c.args.statement.now in
    let groups = groups_of c.in_ok-groups.groups in
    let rows : map function_of c.or_rows.new.functions.items ≡ or_rows groups.columns groups.functions.functions = search rules in
    made_grouped c.args.schema.now s (as_entries c.args.entries.now) (groups_of c.in_ok-groups.groups) (behind_of c.in_ok-behind.behind) (map function_of c.or_rows.new.functions.items)
    (record { from = c.requires.from; is = c.requires.grouped; groups_given = c.in_ok-groups.ensures.gives; behind_given = rw c.table.ensures at c.in_ok-behind.ensures.gives.0; functions_are = rows })
    c.requires.within

pub returns-clause-means : goal.returns-clause-means
returns-clause-means c =
    let s = select_of c.args.statement.now in
    let groups = groups_of c.in_ok-groups.groups in
    let rows : map function_of c.or_rows.new.functions.items ≡ or_rows groups.columns groups.functions.functions = search rules in
    rw c.new-query.ensures
    (grouped_means c.args.schema.now s (as_entries c.args.entries.now) (groups_of c.in_ok-groups.groups) (behind_of c.in_ok-behind.behind) (map function_of c.or_rows.new.functions.items) c.in_ok-behind.behind.names.items
    c.in_ok-keys.keys.items
    (record { from = c.requires.from; is = c.requires.grouped; groups_given = c.in_ok-groups.ensures.gives; behind_given = rw c.table.ensures at c.in_ok-behind.ensures.gives.0; functions_are = rows })
    (rw c.table.ensures at c.in_ok-behind.ensures.gives.1) (rw c.as_slice.ensures.value at c.in_ok-keys.ensures))

pub returns-clause-fits : goal.returns-clause-fits
returns-clause-fits c =
    let s = select_of c.args.statement.now in
    let groups = groups_of c.in_ok-groups.groups in
    let rows : map function_of c.or_rows.new.functions.items ≡ or_rows groups.columns groups.functions.functions = search rules in
    let added : RowsAdded c.in_ok-groups.groups.functions.functions.items c.or_rows.new.functions.items = search rules in
    let made : IsMade c.args.schema.now s (as_entries c.args.entries.now) (groups_of c.in_ok-groups.groups) (behind_of c.in_ok-behind.behind) (map function_of c.or_rows.new.functions.items) =
    record { from = c.requires.from; is = c.requires.grouped; groups_given = c.in_ok-groups.ensures.gives; behind_given = rw c.table.ensures at c.in_ok-behind.ensures.gives.0; functions_are = rows } in
    let few = grouped_items c.args.schema.now s (as_entries c.args.entries.now) c.in_ok-groups.groups c.in_ok-behind.behind (map function_of c.or_rows.new.functions.items) made c.requires.within in
    rw c.new-query.ensures (
      grouped_fits c.args.schema.now s (as_entries c.args.entries.now) c.in_ok-groups.groups c.in_ok-behind.behind (map function_of c.or_rows.new.functions.items) c.or_rows.new.functions.items
          made c.requires.within c.in_ok-groups.ensures.fits c.in_ok-behind.ensures.fits added,
      few,
    )
