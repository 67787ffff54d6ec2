use Rattle.std.proofs.Common.{◌∙◌}
use Rattle.std.proofs.lemmas.Result.{err_from_is_err_and}
use Rattle.qw_command_line.specs.Read.{names_of, options_of}
use Rattle.qw_top.specs.Limits.{limits_of}
use Rattle.qw_top.proofs.AskingLemmas.{queries_asked, schema_asked, tables_asked}
use Rattle.qw_top.proofs.StopLemmas.{all_accepted, queries_stop, schema_stops, tables_accepted, tables_stop}
use Rattle.qw_top.proofs.top.inputs.prepare.Goals as goal

pub returns-in_err-schema-clause-stops : goal.returns-in_err-schema-clause-stops
returns-in_err-schema-clause-stops g c =
    let p = err_from_is_err_and c.from_residual.result c.from_residual.ensures.1 in
    rw (p.1, p.2) (schema_stops (limits_of (options_of c.args.names.now.options)) (g.F.Shelf.files c.args.files.now) (names_of c.args.names.now) _ c.in_err-schema.ensures.stops)

pub returns-in_err-tables-clause-stops : goal.returns-in_err-tables-clause-stops
returns-in_err-tables-clause-stops g c =
    let p = err_from_is_err_and c.from_residual-in_err-tables.result c.from_residual-in_err-tables.ensures.1 in
    let schema = c.in_ok-schema.ensures in
    let stops = rw c.as_slice.ensures.same at c.in_err-tables.ensures.stops in
    rw (p.1, p.2) (tables_stop (limits_of (options_of c.args.names.now.options)) (g.F.Shelf.files c.args.files.now) (names_of c.args.names.now) _ c.in_ok-schema.schema _ schema.shelf.same_files schema.accepted stops)

pub returns-in_err-queries-clause-stops : goal.returns-in_err-queries-clause-stops
returns-in_err-queries-clause-stops g c =
    let p = err_from_is_err_and c.from_residual-in_err-queries.result c.from_residual-in_err-queries.ensures.1 in
    let schema = c.in_ok-schema.ensures in
    let tables = c.in_ok-tables.ensures in
    let files = g.F.Shelf.files c.args.files.now in
    let names = names_of c.args.names.now in
    let held = tables_accepted (limits_of (options_of c.args.names.now.options)) files names _ c.in_ok-schema.schema c.in_ok-tables.tables.items schema.shelf.same_files schema.accepted (rw c.as_slice.ensures.same at tables.accepted) in
    rw (p.1, p.2) (queries_stop (limits_of (options_of c.args.names.now.options)) files names _ c.in_ok-schema.schema c.in_ok-tables.tables.items _ (tables.shelf.same_files ∙ schema.shelf.same_files) held c.in_err-queries.ensures.stops)

pub returns-clause-accepted : goal.returns-clause-accepted
returns-clause-accepted g c =
    let schema = c.in_ok-schema.ensures in
    let tables = c.in_ok-tables.ensures in
    let files = g.F.Shelf.files c.args.files.now in
    let names = names_of c.args.names.now in
    let held = tables_accepted (limits_of (options_of c.args.names.now.options)) files names _ c.in_ok-schema.schema c.in_ok-tables.tables.items schema.shelf.same_files schema.accepted (rw c.as_slice.ensures.same at tables.accepted) in
    all_accepted (limits_of (options_of c.args.names.now.options)) files names _ c.in_ok-schema.schema c.in_ok-tables.tables.items _ (tables.shelf.same_files ∙ schema.shelf.same_files) held c.in_ok-queries.ensures.accepted

pub returns-in_err-schema-clause-within : goal.returns-in_err-schema-clause-within
returns-in_err-schema-clause-within g c = schema_asked (names_of c.args.names.now) _ _ c.in_err-schema.ensures.within

pub returns-in_err-tables-clause-within : goal.returns-in_err-tables-clause-within
returns-in_err-tables-clause-within g c = tables_asked (names_of c.args.names.now) _ _ _ c.in_ok-schema.ensures.within c.in_err-tables.ensures.within

pub returns-in_err-queries-clause-within : goal.returns-in_err-queries-clause-within
returns-in_err-queries-clause-within g c = queries_asked (names_of c.args.names.now) _ _ _ _ c.in_ok-schema.ensures.within c.in_ok-tables.ensures.within c.in_err-queries.ensures.within

pub returns-clause-within : goal.returns-clause-within
returns-clause-within g c = queries_asked (names_of c.args.names.now) _ _ _ _ c.in_ok-schema.ensures.within c.in_ok-tables.ensures.within c.in_ok-queries.ensures.within
