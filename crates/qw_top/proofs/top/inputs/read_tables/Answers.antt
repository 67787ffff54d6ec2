use Rattle.std.proofs.Common.{◌≡◌, ◌+◌, ◌++◌, ◌∷◌, [], ◌∙◌, None, ap, sym, take, subst}
use Rattle.std.proofs.lemmas.List.{take_more}
use Rattle.std.proofs.lemmas.Result.{err_from_is_err_and}
use Rattle.qw_types.specs.declared.schema.Table.{Table}
use Rattle.qw_command_line.specs.Read.{names_of}
use Rattle.qw_top.specs.Call.{IsTableLimit}
use Rattle.qw_top.specs.Top.{Files, TableIs}
use Rattle.qw_top.proofs.AskingLemmas.{asks_then}
use Rattle.qw_top.proofs.StopLemmas.{TablesAre-more, tables_stop_at}
use Rattle.qw_top.proofs.WholeFileLemmas.{HasRead-then}
use Rattle.qw_top.proofs.top.inputs.read_tables.Goals as goal

pub returns-in_err-loaded-clause-stops : goal.returns-in_err-loaded-clause-stops
returns-in_err-loaded-clause-stops g c =
    let p = err_from_is_err_and c.from_residual-in_err-loaded.result c.from_residual-in_err-loaded.ensures.1 in
    rw (p.1, p.2) (tables_stop_at (g.F.Shelf.files c.args.files.now) (g.F.Shelf.files c.loop-table.files) (names_of c.args.names.now) c.args.schema.now c.loop-table.table-index c.table-item.result c.loop-table.tables.items _
    c.loop-table-test.true c.table-item.is c.loop-table.invariant.1.same_files c.loop-table.invariant.0 c.in_err-loaded.ensures.stops)

pub loop-table-preserved : goal.loop-table-preserved
loop-table-preserved g c =
    let files = g.F.Shelf.files c.args.files.now in
    let names = names_of c.args.names.now in
    let schema = c.args.schema.now in
    let i = c.loop-table.table-index in
    let table = c.table-item.result in
    let is = subst (λ (f : Files). TableIs f names table c.in_ok-loaded.loaded) c.loop-table.invariant.1.same_files c.in_ok-loaded.ensures.accepted in
    let more = TablesAre-more files names (take i schema) c.loop-table.tables.items table c.in_ok-loaded.loaded c.loop-table.invariant.0 is in
    let last : take (i + 1) schema ≡ take i schema ++ table ∷ [] = take_more schema i table c.loop-table-test.true ∙ ap (λ (t : Table). take i schema ++ t ∷ []) (sym c.table-item.is) in (
      rw (last, c.in-Ok.ensures.items) more,
      HasRead-then None _ _ _ c.loop-table.invariant.1 c.in_ok-loaded.ensures.shelf,
      asks_then (IsTableLimit names) _ _ _ c.loop-table.invariant.2 c.in_ok-loaded.ensures.within,
    )

pub returns-in_err-loaded-clause-within : goal.returns-in_err-loaded-clause-within
returns-in_err-loaded-clause-within g c = asks_then (IsTableLimit (names_of c.args.names.now)) _ _ _ c.loop-table.invariant.2 c.in_err-loaded.ensures.within

pub returns-in_default-clause-within : goal.returns-in_default-clause-within
returns-in_default-clause-within g c = asks_then (IsTableLimit (names_of c.args.names.now)) _ _ _ c.loop-table.invariant.2 c.in_ok-loaded.ensures.within
