use Rattle.qw_command_line.specs.Read.{names_of}
use Rattle.qw_top.proofs.StopLemmas.{table_stop_failed, table_unloaded_stops}
use Rattle.qw_top.proofs.top.inputs.read_table.Goals as goal

pub returns-in-Err-clause-stops : goal.returns-in-Err-clause-stops
returns-in-Err-clause-stops g c =
    table_unloaded_stops (g.F.Shelf.files c.args.files.now) (names_of c.args.names.now) c.args.table.now c.in-Err.fault c.table_unloaded.result c.in-Err.ensures.stops c.table_unloaded.ensures

pub returns-in-Err-clause-shelf : goal.returns-in-Err-clause-shelf
returns-in-Err-clause-shelf g c = rw (table_stop_failed c.args.names.now.parts c.args.table.now c.in-Err.fault c.table_unloaded.result c.table_unloaded.ensures) c.in-Err.ensures.shelf
