use Rattle.std.proofs.Common.{map}
use Rattle.std.proofs.lemmas.Result.{err_from_is_err_and}
use Rattle.qw_command_line.specs.Read.{names_of, options_of}
use Rattle.qw_top.specs.Limits.{limits_of}
use Rattle.qw_top.specs.Inner.Queries.{asked_of}
use Rattle.qw_top.proofs.BenchLemmas.{accepted_contents, accepted_few, accepted_stops, entries_read}
use Rattle.qw_top.proofs.top.run.run.Goals as goal

pub finished-requires-clause-few : goal.finished-requires-clause-few
finished-requires-clause-few g c = accepted_few _ _ _ _ _ c.in_ok-schema.ensures.accepted

pub finished-requires-clause-tables : goal.finished-requires-clause-tables
finished-requires-clause-tables g c = accepted_contents _ _ _ _ _ c.in_ok-schema.ensures.accepted

pub finished-requires-clause-read : goal.finished-requires-clause-read
finished-requires-clause-read g c =
    let run = c.in_ok-schema.field-0 in
    rw c.as_slice.ensures.value
    (entries_read run.schema run.tables.items run.queries.items (accepted_contents _ _ _ _ _ c.in_ok-schema.ensures.accepted) c.in_ok-schema.ensures.over)

pub returns-in_err-bench-clause-stops : goal.returns-in_err-bench-clause-stops
returns-in_err-bench-clause-stops g c =
    let p = err_from_is_err_and c.from_residual-in_err-bench.result c.from_residual-in_err-bench.ensures.1 in
    let run = c.in_ok-schema.field-0 in
    let stops = rw c.as_slice.ensures.value at c.in_err-bench.ensures.stops in
    rw (p.1, p.2) (accepted_stops (g.F.Shelf.files c.args.files.now) (names_of c.args.names.now) run.schema run.tables.items (map asked_of run.queries.items) c.in_ok-schema.ensures.accepted (limits_of (options_of c.args.names.now.options)) _ stops)
