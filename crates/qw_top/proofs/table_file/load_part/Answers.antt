use Rattle.qw_command_line.specs.Read.{names_of}
use Rattle.qw_top.specs.Inner.Tables.{Fails, OfPart}
use Rattle.qw_top.proofs.TablePartLemmas.{fault_of_load}
use Rattle.std.proofs.Common.{◌+◌, sym}
use Rattle.qw_top.proofs.table_file.load_part.Goals as goal

pub next_part-requires : goal.next_part-requires
next_part-requires g c =
    let (bytes, file, takes) = c.in-Ok.ensures.taken in
    let (parts, started) = c.requires.start in
    (parts, bytes, rw c.null_octets.ensures (takes parts started))

pub returns-in-Ok-next_part-clause-ended : goal.returns-in-Ok-next_part-clause-ended
returns-in-Ok-next_part-clause-ended g c =
    let (bytes, file, takes) = c.in-Ok.ensures.taken in
    (bytes, file, λ parts started. rw (sym c.null_octets.ensures) (c.in-Ok-next_part.ensures.taken parts bytes (rw c.null_octets.ensures (takes parts started))))

pub returns-in-Err-next_part-clause-stops : goal.returns-in-Err-next_part-clause-stops
returns-in-Err-next_part-clause-stops g c =
    let files = g.F.Shelf.files c.args.files.now in
    let names = names_of c.args.names.now in
    let table = c.args.table.now in
    let (bytes, file, takes) = c.in-Ok.ensures.taken in
    fault_of_load files names table.name (c.args.index + 1) (λ why. OfPart files names table.name (c.args.index + 1) (λ bytes. Fails table names c.args.loader bytes why))
    c.in-Err-next_part.fault c.in_load.result c.in_load.ensures
    (λ ample. (bytes, file, λ parts further started. rw (sym c.null_octets.ensures) (c.in-Err-next_part.ensures.fault ample parts further bytes (rw c.null_octets.ensures (takes parts started)))))
