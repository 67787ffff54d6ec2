use Rattle.std.proofs.Common.{◌≡◌, ◌+◌, Err, ap, arith}
use Rattle.std.specs.String.{string_bytes}
use Rattle.std.proofs.lemmas.Grind.{common_steps}
use Rattle.qw_command_line.specs.Read.{names_of}
use Rattle.qw_top.specs.FileNames.{file_of}
use Rattle.qw_top.specs.Inner.Tables.{Fails, OfPart}
use Rattle.qw_top.proofs.TablePartLemmas.{fault_of_file}
use Rattle.qw_top.proofs.table_file.take_file.Goals as goal

pub returns-in-Err-clause-stops : goal.returns-in-Err-clause-stops
returns-in-Err-clause-stops g c =
    let files = g.F.Shelf.files c.args.files.now in
    let names = names_of c.args.names.now in
    let table = c.args.table.now in
    let name : c.as_str-2.result.now ≡ file_of c.args.names.now.folder.now c.args.names.now.parts c.args.table.now.name (c.args.index + 1) = grind (arith, common_steps) in
    let same : c.as_str-2.result.now ≡ string_bytes c.in_ok-name.name = grind (arith, common_steps) in
    fault_of_file files names table.name (c.args.index + 1) (λ why. OfPart files names table.name (c.args.index + 1) (λ bytes. Fails table names c.args.loader bytes why))
    c.as_str-2.result.now c.in-Err.fault c.in_file.result (rw same c.in_file.ensures) name (λ long. c.in-Err.ensures.too_long (ap (λ fault. Err fault) long))
    (λ load is ample. rw name at (c.in-Err.ensures.refused load is ample))
