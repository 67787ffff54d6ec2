use Rattle.std.proofs.Common.{◌≡◌, ◌+◌, arith}
use Rattle.std.proofs.lemmas.Grind.{common_steps}
use Rattle.qw_top.specs.FileNames.{file_of}
use Rattle.qw_top.specs.Limits.{most_table_octets}
use Rattle.qw_top.proofs.TableFileLemmas.{some_octets}
use Rattle.qw_top.proofs.table_file.skip_file.Goals as goal

pub returns-in-Ok-clause-held : goal.returns-in-Ok-clause-held
returns-in-Ok-clause-held g c =
    let name : c.as_str-2.result.now ≡ file_of c.args.names.now.folder.now c.args.names.now.parts c.args.table.now.name (c.args.index + 1) = grind (arith, common_steps) in
    rw name at (some_octets (g.F.Shelf.files c.args.files.now) c.as_str-2.result.now most_table_octets c.in-Ok.ensures.end)
