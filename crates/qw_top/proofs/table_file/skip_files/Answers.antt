use Rattle.std.proofs.Common.{◌≡◌, ◌≤◌, ◌+◌, None, arith}
use Rattle.std.proofs.lemmas.Grind.{common_steps}
use Rattle.qw_command_line.specs.Read.{names_of}
use Rattle.qw_top.specs.Call.{IsTableLimit}
use Rattle.qw_top.specs.FileNames.{files_in}
use Rattle.qw_top.specs.Inner.Shelves.{told_by}
use Rattle.qw_top.proofs.AskingLemmas.{asks_then}
use Rattle.qw_top.proofs.TablePartLemmas.{skips_all, skips_more, skips_none}
use Rattle.qw_top.proofs.WholeFileLemmas.{HasRead-then}
use Rattle.qw_top.proofs.table_file.skip_files.Goals as goal

pub returns-in-Err-clause-stops : goal.returns-in-Err-clause-stops
returns-in-Err-clause-stops g c before held many =
    let h = c.loop-index.invariant.0 in
    let few : c.loop-index.index + 1 ≤ files_in c.args.names.now.parts = grind (arith, common_steps, c.files_in-index-end.ensures, c.loop-index-test.true) in
    skips_none (told_by g.F.Shelf c.args.files.now) (told_by g.F.Shelf c.loop-index.files) (names_of c.args.names.now) c.args.table.now c.args.from c.loop-index.index h c.in-Err.fault few before held many
    (rw h.shelf.same_files at c.in-Err.ensures.stops)

pub loop-index-preserved : goal.loop-index-preserved
loop-index-preserved g c =
    let h = c.loop-index.invariant.0 in (
      skips_more (told_by g.F.Shelf c.args.files.now) (told_by g.F.Shelf c.loop-index.files) (names_of c.args.names.now) c.args.table.now c.args.from c.loop-index.index h
          (told_by g.F.Shelf c.skip_file.new.files) (rw h.shelf.same_files at c.in-Ok.ensures.held)
          (HasRead-then None _ _ _ h.shelf c.in-Ok.ensures.shelf) (asks_then (IsTableLimit (names_of c.args.names.now)) _ _ _ h.asked c.in-Ok.ensures.asked),
      grind (arith, common_steps),
    )

pub returns-clause-held : goal.returns-clause-held
returns-clause-held g c before held many =
    let h = c.loop-index.invariant.0 in
    let last : c.loop-index.index ≡ files_in c.args.names.now.parts = grind (arith, common_steps, c.files_in-index-end.ensures, c.loop-index-test.false, c.loop-index.auto.index-end) in
    skips_all (told_by g.F.Shelf c.args.files.now) (told_by g.F.Shelf c.loop-index.files) (names_of c.args.names.now) c.args.table.now c.args.from c.loop-index.index h last before held many
