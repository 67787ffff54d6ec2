use Rattle.std.proofs.Common.{◌≡◌, ◌≤◌, ◌+◌, ◌-◌, None, [], refl, arith}
use Rattle.std.proofs.lemmas.Grind.{common_steps}
use Rattle.qw_command_line.specs.Read.{names_of}
use Rattle.qw_top.specs.Call.{IsTableLimit}
use Rattle.qw_top.specs.FileNames.{files_in}
use Rattle.qw_top.specs.Inner.Shelves.{told_by}
use Rattle.qw_top.proofs.AskingLemmas.{asks_none, asks_then}
use Rattle.qw_top.proofs.TableFileLemmas.{shelf_none}
use Rattle.qw_top.proofs.TablePartLemmas.{fails_at, last_fails, last_loaded, loads_more}
use Rattle.qw_top.proofs.WholeFileLemmas.{HasRead-then}
use Rattle.qw_top.proofs.table_file.load_each.Goals as goal

pub loop-index-init : goal.loop-index-init
loop-index-init g c = (
  record { parts = []; held = tt; many = refl; taken = c.in-Ok.ensures.none (names_of c.args.names.now).null; shelf = shelf_none _; asked = asks_none _ _ },
  c.requires,
)

pub returns-in-Err-clause-stops : goal.returns-in-Err-clause-stops
returns-in-Err-clause-stops g c =
    let h = c.loop-index.invariant.0 in
    let few : c.loop-index.index + 1 ≤ files_in c.args.names.now.parts = grind (arith, common_steps, c.files_in-last.ensures, c.loop-index-test.true) in
    fails_at (told_by g.F.Shelf c.args.files.now) (told_by g.F.Shelf c.loop-index.files) (names_of c.args.names.now) c.args.table.now c.loop-index.loader c.loop-index.index h c.in-Err.fault few
    (rw h.shelf.same_files at c.in-Err.ensures.stops)

pub loop-index-preserved : goal.loop-index-preserved
loop-index-preserved g c =
    let h = c.loop-index.invariant.0 in (
      loads_more (told_by g.F.Shelf c.args.files.now) (told_by g.F.Shelf c.loop-index.files) (names_of c.args.names.now) c.args.table.now c.loop-index.loader c.loop-index.index h
          (told_by g.F.Shelf c.load_part.new.files) c.in-Ok-load_part.next (rw h.shelf.same_files at c.in-Ok-load_part.ensures.ended)
          (HasRead-then None _ _ _ h.shelf c.in-Ok-load_part.ensures.shelf) (asks_then (IsTableLimit (names_of c.args.names.now)) _ _ _ h.asked c.in-Ok-load_part.ensures.asked),
      grind (arith, common_steps),
    )

pub returns-clause-loaded : goal.returns-clause-loaded
returns-clause-loaded g c =
    let h = c.loop-index.invariant.0 in
    let last : c.files_in-last.result - 1 ≡ c.loop-index.index = grind (arith, common_steps, c.loop-index-test.false, c.loop-index.auto.index-end) in
    let all : c.files_in-last.result - 1 + 1 ≡ files_in c.args.names.now.parts = grind (arith, common_steps, c.files_in-last.ensures) in
    last_loaded (told_by g.F.Shelf c.args.files.now) (told_by g.F.Shelf c.loop-index.files) (names_of c.args.names.now) c.args.table.now c.loop-index.loader c.loop-index.index h c.load_last.result
    (c.files_in-last.result - 1) last all (rw h.shelf.same_files at c.load_last.ensures.ended) c.load_last.ensures.columns

pub returns-clause-stops : goal.returns-clause-stops
returns-clause-stops g c =
    let h = c.loop-index.invariant.0 in
    let last : c.files_in-last.result - 1 ≡ c.loop-index.index = grind (arith, common_steps, c.loop-index-test.false, c.loop-index.auto.index-end) in
    let all : c.files_in-last.result - 1 + 1 ≡ files_in c.args.names.now.parts = grind (arith, common_steps, c.files_in-last.ensures) in
    last_fails (told_by g.F.Shelf c.args.files.now) (told_by g.F.Shelf c.loop-index.files) (names_of c.args.names.now) c.args.table.now c.loop-index.loader c.loop-index.index h c.load_last.result
    (c.files_in-last.result - 1) last all (rw h.shelf.same_files at c.load_last.ensures.stops)
