use Rattle.std.proofs.Common.{◌<◌, None, arith}
use Rattle.std.proofs.lemmas.Grind.{common_steps}
use Rattle.qw_top.specs.Asking.{IsOne}
use Rattle.qw_top.proofs.AskingLemmas.{asks_none, asks_then}
use Rattle.qw_top.proofs.TableFileLemmas.{is_short, is_too_long, read_there, shelf_none}
use Rattle.qw_top.proofs.WholeFileLemmas.{HasRead-then}
use Rattle.qw_top.proofs.table_file.skip_rest.Goals as goal

pub loop-end-init : goal.loop-end-init
loop-end-init g c = (
  record { there = c.requires.there; within = c.requires.within; further = omega arith; shelf = shelf_none _; asked = asks_none _ _ },
  c.requires.room,
)

pub returns-in_err-count-clause-asked : goal.returns-in_err-count-clause-asked
returns-in_err-count-clause-asked g c = asks_then (IsOne c.args.name.now c.args.limit) _ _ _ c.loop-end.invariant.0.asked c.in_err-count.ensures.asked

pub returns-then-count-eq0-clause-asked : goal.returns-then-count-eq0-clause-asked
returns-then-count-eq0-clause-asked g c = asks_then (IsOne c.args.name.now c.args.limit) _ _ _ c.loop-end.invariant.0.asked c.in_ok-count.ensures.asked

pub returns-then-count-eq0-clause-end : goal.returns-then-count-eq0-clause-end
returns-then-count-eq0-clause-end g c =
    is_short (g.F.Shelf.files c.args.files.now) c.args.name.now c.args.limit c.loop-end.end c.loop-end-test.true
    (rw c.loop-end.invariant.0.shelf.same_files at (c.in_ok-count.ensures.end c.if-count-eq0.true))

pub returns-then-count-eq0-clause-within : goal.returns-then-count-eq0-clause-within
returns-then-count-eq0-clause-within g c = omega (arith, c.loop-end.invariant.0.further, c.loop-end-test.true)

pub returns-clause-too_long : goal.returns-clause-too_long
returns-clause-too_long g c _ =
    is_too_long (g.F.Shelf.files c.args.files.now) c.args.name.now c.args.limit c.loop-end.end c.loop-end-test.false c.loop-end.invariant.0.there

pub loop-end-preserved : goal.loop-end-preserved
loop-end-preserved g c =
    let h = c.loop-end.invariant.0 in
    let some : 0 < c.in_ok-count.count = grind (arith, common_steps) in (
      record {
        there = read_there (g.F.Shelf.files c.args.files.now) c.args.name.now c.fetch_piece.new.piece c.loop-end.end c.in_ok-count.count some c.in_ok-count.ensures.fits
            (rw h.shelf.same_files at c.in_ok-count.ensures.octets);
        within = c.in_ok-count.ensures.within;
        further = omega (arith, h.further);
        shelf = HasRead-then None _ _ _ h.shelf c.in_ok-count.ensures.shelf;
        asked = asks_then (IsOne c.args.name.now c.args.limit) _ _ _ h.asked c.in_ok-count.ensures.asked;
      },
      grind (arith, common_steps),
    )

pub overflow_add-end : goal.overflow_add-end
overflow_add-end g c = grind (arith, common_steps, c.requires.small, c.in_ok-count.ensures.within)
