use Rattle.std.proofs.Common.{None, length, arith}
use Rattle.std.proofs.lemmas.Grind.{common_steps}
use Rattle.qw_top.proofs.AskingLemmas.{asks_more, room_fits}
use Rattle.qw_top.proofs.WholeFileLemmas.{HasRead-then, IsFront-whole, IsFront-longer}
use Rattle.qw_top.proofs.files.read_pieces.Goals as goal

pub returns-then-count-eq0-clause-whole : goal.returns-then-count-eq0-clause-whole
returns-then-count-eq0-clause-whole g c =
    let at_end = c.in_ok-count.ensures.end c.if-count-eq0.true in
    rw at_end.0 (IsFront-whole (g.F.Shelf.files c.args.files.now) c.args.name.now c.loop-bytes.bytes.items c.loop-bytes.invariant.front (rw (← c.loop-bytes.invariant.shelf.same_files) at_end.1))

pub returns-then-count-eq0-clause-within : goal.returns-then-count-eq0-clause-within
returns-then-count-eq0-clause-within g c =
    omega (arith, c.in_ok-count.ensures.added, c.loop-bytes.bytes.ok.0)

pub returns-clause-too_long : goal.returns-clause-too_long
returns-clause-too_long g c _ =
    IsFront-longer (g.F.Shelf.files c.args.files.now) c.args.name.now c.loop-bytes.bytes.items c.args.limit c.loop-bytes.invariant.front (omega (arith, c.loop-bytes.bytes.ok.0))

pub returns-in_err-count-clause-asked : goal.returns-in_err-count-clause-asked
returns-in_err-count-clause-asked g c = asks_more _ _ _ _ _ _ (room_fits (length c.loop-bytes.bytes.items) c.args.limit c.min-room.result c.loop-bytes.piece (grind (arith, common_steps)) (grind (arith, common_steps))) c.loop-bytes.invariant.asked c.in_err-count.ensures.asked

pub returns-then-count-eq0-clause-asked : goal.returns-then-count-eq0-clause-asked
returns-then-count-eq0-clause-asked g c = asks_more _ _ _ _ _ _ (room_fits (length c.loop-bytes.bytes.items) c.args.limit c.min-room.result c.loop-bytes.piece (grind (arith, common_steps)) (grind (arith, common_steps))) c.loop-bytes.invariant.asked c.in_ok-count.ensures.asked

pub loop-bytes-preserved : goal.loop-bytes-preserved
loop-bytes-preserved g c = record {
  front = rw (← c.loop-bytes.invariant.shelf.same_files) (c.in_ok-count.ensures.front (rw c.loop-bytes.invariant.shelf.same_files c.loop-bytes.invariant.front));
  within = omega (arith, c.in_ok-count.ensures.added, c.in_ok-count.ensures.within, (room_fits (length c.loop-bytes.bytes.items) c.args.limit c.min-room.result c.loop-bytes.piece (grind (arith, common_steps)) (grind (arith, common_steps))));
  shelf = HasRead-then None _ _ _ c.loop-bytes.invariant.shelf c.in_ok-count.ensures.shelf;
  asked = asks_more _ _ _ _ _ _ (room_fits (length c.loop-bytes.bytes.items) c.args.limit c.min-room.result c.loop-bytes.piece (grind (arith, common_steps)) (grind (arith, common_steps))) c.loop-bytes.invariant.asked c.in_ok-count.ensures.asked;
}
