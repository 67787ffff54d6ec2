use Rattle.std.proofs.Common.{◌≡◌, ◌<◌, ◌≤◌, List, ℕ, length, take, drop, sym, subst, arith}
use Rattle.std.proofs.lemmas.Grind.{common_steps}
use Rattle.qw_io.specs.Files.{OfFile}
use Rattle.qw_top.proofs.AskingLemmas.{one_ask, room_fits}
use Rattle.qw_top.proofs.TableFileLemmas.{at_end, front_of}
use Rattle.qw_top.proofs.table_file.fetch_piece.Goals as goal

pub returns-in_err-count-clause-asked : goal.returns-in_err-count-clause-asked
returns-in_err-count-clause-asked g c =
    one_ask _ _ _ _ _ (room_fits c.args.at c.args.limit c.min-room.result c.args.piece.now c.requires.within (grind (arith, common_steps))) c.in_err-count.ensures.watched

pub returns-clause-asked : goal.returns-clause-asked
returns-clause-asked g c =
    one_ask _ _ _ _ _ (room_fits c.args.at c.args.limit c.min-room.result c.args.piece.now c.requires.within (grind (arith, common_steps))) c.in_ok-count.ensures.watched

pub returns-clause-octets : goal.returns-clause-octets
returns-clause-octets g c =
    let count = c.in_ok-count.count in
    let fits : count ≤ length c.fetch.new.into = grind (arith, common_steps, c.in_ok-count.ensures.within, c.fetch.auto.into) in
    subst (λ (xs : List ℕ). OfFile (g.F.Shelf.files c.args.files.now) c.args.name.now (λ file. xs ≡ take count (drop c.args.at file)))
    (sym (front_of count c.fetch.new.into (drop c.min-room.result c.args.piece.now) fits)) c.in_ok-count.ensures.octets

pub returns-clause-within : goal.returns-clause-within
returns-clause-within g c =
    omega (arith, room_fits c.args.at c.args.limit c.min-room.result c.args.piece.now c.requires.within (grind (arith, common_steps)), c.in_ok-count.ensures.within)

pub returns-clause-end : goal.returns-clause-end
returns-clause-end g c zero =
    let some : 0 < length (take c.min-room.result c.args.piece.now) = grind (arith, common_steps, c.requires.room, c.requires.within, c.min-room.ensures, c.saturating_add.ensures) in
    at_end (g.F.Shelf.files c.args.files.now) c.args.name.now c.args.at c.in_ok-count.count (length (take c.min-room.result c.args.piece.now)) some zero c.in_ok-count.ensures.end
