use Rattle.std.proofs.Common.{◌≡◌, ◌≤◌, ◌<◌, ◌+◌, ◌*◌, ◌^◌, add-one, arith, get_or, length}
use Rattle.std.proofs.lemmas.Option.{slice_get-get_or}
use Rattle.qw_linear.proofs.AccessFacts.{stored-inside}
use Rattle.qw_columns.proofs.WriteLemmas.{keeps_number, keeps_then, start_first, start_next}
use Rattle.qw_columns.proofs.writing.write_offsets.Goals as goal

pub loop-row-init : goal.loop-row-init
loop-row-init c =
    let memory = c.args.memory.now in
    let room : c.args.at + 4 ≤ length memory.octets = omega (arith, c.requires.room) in
    rw (c.store32.ensures.stored, stored-inside memory.octets c.args.at 4 0 room) (record {
      starts = λ octets values are. start_first memory.octets c.args.at values room;
      keeps = keeps_number memory c.args.at 4 0;
    })

pub loop-row-preserved : goal.loop-row-preserved
loop-row-preserved c =
    let memory = c.loop-row.memory in
    let row = c.loop-row.row in
    let end = get_or c.args.ends.now row 0 in
    let place = c.args.at + 4 * row + 4 in
    let room : place + 4 ≤ length memory.octets = omega (arith, c.requires.room, c.loop-row-test.true, c.loop-row.invariant.keeps.len) in
    let small : end < 2 ^ 32 = omega (arith, c.type_inv.ends row) in
    rw (c.store32-in-loop-row.ensures.stored, stored-inside memory.octets place 4 c.from-end.result room, c.from-end.ensures, add-one) (record {
      starts = λ octets values are.
          start_next memory.octets c.args.at c.args.ends.now octets values row place end are (slice_get-get_or c.args.ends.now row 0 c.loop-row-test.true) (omega arith) small room
          (c.loop-row.invariant.starts octets values are);
      keeps = keeps_then c.args.memory.now memory _ c.args.at place (omega arith) c.loop-row.invariant.keeps (keeps_number memory place 4 end);
    })

pub returns-clause-starts : goal.returns-clause-starts
returns-clause-starts c octets values are =
    let last : c.loop-row.row ≡ length c.args.ends.now = omega (arith, c.loop-row-test.false, c.loop-row.auto.row-end) in
    rw (add-one, ← last) (c.loop-row.invariant.starts octets values are)
