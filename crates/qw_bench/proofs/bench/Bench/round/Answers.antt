use Rattle.std.proofs.Common.{◌<◌, ◌∙◌, arith, length}
use Rattle.qw_bench.proofs.Rounds.{passed-next, turned-next}
use Rattle.qw_bench.proofs.bench.Bench.round.Goals as goal
use Rattle.qw_bench.proofs.bench.Bench.round.Goals.{else-is_none, then-is_none}

pub loop-i-preserved : goal.loop-i-preserved
loop-i-preserved c =
    let b = c.args.self.now in
    let quantum = c.args.quantum in
    let k = c.loop-i.i in
    let so_far = c.loop-i.invariant.turned in
    elim c.if-is_none.branch [
      | then-is_none w ↦
          let within : k < length b.shared.instances = omega (arith, c.len-i-end.ensures.many) in
          rw w.self-is (record {
            turned = turned-next b c.len-i-end.ensures.kept quantum k w.turn.result c.loop-i.self w.turn.new.self c.ended.result so_far within
                c.ended.ensures w.if-is_none.ensures w.turn.ensures.turn w.turn.ensures.counted w.turn.ensures.none.0;
            tasks = w.turn.ensures.tasks ∙ c.loop-i.invariant.tasks;
            reserved = w.turn.ensures.reserved ∙ c.loop-i.invariant.reserved;
          })
      | else-is_none w ↦
          rw w.self-is (record {
            turned = passed-next quantum k b.shared c.loop-i.self c.ended.result so_far c.ended.ensures w.if-is_none.ensures;
            tasks = c.loop-i.invariant.tasks;
            reserved = c.loop-i.invariant.reserved;
          })
    ]
