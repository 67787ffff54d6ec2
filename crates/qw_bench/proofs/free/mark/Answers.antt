use Rattle.std.proofs.Common.{rules, arith}
use Rattle.qw_bench.proofs.FreeCounts.{changes-next, once}
use Rattle.qw_bench.proofs.free.mark.Goals as goal

pub loop-left-preserved : goal.loop-left-preserved
loop-left-preserved c =
    let it = c.loop-left.invariant in
    let is = c.from-changed.ensures in
    let few = once _ c.from-changed.result is in
    record {
      marked = search rules;
      inside = search rules;
      changed = changes-next c.args.flag c.loop-left.changed _ c.loop-left.flags c.loop-left.at (search rules) it.changed c.from-changed.result is;
      few = omega (arith, it.few, few, c.loop-left-test.true);
    }
