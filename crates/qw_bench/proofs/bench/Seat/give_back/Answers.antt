use Rattle.std.proofs.Common.{◌∙◌}
use Rattle.qw_bench.proofs.GivingBack.{back-next}
use Rattle.qw_bench.proofs.bench.Seat.give_back.Goals as goal

pub loop-grant-preserved : goal.loop-grant-preserved
loop-grant-preserved c =
    let back = c.take_back-in-loop-grant in
    record {
      free = back-next c.args.self.now c.loop-grant.grant-index _ c.args.pool.now.free.items c.loop-grant.pool.free.items back.new.self.free.items
          c.as_slice-grant-items.result.now c.as_slice-grant-items.ensures.value c.loop-grant-test.true c.loop-grant.invariant.free back.ensures.free;
      pool = back.ensures.kept;
      memory = back.ensures.memory ∙ c.loop-grant.invariant.memory;
    }
