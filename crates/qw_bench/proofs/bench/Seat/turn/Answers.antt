use Rattle.std.proofs.Common.{sym, subst, arith}
use Rattle.qw_map.specs.Turns.{Instance}
use Rattle.qw_bench.specs.Inner.Pools.{common_of}
use Rattle.qw_bench.specs.Inner.Seats.{IsTold}
use Rattle.qw_bench.proofs.SeatSteps.{counting-none, turned, turned-none, unended-seat}
use Rattle.qw_bench.proofs.bench.Seat.turn.Goals as goal

pub returns-then-is_some-clause-turned : goal.returns-then-is_some-clause-turned
returns-then-is_some-clause-turned c = turned-none c.args.self.now (common_of c.args.pool.now) c.args.quantum (sym c.if-is_some.ensures)

pub run-taken-requires-clause-runs : goal.run-taken-requires-clause-runs
run-taken-requires-clause-runs c = (unended-seat c.args.self.now c.requires.whole (sym c.if-is_some.ensures)).0

pub run-taken-requires-clause-below : goal.run-taken-requires-clause-below
run-taken-requires-clause-below c = (unended-seat c.args.self.now c.requires.whole (sym c.if-is_some.ensures)).1

pub run-taken-requires-clause-told : goal.run-taken-requires-clause-told
run-taken-requires-clause-told c =
    subst (λ (i : Instance). IsTold i (common_of c.args.pool.now)) (sym (counting-none c.args.self.now c.requires.whole)) c.requires.told

pub returns-clause-turned : goal.returns-clause-turned
returns-clause-turned c =
    let ran = c.run-taken.ensures in
    turned c.args.self.now c.run-taken.new.self c.count.new.self (common_of c.args.pool.now) c.run-taken.new.pool c.settle.new.pool c.args.quantum c.min.result
    c.run-taken.result c.requires.whole ran.ran c.min.ensures ran.seated ran.end ran.count c.count.ensures.counted c.settle.ensures.common

pub returns-clause-progress : goal.returns-clause-progress
returns-clause-progress c = λ unended some.
    let below = (unended-seat c.args.self.now c.requires.whole (sym c.if-is_some.ensures)).1 in
    c.run-taken.ensures.progress (omega (arith, c.min.ensures, below, some))
