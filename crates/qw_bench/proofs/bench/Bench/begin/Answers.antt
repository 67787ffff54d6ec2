use Rattle.qw_bench.proofs.bench.Bench.begin.Goals as goal

pub invariant_of-result : goal.invariant_of-result
invariant_of-result c = (c.in_ok-seats.ensures.begins c.new-pool.result c.new-pool.ensures.memory c.new-pool.ensures.free c.new-pool.ensures.kept).2

pub returns-clause-tasks : goal.returns-clause-tasks
returns-clause-tasks c = (c.in_ok-seats.ensures.begins c.new-pool.result c.new-pool.ensures.memory c.new-pool.ensures.free c.new-pool.ensures.kept).0

pub returns-clause-start : goal.returns-clause-start
returns-clause-start c = (c.in_ok-seats.ensures.begins c.new-pool.result c.new-pool.ensures.memory c.new-pool.ensures.free c.new-pool.ensures.kept).1
