use Rattle.std.proofs.Common.{◌≡◌}
use Rattle.qw_map.specs.Free.{given_back}
use Rattle.qw_bench.specs.Inner.Pools.{IsPool}
use Rattle.qw_bench.specs.Inner.Seats.{areas_before}
use Rattle.qw_bench.proofs.bench.Seat.give_back.Given as goal

-- the pages of the first page and of the grants before are free
abbrev pub invariant-loop-grant : goal.invariant-loop-grant
invariant-loop-grant l = record {
  free : l.pool.free.items ≡ given_back (areas_before l.self l.grant-index) l.fn.pool.free.items;
  pool : IsPool l.pool;
  memory : l.pool.memory ≡ l.fn.pool.memory;
}
