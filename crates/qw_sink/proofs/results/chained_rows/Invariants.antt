use Rattle.std.proofs.Common.{List, IsSome, ◌<◌, ◌^◌}
use Rattle.qw_map.specs.Areas.{Area}
use Rattle.qw_map.specs.Layout.{rows_from}
use Rattle.qw_map.proofs.ResultRows.{IsRead}
use Rattle.qw_sink.proofs.results.chained_rows.Given as goal

abbrev pub invariant-loop : goal.invariant-loop
invariant-loop l = record {
  read : (texts own : List Area) → IsSome (rows_from l.kinds texts own l.memory.octets l.count l.first) →
      IsRead l.kinds texts own l.memory.octets l.count l.first l.counter l.at l.rows.items;
  small : l.at < 2 ^ 32;
}
