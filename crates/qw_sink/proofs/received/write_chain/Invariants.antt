use Rattle.std.proofs.Common.{List, IsSome, ◌<◌, ◌^◌}
use Rattle.qw_map.specs.Areas.{Area}
use Rattle.qw_map.specs.Layout.{rows_from}
use Rattle.qw_sink.proofs.ChainLemmas.{AreWritten}
use Rattle.qw_sink.proofs.received.write_chain.Given as goal

abbrev pub invariant-loop : goal.invariant-loop
invariant-loop l = record {
  written : (texts own : List Area) → IsSome (rows_from l.kinds texts own l.memory.octets l.fn.chain.count l.fn.chain.first) →
      AreWritten l.header l.kinds texts own l.memory.octets l.fn.chain.count l.fn.chain.first l.counter l.at l.fn.writer l.writer;
  small : l.at < 2 ^ 32;
}
