use Rattle.std.proofs.Common.{◌≡◌, length}
use Rattle.qw_linear.specs.Memory.{AreOctets}
use Rattle.qw_bench.proofs.FirstPages.{AreFirst}
use Rattle.qw_bench.proofs.first_page.write_entries.Given as goal

abbrev pub invariant-loop-index : goal.invariant-loop-index
invariant-loop-index l = record {
  first : AreFirst l.fn.memory.octets l.memory.octets l.entries l.columns l.placed l.index;
  octets : AreOctets l.fn.memory.octets → AreOctets l.memory.octets;
  len : length l.memory.octets ≡ length l.fn.memory.octets;
  reserved : l.memory.reserved ≡ l.fn.memory.reserved;
}
