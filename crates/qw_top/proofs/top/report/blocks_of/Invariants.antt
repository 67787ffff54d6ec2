use Rattle.std.proofs.Common.{map, take}
use Rattle.qw_top.specs.Inner.Queries.{asked_of}
use Rattle.qw_top.specs.Inner.Reports.{AreBlocks}
use Rattle.qw_top.proofs.top.report.blocks_of.Given as goal

abbrev pub invariant-loop-k : goal.invariant-loop-k
invariant-loop-k l = AreBlocks l.counts (map asked_of (take l.k l.queries)) l.bench 0 l.text.items
