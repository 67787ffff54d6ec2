use Rattle.std.proofs.Common.{take}
use Rattle.qw_csv.proofs.MachineLemmas.{Scans}
use Rattle.qw_csv.proofs.place.scan_each.Given as goal

abbrev pub invariant-loop-index : goal.invariant-loop-index
invariant-loop-index l = Scans l.fn.place (take l.index l.text) l.text l.scanned l.index
