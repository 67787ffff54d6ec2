use Rattle.std.proofs.Common.{◌≡◌, take, map, reverse}
use Rattle.qw_valid.specs.Inner.Checking.{all_pushed}
use Rattle.qw_scan.specs.Inner.TypesAt.{type_by}
use Rattle.qw_scan.proofs.stack.Stack.push_results.Given as goal

-- the results so far were put
abbrev pub invariant-loop-octet : goal.invariant-loop-octet
invariant-loop-octet l = record {
  put : l.self.known ≡ all_pushed (reverse (map type_by (take l.octet-index l.types))) l.fn.self.known;
  below : l.self.below ≡ l.fn.self.below;
}
