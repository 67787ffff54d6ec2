use Rattle.std.proofs.Common.{◌≡◌, map, reverse}
use Rattle.qw_valid.specs.Inner.Checking.{all_popped}
use Rattle.qw_scan.specs.Inner.TypesAt.{type_by}
use Rattle.qw_scan.proofs.stack.Stack.pop_arguments.Given as goal

-- what is still to be taken
abbrev pub invariant-loop-octet : goal.invariant-loop-octet
invariant-loop-octet l = record {
  taken : all_popped (reverse (map type_by l.types)) l.fn.self.known ≡ all_popped (reverse (map type_by l.octet-iterator.iter.rest.now)) l.self.known;
  below : l.self.below ≡ l.fn.self.below;
}
