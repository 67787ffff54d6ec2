use Rattle.std.proofs.Common.{◌≤◌, ◌+◌, ◌*◌, length, map, sum_by, take}
use Rattle.qw_scalar.specs.Nodes.{nodes_of}
use Rattle.qw_scalar.specs.Tree.{condition_of}
use Rattle.qw_expr.specs.Bindings.{known_of}
use Rattle.qw_expr.specs.Emits.{extent}
use Rattle.qw_operator.specs.Emitted.{EmitsTests}
use Rattle.qw_operator.proofs.lists.emit_tests.Given as goal

abbrev pub invariant-loop-conjunct : goal.invariant-loop-conjunct
invariant-loop-conjunct l = record {
  emits : EmitsTests (take l.literals (known_of l.known)) l.readers (map condition_of (take l.conjunct-index l.conjuncts)) l.initial.emitter l.emitter l.done;
  within : l.done ≤ length l.readers;
  short : extent l.emitter ≤ extent l.initial.emitter + 78 * l.done + 404 * sum_by nodes_of (take l.conjunct-index l.conjuncts);
}
