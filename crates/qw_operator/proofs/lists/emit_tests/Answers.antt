use Rattle.std.proofs.Common.{map, take, arith}
use Rattle.qw_scalar.specs.Tree.{condition_of}
use Rattle.qw_expr.specs.Bindings.{known_of}
use Rattle.qw_expr.specs.Emits.{extent, free_of}
use Rattle.qw_operator.proofs.Listed.{next_test, served_later, tests_free, tests_none}
use Rattle.qw_operator.proofs.Shortness.{next_test_short}
use Rattle.qw_operator.proofs.lists.emit_tests.Goals as goal

pub loop-conjunct-init : goal.loop-conjunct-init
loop-conjunct-init c = record {
  emits = tests_none (take c.args.literals (known_of c.args.known.now)) c.args.readers.now c.args.emitter.now;
  within = omega arith;
  short = omega arith;
}

pub emit_conjunct-requires-clause-served : goal.emit_conjunct-requires-clause-served
emit_conjunct-requires-clause-served c =
    let before = c.loop-conjunct.invariant.emits in
    let free = tests_free (take c.args.literals (known_of c.args.known.now)) c.args.readers.now (map condition_of (take c.loop-conjunct.conjunct-index c.args.conjuncts.now)) c.args.emitter.now c.loop-conjunct.emitter c.loop-conjunct.done before in
    served_later (free_of c.args.emitter.now) (free_of c.loop-conjunct.emitter) (known_of c.args.known.now) (omega (arith, free)) c.requires.served

pub loop-conjunct-preserved : goal.loop-conjunct-preserved
loop-conjunct-preserved c = record {
  emits = next_test (take c.args.literals (known_of c.args.known.now)) c.args.readers.now c.args.conjuncts.now c.loop-conjunct.conjunct-index c.conjunct-item.result c.args.emitter.now c.loop-conjunct.emitter c.emit_conjunct.new.emitter c.loop-conjunct.done
      c.in_ok-done.done c.loop-conjunct-test.true c.conjunct-item.is c.loop-conjunct.invariant.emits c.in_ok-done.ensures.emits;
  within = c.in_ok-done.ensures.within;
  short = next_test_short c.args.conjuncts.now c.loop-conjunct.conjunct-index c.conjunct-item.result (extent c.args.emitter.now) (extent c.loop-conjunct.emitter) (extent c.emit_conjunct.new.emitter) c.loop-conjunct.done
      c.in_ok-done.done c.loop-conjunct-test.true c.conjunct-item.is c.loop-conjunct.invariant.short c.in_ok-done.ensures.short;
}
