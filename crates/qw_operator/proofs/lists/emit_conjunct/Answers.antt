use Rattle.std.proofs.Common.{◌+◌, List, length, take, refl, sym, ◌∙◌, subst}
use Rattle.std.specs.List.{AllByRecursion}
use Rattle.qw_scalar.specs.Nodes.{nodes_of}
use Rattle.qw_scalar.specs.Tree.{condition_of}
use Rattle.qw_expr.specs.Bindings.{known_of, IsServed, TakeKnown}
use Rattle.qw_expr.specs.Computes.{Known}
use Rattle.qw_expr.specs.Emits.{free_of}
use Rattle.qw_expr.specs.Tests.{tested}
use Rattle.qw_low.specs.Steps.{expression_steps}
use Rattle.qw_operator.specs.Needed.{IsWithin}
use Rattle.qw_operator.proofs.Conjuncts.{conjunct_known, known_front, served_after}
use Rattle.qw_operator.proofs.Listed.{conjunct_emits}
use Rattle.qw_operator.proofs.Fronts.{between}
use Rattle.qw_operator.proofs.Shortness.{conjunct_short, part_short}
use Rattle.qw_operator.proofs.lists.emit_conjunct.Goals as goal

pub emit_test-requires-clause-known : goal.emit_test-requires-clause-known
emit_test-requires-clause-known c =
    let lits = take c.args.literals (known_of c.args.known.now) in
    let within = subst (AllByRecursion (IsWithin c.args.readers.now c.needed_for-upto.result)) (c.deref.ensures.value ∙ c.in_ok-leaves.ensures.0) c.needed_for-upto.ensures.all in
    subst (λ (ks : List Known). TakeKnown ks (condition_of c.args.conjunct.now)) (sym (known_front c.args.literals c.needed_for-upto.result c.args.readers.now c.args.known.now c.requires.ordered))
    (conjunct_known lits c.args.readers.now c.needed_for-upto.result c.args.conjunct.now within (subst (λ (ks : List Known). TakeKnown ks (condition_of c.args.conjunct.now)) c.requires.ordered.known_is c.requires.known))

pub emit_test-requires-clause-served : goal.emit_test-requires-clause-served
emit_test-requires-clause-served c =
    let lits = take c.args.literals (known_of c.args.known.now) in
    subst (IsServed (free_of c.args.emitter.now)) (sym (known_front c.args.literals c.needed_for-upto.result c.args.readers.now c.args.known.now c.requires.ordered))
    (served_after lits c.args.readers.now c.needed_for-upto.result (free_of c.args.emitter.now) (subst (IsServed (free_of c.args.emitter.now)) c.requires.ordered.known_is c.requires.served))

pub returns-clause-emits : goal.returns-clause-emits
returns-clause-emits c =
    let upto = c.needed_for-upto.result in
    conjunct_emits (take c.args.literals (known_of c.args.known.now)) c.args.readers.now c.args.done upto (condition_of c.args.conjunct.now) c.args.emitter.now
    (record { first = c.args.emitter.now.first; block = c.emit_reads.new.block; own = c.args.emitter.now.own }) c.emit_test.new.emitter (record { first = c.emit_test.new.emitter.first; block = c.open_test.new.block; own = c.emit_test.new.emitter.own })
    (known_of (take (c.args.literals + upto) c.args.known.now)) c.in_ok-test.test c.in_ok-emit_reads.ensures.0
    (record { part = _; part_is = between c.args.readers.now c.args.done upto c.needed_for-upto.ensures.ahead; ahead = c.needed_for-upto.ensures.ahead; within = c.needed_for-upto.ensures.within; reads = c.in_ok-emit_reads.ensures.2 })
    (known_front c.args.literals upto c.args.readers.now c.args.known.now c.requires.ordered) c.in_ok-test.ensures.emits refl refl c.in_ok-emit_reads.ensures.1 refl refl c.in_ok-open_test.ensures.code

pub returns-clause-short : goal.returns-clause-short
returns-clause-short c =
    let upto = c.needed_for-upto.result in
    conjunct_short (length c.args.emitter.now.block.code.items) (length c.emit_reads.new.block.code.items) (length c.emit_test.new.emitter.block.code.items) (length c.open_test.new.block.code.items)
    (length c.args.emitter.now.own.items) (length c.emit_test.new.emitter.own.items) c.args.done upto (length (expression_steps (tested c.in_ok-test.test))) (nodes_of c.args.conjunct.now)
    (part_short c.args.readers.now _ c.args.done upto c.in_ok-emit_reads.ensures.0 c.args.emitter.now.block.code.items c.emit_reads.new.block.code.items (between c.args.readers.now c.args.done upto c.needed_for-upto.ensures.ahead) c.needed_for-upto.ensures.ahead
    c.needed_for-upto.ensures.within c.in_ok-emit_reads.ensures.2.short c.in_ok-emit_reads.ensures.1)
    c.in_ok-test.ensures.short c.in_ok-open_test.ensures.short c.in_ok-test.ensures.few
