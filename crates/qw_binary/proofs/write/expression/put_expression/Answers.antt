use Rattle.std.proofs.Common.{Bool, subst}
use Rattle.std.proofs.lemmas.Result.{err_from_is_err_and}
use Rattle.qw_octet_grammar.specs.Grammar.{goes_on, ends, octet}
use Rattle.qw_octet_grammar.specs.Writing.{Puts}
use Rattle.qw_octet_grammar.proofs.WriteLaws.{items_begin, items_next, items_end}
use Rattle.qw_module.specs.Validity.{sequences_of}
use Rattle.qw_binary.specs.Instructions.{at_first, instruction}
use Rattle.qw_binary.specs.Inner.Writer.{progress_of, next_of}
use Rattle.qw_binary.specs.Inner.Followed.{Passes}
use Rattle.qw_binary.proofs.FollowedSteps.{passes_same, passes_on, dead_before, not_spelled}
use Rattle.qw_binary.proofs.write.expression.put_expression.Goals as goal

pub loop-init : goal.loop-init
loop-init c =
    record {
      awaits = rw c.in_ok-writer.ensures.first (items_begin instruction at_first c.args.out.now.items);
      at = c.in_ok-writer.ensures.at;
      follows = rw c.in_ok-writer.ensures.first (passes_same (sequences_of c.args.body.now) (goes_on at_first));
    }

pub step-requires : goal.step-requires
step-requires c = record { at = c.loop.invariant.at }

pub loop-preserved : goal.loop-preserved
loop-preserved c =
    let body = sequences_of c.args.body.now in
    let before = progress_of body c.loop.writer in
    let next = goes_on (progress_of body c.step.new.self) in
    let put = subst (λ (b : Bool). Puts (octet (instruction before)) (next_of body b c.step.new.self) c.loop.out.items c.step.new.out.items) c.if-branch.false c.in_ok-step.ensures.written in
    let follows = subst (λ (b : Bool). Passes body (goes_on before) (next_of body b c.step.new.self)) c.if-branch.false c.in_ok-step.ensures.follows in
    record {
      awaits = items_next instruction at_first before next c.args.out.now.items c.loop.out.items c.step.new.out.items c.loop.invariant.awaits put;
      at = c.in_ok-step.ensures.at c.if-branch.false;
      follows = passes_on body (goes_on at_first) (goes_on before) next c.loop.invariant.follows follows;
    }

pub returns-then-branch-clause-written : goal.returns-then-branch-clause-written
returns-then-branch-clause-written c =
    let body = sequences_of c.args.body.now in
    let before = progress_of body c.loop.writer in
    let put = subst (λ (b : Bool). Puts (octet (instruction before)) (next_of body b c.step.new.self) c.loop.out.items c.step.new.out.items) c.if-branch.true c.in_ok-step.ensures.written in
    items_end instruction at_first body c.args.out.now.items c.step.new.out.items
    (items_next instruction at_first before (ends body) c.args.out.now.items c.loop.out.items c.step.new.out.items c.loop.invariant.awaits put)

pub returns-in_err-writer-clause-refused : goal.returns-in_err-writer-clause-refused
returns-in_err-writer-clause-refused c =
    let p = err_from_is_err_and c.from_residual.result c.from_residual.ensures.1 in
    rw (p.1, p.2) (λ e text. not_spelled (sequences_of c.args.body.now) (c.in_err-writer.ensures.refused e) text)

pub returns-in_err-step-clause-refused : goal.returns-in_err-step-clause-refused
returns-in_err-step-clause-refused c =
    let body = sequences_of c.args.body.now in
    let p = err_from_is_err_and c.from_residual-in_err-step.result c.from_residual-in_err-step.ensures.1 in
    rw (p.1, p.2) (λ e text. not_spelled body (dead_before body (goes_on at_first) (goes_on (progress_of body c.loop.writer)) c.loop.invariant.follows (c.in_err-step.ensures.refused e)) text)
