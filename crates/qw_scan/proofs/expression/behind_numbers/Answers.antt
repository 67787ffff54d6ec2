use Rattle.std.proofs.lemmas.Result.{err_from_is_err_and}
use Rattle.qw_octet_grammar.specs.Numbers.{u32}
use Rattle.qw_octet_grammar.specs.Reading.{read}
use Rattle.qw_octet_grammar.proofs.Loops.{begin_counted, done_counted, ends_counted, goes_on_counted}
use Rattle.qw_scan.specs.Inner.Passing.{over, all_over}
use Rattle.qw_scan.proofs.SamePassing.{over_ok, over_fails}
use Rattle.qw_scan.proofs.expression.behind_numbers.Goals as goal

pub loop-init : goal.loop-init
loop-init c = begin_counted (λ (before : Unit {0}). over u32) c.args.count tt c.args.octets.now

pub returns-in_err-after : goal.returns-in_err-after
returns-in_err-after c =
    let p = err_from_is_err_and c.from_residual.result c.from_residual.ensures.1 in
    rw (p.1, p.2) (ends_counted (λ (before : Unit {0}). over u32) c.in_err-after.field-0.0 c.args.count c.loop.counter tt c.loop.rest.now
    (read (all_over c.args.count (over u32)) c.args.octets.now) c.loop-test.true (over_fails c.in_err-after.field-0.0 u32 c.loop.rest.now c.in_err-after.ensures) c.loop.invariant)

pub loop-preserved : goal.loop-preserved
loop-preserved c =
    goes_on_counted (λ (before : Unit {0}). over u32) c.args.count c.loop.counter tt c.loop.rest.now tt c.in_ok-after.after.now
    (read (all_over c.args.count (over u32)) c.args.octets.now) c.loop-test.true (over_ok u32 c.loop.rest.now _ c.in_ok-after.after.now c.in_ok-after.ensures) c.loop.invariant

pub returns : goal.returns
returns c =
    done_counted (λ (before : Unit {0}). over u32) c.args.count c.loop.counter tt c.loop.rest.now
    (read (all_over c.args.count (over u32)) c.args.octets.now) c.loop-test.false c.loop.invariant
