use Rattle.std.proofs.lemmas.Result.{err_from_is_err_and}
use Rattle.qw_octet_grammar.specs.Reading.{read}
use Rattle.qw_octet_grammar.proofs.Loops.{begin_counted, done_counted, ends_counted, goes_on_counted}
use Rattle.qw_scan.specs.Inner.Passing.{all_over}
use Rattle.qw_scan.specs.Inner.Over.{item_over}
use Rattle.qw_scan.proofs.over.Item.behind_all.Goals as goal

pub loop-init : goal.loop-init
loop-init c = begin_counted (λ (before : Unit {0}). item_over c.args.self) c.args.count tt c.args.octets.now

pub returns-in_err-rest : goal.returns-in_err-rest
returns-in_err-rest c =
    let p = err_from_is_err_and c.from_residual.result c.from_residual.ensures.1 in
    rw (p.1, p.2) (ends_counted (λ (before : Unit {0}). item_over c.args.self) c.in_err-rest.field-0.0 c.args.count c.loop.counter tt c.loop.rest.now
    (read (all_over c.args.count (item_over c.args.self)) c.args.octets.now) c.loop-test.true c.in_err-rest.ensures c.loop.invariant)

pub loop-preserved : goal.loop-preserved
loop-preserved c =
    goes_on_counted (λ (before : Unit {0}). item_over c.args.self) c.args.count c.loop.counter tt c.loop.rest.now tt c.in_ok-rest.rest.now
    (read (all_over c.args.count (item_over c.args.self)) c.args.octets.now) c.loop-test.true c.in_ok-rest.ensures c.loop.invariant

pub returns : goal.returns
returns c =
    done_counted (λ (before : Unit {0}). item_over c.args.self) c.args.count c.loop.counter tt c.loop.rest.now
    (read (all_over c.args.count (item_over c.args.self)) c.args.octets.now) c.loop-test.false c.loop.invariant
