use Rattle.std.proofs.Common.{[], arith}
use Rattle.std.proofs.lemmas.Result.{err_from_is_err_and}
use Rattle.qw_octet_grammar.specs.Vectors.{counted, one_more}
use Rattle.qw_octet_grammar.specs.Reading.{read}
use Rattle.qw_octet_grammar.proofs.Loops.{done_counted, ends_one_more, goes_on_one_more, vector_loop}
use Rattle.qw_binary.specs.Sections.{locals_run}
use Rattle.qw_binary.proofs.read.functions.locals_runs_at.Goals as goal

pub loop-init : goal.loop-init
loop-init c = grind (arith, vector_loop)

pub returns-in_err-item : goal.returns-in_err-item
returns-in_err-item c =
    let p = err_from_is_err_and c.from_residual.result c.from_residual.ensures.1 in
    rw (p.1, p.2) (ends_one_more locals_run c.in_err-item.field-0.0 c.args.count c.loop.counter c.loop.found.items c.loop.rest.now
    (read (counted c.args.count (one_more locals_run) []) c.args.octets.now) c.loop-test.true c.in_err-item.ensures c.loop.invariant)

pub loop-preserved : goal.loop-preserved
loop-preserved c =
    rw c.in_ok-push.ensures.items (goes_on_one_more locals_run c.args.count c.loop.counter c.loop.found.items c.loop.rest.now c.in_ok-item.item c.in_ok-item.after.now
    (read (counted c.args.count (one_more locals_run) []) c.args.octets.now) c.loop-test.true c.in_ok-item.ensures c.loop.invariant)

pub returns : goal.returns
returns c =
    done_counted (one_more locals_run) c.args.count c.loop.counter c.loop.found.items c.loop.rest.now
    (read (counted c.args.count (one_more locals_run) []) c.args.octets.now) c.loop-test.false c.loop.invariant
