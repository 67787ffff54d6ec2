use Rattle.std.proofs.Common.{◌+◌, arith}
use Rattle.std.proofs.lemmas.Result.{err_from_is_err_and}
use Rattle.qw_octet_grammar.specs.Vectors.{counted}
use Rattle.qw_octet_grammar.specs.Reading.{read}
use Rattle.qw_octet_grammar.proofs.Loops.{done_counted, ends_counted, goes_on_counted}
use Rattle.qw_scan.specs.Inner.Over.{run_over}
use Rattle.qw_scan.proofs.SameOver.{run_ok, run_fails, run_fails_type}
use Rattle.qw_scan.proofs.over.runs_at.Goals as goal

pub returns-in_err-more : goal.returns-in_err-more
returns-in_err-more c =
    let p = err_from_is_err_and c.from_residual.result c.from_residual.ensures.1 in
    rw (p.1, p.2) (ends_counted run_over c.in_err-more.field-0.0 c.args.count c.loop.counter c.loop.sum c.loop.rest.now
    (read (counted c.args.count run_over 0) c.args.octets.now) c.loop-test.true (run_fails c.loop.sum c.loop.rest.now c.in_err-more.field-0.0 c.in_err-more.ensures) c.loop.invariant.left)

pub returns-in_err-after : goal.returns-in_err-after
returns-in_err-after c =
    let p = err_from_is_err_and c.from_residual-in_err-after.result c.from_residual-in_err-after.ensures.1 in
    rw (p.1, p.2) (ends_counted run_over c.in_err-after.field-0.0 c.args.count c.loop.counter c.loop.sum c.loop.rest.now
    (read (counted c.args.count run_over 0) c.args.octets.now) c.loop-test.true
    (run_fails_type c.loop.sum c.loop.rest.now c.in_err-after.field-0.0 c.in_ok-more.more c.in_ok-more.after.now c.in_ok-more.ensures c.in_err-after.ensures) c.loop.invariant.left)

pub loop-preserved : goal.loop-preserved
loop-preserved c = record {
  left = goes_on_counted run_over c.args.count c.loop.counter c.loop.sum c.loop.rest.now (c.loop.sum + c.in_ok-more.more) c.in_ok-after.after.now
      (read (counted c.args.count run_over 0) c.args.octets.now) c.loop-test.true (run_ok c.loop.sum c.loop.rest.now c.in_ok-more.more _ c.in_ok-more.after.now c.in_ok-after.after.now c.in_ok-more.ensures c.in_ok-after.ensures) c.loop.invariant.left;
  most = grind (arith, c.loop.invariant.most, c.loop-test.true);
}

pub returns : goal.returns
returns c =
    done_counted run_over c.args.count c.loop.counter c.loop.sum c.loop.rest.now
    (read (counted c.args.count run_over 0) c.args.octets.now) c.loop-test.false c.loop.invariant.left
