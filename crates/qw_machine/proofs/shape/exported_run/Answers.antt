use Rattle.std.proofs.Common.{sym}
use Rattle.qw_machine.proofs.ShapeFacts.{no_run-more}
use Rattle.qw_machine.proofs.shape.exported_run.Goals as goal

pub loop-export-preserved : goal.loop-export-preserved
loop-export-preserved c =
    let m = c.args.«module».now in
    no_run-more m m.exports.items c.loop-export.export-index c.export-item.result c.loop-export.invariant
    (rw c.deref-export-items.ensures.value at c.loop-export-test.true) (rw c.deref-export-items.ensures.value at c.export-item.is) c.in_default.ensures

pub returns-in-Some-clause-some : goal.returns-in-Some-clause-some
returns-in-Some-clause-some c = (
  c.loop-export.export-index,
  c.export-item.result,
  rw c.deref-export-items.ensures.value at c.loop-export-test.true,
  sym (rw c.deref-export-items.ensures.value at c.export-item.is),
  c.in-Some.ensures,
)
