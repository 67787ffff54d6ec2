use Rattle.std.proofs.Common.{length, map}
use Rattle.qw_top.specs.Inner.Queries.{asked_of}
use Rattle.qw_top.specs.Delivered.{ends_below}
use Rattle.qw_top.proofs.StoppedLemmas.{TookFront-none}
use Rattle.qw_top.proofs.DeliverLemmas.{ran_report, written_as, written_fault}
use Rattle.qw_top.proofs.top.report.deliver.Goals as goal

pub returns-in_default-clause-writes : goal.returns-in_default-clause-writes
returns-in_default-clause-writes g c ran =
    let shown = ran_report (map asked_of c.args.run.now.queries.items) c.args.run.now.bench ran c.args.counts in
    (shown.0, shown.1, TookFront-none _ shown.0)

pub returns-clause-writes : goal.returns-clause-writes
returns-clause-writes g c ran =
    let is = c.in-Ok.ensures ran in
    let took = rw c.as_slice.ensures.value at c.write_whole.ensures.whole in
    let front = rw c.as_slice.ensures.value at c.write_whole.ensures.front in (
      c.in-Ok.report.text.items,
      is.0,
      written_as c.write_whole.result (ends_below c.args.run.now.bench (length (map asked_of c.args.run.now.queries.items))) c.in-Ok.report.status c.end_of_write.result is.1 c.end_of_write.ensures.whole c.end_of_write.ensures.cut_short _ _ c.in-Ok.report.text.items took front,
    )

pub returns-clause-fault : goal.returns-clause-fault
returns-clause-fault g c =
    written_fault c.write_whole.result (ends_below c.args.run.now.bench (length (map asked_of c.args.run.now.queries.items))) c.in-Ok.report.status c.end_of_write.result (c.in-Ok.ensures c.requires).1 c.end_of_write.ensures.whole c.end_of_write.ensures.cut_short _ _
    c.write_whole.ensures.counts
