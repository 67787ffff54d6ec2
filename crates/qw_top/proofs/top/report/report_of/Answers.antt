use Rattle.std.proofs.Common.{map}
use Rattle.std.proofs.lemmas.List.{length-map}
use Rattle.qw_top.specs.Inner.Queries.{asked_of}
use Rattle.qw_top.proofs.DeliverLemmas.{is_report, ran_ended, ran_held, ran_many}
use Rattle.qw_top.proofs.top.report.report_of.Goals as goal

pub blocks_of-requires-clause-many : goal.blocks_of-requires-clause-many
blocks_of-requires-clause-many c =
    let queries = c.args.run.now.queries.items in
    rw c.as_slice.ensures.value (rw (length-map queries asked_of) at (ran_many (map asked_of queries) c.args.run.now.bench c.requires))

pub blocks_of-requires-clause-ended : goal.blocks_of-requires-clause-ended
blocks_of-requires-clause-ended c =
    let queries = c.args.run.now.queries.items in
    rw c.as_slice.ensures.value (rw (length-map queries asked_of) at (ran_ended (map asked_of queries) c.args.run.now.bench c.requires))

pub blocks_of-requires-clause-held : goal.blocks_of-requires-clause-held
blocks_of-requires-clause-held c = ran_held (map asked_of c.args.run.now.queries.items) c.args.run.now.bench c.requires

pub returns : goal.returns
returns c =
    is_report c.args.counts (map asked_of c.args.run.now.queries.items) c.args.run.now.bench c.in_ok-text.text.items c.status_of.result (rw c.as_slice.ensures.value at c.in_ok-text.ensures) c.status_of.ensures
