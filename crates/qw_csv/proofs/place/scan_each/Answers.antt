use Rattle.std.proofs.Common.{get_or, take_all}
use Rattle.std.proofs.lemmas.List.{take_more}
use Rattle.qw_csv.proofs.MachineLemmas.{scans_none, scans_one}
use Rattle.qw_csv.proofs.place.scan_each.Goals as goal

pub loop-index-init : goal.loop-index-init
loop-index-init c = scans_none c.args.place c.args.text.now

pub loop-index-preserved : goal.loop-index-preserved
loop-index-preserved c =
    let text = c.args.text.now in
    let i = c.loop-index.index in
    scans_one c.args.place text c.loop-index.scanned c.scanned_one-scanned.result i (get_or text i 0) (take_more text i 0 c.loop-index-test.true) c.loop-index.invariant
    c.scanned_one-scanned.ensures.place c.scanned_one-scanned.ensures.whole

pub returns-clause-place : goal.returns-clause-place
returns-clause-place c = rw (take_all c.loop-index.index c.args.text.now c.loop-index-test.false) at c.loop-index.invariant.place_is
