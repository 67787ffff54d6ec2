use Rattle.std.proofs.lemmas.List.{take_rest}
use Rattle.qw_top.proofs.OutputLemmas.{Wrote-more}
use Rattle.qw_top.proofs.output.write_whole.Goals as goal

pub loop-written-preserved : goal.loop-written-preserved
loop-written-preserved g c =
    Wrote-more c.args.text.now c.loop-written.written c.in_ok-count.count _ _ _ _ _ _ _ c.loop-written.invariant (take_rest c.args.text.now c.loop-written.written) c.in_ok-count.ensures.within c.in_ok-count.ensures.appended c.in_ok-count.ensures.ok_is_not
