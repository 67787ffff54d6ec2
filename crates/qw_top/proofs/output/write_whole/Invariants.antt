use Rattle.std.proofs.Common.{length, ◌-◌}
use Rattle.qw_top.proofs.OutputLemmas.{Wrote}
use Rattle.qw_top.proofs.output.write_whole.Given as goal

abbrev pub invariant-loop-written : goal.invariant-loop-written
invariant-loop-written g l =
    Wrote l.text l.written (g.O.Sink.taken l.initial.out) (g.O.Sink.taken l.out) (g.O.Sink.faults l.initial.out) (g.O.Sink.faults l.out)

abbrev pub decreases-loop-written : goal.decreases-loop-written
decreases-loop-written g l = length l.text - l.written
