use Rattle.std.proofs.Common.{◌≡◌, drop, take}
use Rattle.std.specs.List.{AllByRecursion}
use Rattle.qw_low.specs.Steps.{FitsStep}
use Rattle.qw_low.specs.Inner.Tees.{pushed}
use Rattle.qw_low.specs.Inner.Writing.{all_written, writing_of, start}
use Rattle.qw_low.proofs.body.body_of.Given as goal

abbrev pub invariant-loop-step : goal.invariant-loop-step
invariant-loop-step l = record {
  written : all_written pushed (drop l.step-index l.code) (writing_of l.writer) ≡ all_written pushed l.code start;
  fits : AllByRecursion FitsStep (take l.step-index l.code);
}
