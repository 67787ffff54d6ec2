use Rattle.std.proofs.Common.{arith}
use Rattle.qw_octet_grammar.proofs.WriteLaws.{vector_begin, vector_end, vector_next}
use Rattle.qw_binary.specs.Sections.{locals_run}
use Rattle.qw_binary.proofs.write.functions.put_runs.Goals as goal

pub loop-run-init : goal.loop-run-init
loop-run-init c = vector_begin locals_run c.args.runs.now c.args.out.now.items c.put_size.new.out.items c.in_ok-put_size.ensures

pub loop-run-preserved : goal.loop-run-preserved
loop-run-preserved c = vector_next locals_run c.args.runs.now c.loop-run.run-index _ c.args.out.now.items c.loop-run.out.items c.put_locals_run.new.out.items c.loop-run-test.true c.loop-run.invariant c.in_ok-put_locals_run.ensures

pub returns : goal.returns
returns c = vector_end locals_run c.args.runs.now c.loop-run.run-index c.args.out.now.items c.loop-run.out.items (omega (arith, c.loop-run-test.false)) c.loop-run.invariant
