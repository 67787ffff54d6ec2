use Rattle.std.proofs.Common.{arith}
use Rattle.qw_octet_grammar.proofs.WriteLaws.{vector_begin, vector_end, vector_next}
use Rattle.qw_binary.specs.Types.{limits}
use Rattle.qw_binary.proofs.write.types.put_memories.Goals as goal

pub loop-limits-init : goal.loop-limits-init
loop-limits-init c = vector_begin limits c.args.memories.now c.args.out.now.items c.put_size.new.out.items c.in_ok-put_size.ensures

pub loop-limits-preserved : goal.loop-limits-preserved
loop-limits-preserved c = vector_next limits c.args.memories.now c.loop-limits.limits-index _ c.args.out.now.items c.loop-limits.out.items c.put_limits.new.out.items c.loop-limits-test.true c.loop-limits.invariant c.in_ok-put_limits.ensures

pub returns : goal.returns
returns c = vector_end limits c.args.memories.now c.loop-limits.limits-index c.args.out.now.items c.loop-limits.out.items (omega (arith, c.loop-limits-test.false)) c.loop-limits.invariant
