use Rattle.std.proofs.Common.{◌-◌, length, take}
use Rattle.qw_octet_grammar.specs.Vectors.{counted, one_more, vector}
use Rattle.qw_octet_grammar.specs.Inner.Awaiting.{Awaits}
use Rattle.qw_binary.specs.Types.{limits}
use Rattle.qw_binary.proofs.write.types.put_memories.Given as goal

abbrev pub invariant-loop-limits : goal.invariant-loop-limits
invariant-loop-limits l = Awaits (vector limits) (counted (length l.memories - l.limits-index) (one_more limits) (take l.limits-index l.memories)) l.fn.out.items l.out.items
