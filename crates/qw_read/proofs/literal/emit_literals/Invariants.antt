use Rattle.std.proofs.Common.{◌≡◌, ◌++◌, drop, take}
use Rattle.std.specs.List.{AllByRecursion}
use Rattle.qw_low.specs.Steps.{steps_of}
use Rattle.qw_read.specs.Inner.TextBlocks.{literals_block}
use Rattle.qw_read.proofs.LiteralRuns.{IsNarrow}
use Rattle.qw_read.proofs.literal.emit_literals.Given as goal

abbrev pub invariant-loop-literal : goal.invariant-loop-literal
invariant-loop-literal l =
    (l.block.code.items ++ steps_of (literals_block (drop l.literal-index l.literals)) ≡ l.initial.block.code.items ++ steps_of (literals_block l.literals))
    × AllByRecursion IsNarrow (take l.literal-index l.literals)
