use Rattle.std.proofs.Common.{ℕ, ◌<◌, All, get_or, length}
use Rattle.std.specs.Global.{Vec}
use Rattle.qw_module.specs.declared.instruction.Instr.{Instr}
use Rattle.qw_module.specs.Syntax.{NamesBelow}
use Rattle.qw_valid.proofs.valid.is_numbered.Given as goal

abbrev pub invariant-loop-number : goal.invariant-loop-number
invariant-loop-number l = (k : ℕ) (d : Vec Instr) → k < l.number → All (NamesBelow (length l.labels) k) (get_or l.sequences k d).items
