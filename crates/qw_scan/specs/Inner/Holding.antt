-- Mirrors `Stack`: the operands that are known of the innermost sequence, over those of the sequences round it.
use Rattle.std.specs.Prelude.{List, Option}
use Rattle.qw_module.specs.declared.instruction.ValType.{ValType}
use Rattle.qw_valid.specs.Inner.Checking.{Known}

-- those below stand in the order in which they were put
pub record Held : Type 0 where
  pub known : Known
  pub below : List (Option ValType)
