-- A statement's module, where the statement has at most 2^21 steps, with the statement's layout.
use Rattle.std.specs.Prelude.{◌≡◌, ◌≤◌, ◌^◌, ◌∷◌, length}
use Rattle.qw_linear.specs.Memory.{page}
use Rattle.qw_module.specs.declared.instruction.ValType.TheVariants.{I32}
use Rattle.qw_map.specs.Layout.{descriptor_size}
use Rattle.qw_low.specs.Size.{size}
use Rattle.qw_low.specs.Steps.{steps_of}
use Rattle.qw_low.specs.Syntax.{Statement}
use Rattle.qw_low.specs.Typing.{IsTyped}
use Rattle.qw_emit.specs.RunsOf.{IsMadeOf}
use Rattle.qw_compile.specs.declared.compile.Compiled.{Compiled}
use Rattle.qw_compile.specs.declared.query_statement.QueryStatement.{QueryStatement}

-- The module is made of whatever statement of Low the steps are those of.
pub record IsFinishedOf (made : QueryStatement) (compiled : Compiled) : Type 0 where
  pub layout_is : compiled.layout ≡ made.layout
  pub small : descriptor_size made.layout ≤ page
  pub few_steps : length made.block.code.items ≤ 2097152
  pub is : (s : Statement) → made.block.code.items ≡ steps_of s → IsTyped (I32 ∷ made.locals.items) s → size s ≤ 2 ^ 22 → IsMadeOf compiled.module s (length made.locals.items)
