-- A scan of a table's rows: a local has four times the number of rows that are left, and counts down to 0.
use Rattle.std.specs.Prelude.{ℕ}
use Rattle.qw_module.specs.declared.instruction.ValType.TheVariants.{I32}
use Rattle.qw_module.specs.declared.instruction.Binary.TheVariants.{Sub}
use Rattle.qw_low.specs.Syntax.{Statement, local, binop, seq, assign, while}
use Rattle.qw_feed.specs.Room.{i32}

abbrev pub next_block : (left : ℕ) → Statement
next_block left = assign left (binop I32 Sub (local left) (i32 4))

-- a block at each row
abbrev pub rows_block : (left : ℕ) → (row : Statement) → Statement
rows_block left row = while (local left) (seq row (next_block left))
