-- Mirrors `open_group` of `src/groups.rt`: in an emitter of its own the columns of a row of the grouped table are read.
use Rattle.std.specs.Prelude.{◌≡◌, ℕ, ◌+◌, ◌*◌, List, ◌++◌, length}
use Rattle.qw_layout.specs.Row.{cell_offset}
use Rattle.qw_low.specs.Steps.{steps_of}
use Rattle.qw_low.specs.Syntax.{Statement}
use Rattle.qw_expr.specs.Computes.{Known}
use Rattle.qw_expr.specs.declared.emitter.Emitter.{Emitter}
use Rattle.qw_physical.specs.declared.pipeline.ReadColumn.{ReadColumn}
use Rattle.qw_operator.specs.Carries.{ReadsEntry, entry_types}
use Rattle.qw_group_pipeline.specs.Groups.{ReadsValues, known_group, values_types}
use Rattle.qw_group_pipeline.specs.declared.columns.ValueColumn.{ValueColumn}

pub record IsMet (literals : List Known) (first : ℕ) (key : List ReadColumn) (values : List ValueColumn) (inner : Emitter) (known : List Known) : Type 0 where
  pub entry : ℕ
  pub entry_is : first ≡ entry + 1
  pub first_is : inner.first ≡ first
  pub key_reads : Statement
  pub value_reads : Statement
  pub code_is : inner.block.code.items ≡ steps_of key_reads ++ steps_of value_reads
  pub own_is : inner.own.items ≡ entry_types key ++ values_types values
  pub key_reading : ReadsEntry (cell_offset 0) entry first key key_reads
  pub value_reading : ReadsValues (cell_offset (length key)) entry (first + 3 * length key) values value_reads
  pub known_is : known ≡ known_group first key values ++ literals
