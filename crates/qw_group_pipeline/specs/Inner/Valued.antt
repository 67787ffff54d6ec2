-- Mirrors `read_values` of `src/value.rt`: from one state of an emitter to another the reads of the values of set functions were added, with the types of
-- their locals.
use Rattle.std.specs.Prelude.{◌≡◌, ℕ, List, ◌++◌}
use Rattle.qw_low.specs.Steps.{steps_of}
use Rattle.qw_low.specs.Syntax.{Statement}
use Rattle.qw_expr.specs.Computes.{Known}
use Rattle.qw_expr.specs.Emits.{free_of}
use Rattle.qw_expr.specs.declared.emitter.Emitter.{Emitter}
use Rattle.qw_group_pipeline.specs.Groups.{ReadsValues, known_values, values_types}
use Rattle.qw_group_pipeline.specs.declared.columns.ValueColumn.{ValueColumn}

pub record ReadsValued (at entry : ℕ) (values : List ValueColumn) (old new : Emitter) (known : List Known) : Type 0 where
  pub first_is : new.first ≡ old.first
  pub reads : Statement
  pub code_is : new.block.code.items ≡ old.block.code.items ++ steps_of reads
  pub own_is : new.own.items ≡ old.own.items ++ values_types values
  pub reading : ReadsValues at entry (free_of old) values reads
  pub known_is : known ≡ known_values (free_of old) values
