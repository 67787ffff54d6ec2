-- The last one of some pipelines, whose rows go into groups, taken apart.
use Rattle.std.specs.Prelude.{◌≡◌, ℕ, ◌+◌, List, [], ◌∷◌, ◌++◌, length, map}
use Rattle.qw_physical.specs.declared.pipeline.Pipeline.{Pipeline}
use Rattle.qw_physical.specs.declared.pipeline.Sink.TheVariants as sinks
use Rattle.qw_group_pipeline.specs.declared.columns.ValueColumn.{ValueColumn}
use Rattle.qw_compile_whole.specs.GuardedStatements.{guard_for}
use Rattle.qw_compile_whole.specs.declared.gathering.LastGroup.{LastGroup}

pub record IsLastGroup (all : List Pipeline) (columns : ℕ) (values : List ValueColumn) (made : LastGroup) : Type 0 where
  pub last : Pipeline
  pub all_are : all ≡ made.builders.items ++ last ∷ []
  pub many : length all ≡ length made.builders.items + 1
  pub entry_is : made.entry ≡ last.entry
  pub operators_are : made.operators.items ≡ last.operators.items
  pub selects : last.sink ≡ sinks.Select made.group.values
  pub table_is : made.group.table ≡ length made.builders.items
  pub columns_are : made.group.columns ≡ columns
  pub functions_are : made.group.functions.items ≡ map (λ (v : ValueColumn). v.function) values
  -- rows are counted where there are three pipelines or more, and set functions
  pub guard_is : made.guard ≡ guard_for (length all) (length values)
