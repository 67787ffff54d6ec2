-- What is emitted where the rows of a pipeline go into a table of groups that takes no more of them than a local counts down from: their values are all
-- evaluated, and what puts a row into its group is guarded.
use Rattle.std.specs.Prelude.{◌≡◌, ℕ, Option, Some, None, List}
use Rattle.qw_module.specs.declared.instruction.ValType.{ValType}
use Rattle.qw_low.specs.Syntax.{Statement, seq}
use Rattle.qw_feed.specs.Stages.{items_block}
use Rattle.qw_limit.specs.Counting.{guarded_block}
use Rattle.qw_expr.specs.Computes.{Known}
use Rattle.qw_table.specs.declared.key.Field.{Field}
use Rattle.qw_operator.specs.Grouping.{Group, IsGrouped}
use Rattle.qw_operator.specs.OneGroup.{IsOneGroup}
use Rattle.qw_operator.specs.declared.group.Place.{Place}
use Rattle.qw_operator.specs.declared.group.Place.TheVariants as places

-- a block, guarded where there is a local for it
abbrev pub guarded_by : Option ℕ → Statement → Statement
guarded_by None a = a
guarded_by (Some z) a = guarded_block z a

-- as where nothing is counted, but for the guard
pub record IsGroupedWithin (guard : Option ℕ) (fields : List Field) (known : List Known) (next : ℕ) (g : Group) (a : Statement) (own : List ValType) : Type 0 where
  pub plain : Statement
  pub grouped : IsGrouped fields known next g plain own
  pub is : a ≡ seq (items_block grouped.items) (guarded_by guard grouped.enter)

-- as where nothing is counted and all rows are one group, but for the guard
pub record IsOneGroupWithin (guard : Option ℕ) (fields : List Field) (known : List Known) (next : ℕ) (g : Group) (a : Statement) (own : List ValType) : Type 0 where
  pub plain : Statement
  pub grouped : IsOneGroup fields known next g plain own
  pub is : a ≡ seq (items_block grouped.items) (guarded_by guard grouped.enter)

-- one of the two
abbrev pub IsPut : Place → (guard : Option ℕ) → (fields : List Field) → (known : List Known) → (next : ℕ) → Group → Statement → List ValType → Type 0
IsPut places.Table guard fields known next g a own = IsGroupedWithin guard fields known next g a own
IsPut places.OneGroup guard fields known next g a own = IsOneGroupWithin guard fields known next g a own
