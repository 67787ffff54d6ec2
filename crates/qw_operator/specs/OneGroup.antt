-- What is emitted where all rows of a pipeline are one group, as without GROUP BY (ISO/IEC 9075:1992, 7.8 and 7.9): the values of the arguments of the set
-- functions are evaluated, and the areas take them, to which the local of the pipeline's table leads. No value is of a grouped column.
use Rattle.std.specs.Prelude.{◌≡◌, ℕ, ◌+◌, List, ◌++◌, length}
use Rattle.qw_module.specs.declared.instruction.ValType.{ValType}
use Rattle.qw_low.specs.Syntax.{Statement, seq}
use Rattle.qw_feed.specs.Stages.{Item, items_block, outs_of}
use Rattle.qw_expr.specs.Computes.{Known}
use Rattle.qw_table.specs.Joins.{sources_of}
use Rattle.qw_table.specs.declared.key.Field.{Field}
use Rattle.qw_group.specs.Areas.{area_types}
use Rattle.qw_group.specs.Groups.{UpdatesAreas}
use Rattle.qw_operator.specs.Carries.{all_moved, directory}
use Rattle.qw_operator.specs.Emitted.{AreComputed}
use Rattle.qw_operator.specs.Grouping.{Group, over_fields}

pub record IsOneGroup (fields : List Field) (known : List Known) (next : ℕ) (g : Group) (a : Statement) (own : List ValType) : Type 0 where
  pub items : List Item
  pub items_own : List ValType
  pub enter : Statement
  pub is : a ≡ seq (items_block items) enter
  pub own_is : own ≡ items_own ++ area_types
  pub computed : AreComputed known next g.values items items_own
  pub fields_are : outs_of (all_moved items) ≡ sources_of fields
  pub updates : UpdatesAreas (directory g.table) 0 (next + length items_own) (over_fields g.functions fields) enter
