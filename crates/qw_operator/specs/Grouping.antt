-- What is emitted where the rows of a pipeline go into a table of groups (ISO/IEC 9075:1992, 7.7): the values of the grouped columns and of the
-- arguments of the set functions are evaluated, and the row is put into the group of its first values.
use Rattle.std.specs.Prelude.{◌≡◌, ℕ, IsTrue, ◌+◌, ◌*◌, ◌≤◌, Option, List, [], ◌∷◌, ◌++◌, drop, length, map, sum_by, take}
use Rattle.qw_types.specs.declared.kind.Kind.{Kind}
use Rattle.qw_types.specs.declared.value.Val.{Val}
use Rattle.qw_module.specs.declared.instruction.ValType.{ValType}
use Rattle.qw_scalar.specs.Expression.{Expression}
use Rattle.qw_scalar.specs.Nodes.{nodes}
use Rattle.qw_scalar.specs.Tree.{expression_of}
use Rattle.qw_scalar.specs.Typing.{is_number, kind_of}
use Rattle.qw_grouped.specs.declared.set_function.SetFunctionKind.{SetFunctionKind}
use Rattle.qw_grouped.specs.declared.set_function.SetFunctionKind.TheVariants.{CountRows, Count, Sum, Avg, Min, Max}
use Rattle.qw_low.specs.Syntax.{Statement, seq}
use Rattle.qw_feed.specs.Stages.{Item, items_block, outs_of}
use Rattle.qw_expr.specs.Computes.{Known}
use Rattle.qw_table.specs.Joins.{sources_of}
use Rattle.qw_table.specs.Keys.{text_octets}
use Rattle.qw_table.specs.declared.key.Field.{Field}
use Rattle.qw_group.specs.Groups.{Groups, group_types}
use Rattle.qw_group.specs.declared.group.Aggregate.{Aggregate}
use Rattle.qw_operator.specs.Carries.{all_moved, directory}
use Rattle.qw_operator.specs.Emitted.{AreComputed}
use Rattle.qw_operator.specs.declared.group.Group as coded

-- a table of groups, by the number of the pipeline that fills it; how many grouped columns there are, the set functions, and the values of the
-- columns and of the functions' arguments
pub record Group : Type 0 where
  pub table : ℕ
  pub columns : ℕ
  pub functions : List SetFunctionKind
  pub values : List Expression

-- apart from trees of the code
abbrev pub group_of : coded.Group → Group
group_of g = record { table = g.table; columns = g.columns; functions = g.functions.items; values = map expression_of g.values.items }

-- ---- where the values of a row are
-- set functions over arguments in their order
abbrev pub over_fields : List SetFunctionKind → List Field → List Aggregate
over_fields [] fields = []
over_fields (f ∷ functions) [] = []
over_fields (f ∷ functions) (x ∷ fields) = record { function = f; argument = x } ∷ over_fields functions fields

abbrev pub key_fields : Group → List Field → List Field
key_fields g fields = take g.columns fields

abbrev pub aggregates_of : Group → List Field → List Aggregate
aggregates_of g fields = over_fields g.functions (drop g.columns fields)

-- ---- what is emitted
-- A row's values are evaluated, which are then in these fields; and it is put into its group.
pub record IsGrouped (fields : List Field) (known : List Known) (next : ℕ) (g : Group) (a : Statement) (own : List ValType) : Type 0 where
  pub items : List Item
  pub items_own : List ValType
  pub enter : Statement
  pub is : a ≡ seq (items_block items) enter
  pub own_is : own ≡ items_own ++ group_types
  pub computed : AreComputed known next g.values items items_own
  pub fields_are : outs_of (all_moved items) ≡ sources_of fields
  pub groups : Groups (directory g.table) (key_fields g fields) (aggregates_of g fields) (next + length items_own) enter

-- ---- which tables of groups can be
-- SUM and AVG are of numbers alone (6.5)
abbrev pub TakesKind : SetFunctionKind → Option Kind → Type 0
TakesKind CountRows k = Unit {0}
TakesKind Count k = Unit {0}
TakesKind Sum k = IsTrue (is_number k)
TakesKind Avg k = IsTrue (is_number k)
TakesKind Min k = Unit {0}
TakesKind Max k = Unit {0}

abbrev pub TakeKinds : List SetFunctionKind → List (Option Kind) → Type 0
TakeKinds [] [] = Unit {0}
TakeKinds (f ∷ functions) (k ∷ kinds) = TakesKind f k × TakeKinds functions kinds
TakeKinds _ _ = ⊥

-- an argument for each set function, which it takes, and at most 512 values
pub record CanGroup (g : Group) : Type 0 where
  pub many : length g.values ≡ g.columns + length g.functions
  pub few : length g.values ≤ 512
  pub arguments : TakeKinds g.functions (drop g.columns (map kind_of g.values))

-- ---- what a row takes, by its values
-- the octets of its key are folded; each entry of its slot, of which there are so many, takes one and those octets; and MIN and MAX compare so many
abbrev pub turn_of : Group → (entries chosen : List Val → ℕ) → List Val → ℕ
turn_of g entries chosen values = text_octets (take g.columns values) + entries values * (1 + text_octets (take g.columns values)) + chosen values

-- ---- how long it is
-- the most steps and locals of the block
abbrev pub group_span : coded.Group → ℕ
group_span g = 400 * sum_by nodes g.values.items + 376 * length g.values.items + 200
