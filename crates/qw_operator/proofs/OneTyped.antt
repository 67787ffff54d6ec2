-- The block of a row is typed that goes into the one group of all rows.
use Rattle.std.proofs.Common.{◌≡◌, ℕ, ◌+◌, List, drop, length, map, Some, slice_get, sym, ap, ◌∙◌, subst}
use Rattle.std.specs.List.{AllByRecursion}
use Rattle.qw_module.specs.declared.instruction.ValType.{ValType}
use Rattle.qw_module.specs.declared.instruction.ValType.TheVariants.{I32}
use Rattle.qw_scalar.specs.Typing.{kind_of}
use Rattle.qw_low.specs.Syntax.{Statement}
use Rattle.qw_low.specs.Typing.{IsTyped}
use Rattle.qw_expr.specs.Computes.{Known, AreDeclared}
use Rattle.qw_feed.specs.Cells.{kinds_of}
use Rattle.qw_table.specs.Joins.{sources_of}
use Rattle.qw_table.specs.Keys as keys
use Rattle.qw_table.specs.declared.key.Field.{Field}
use Rattle.qw_group.specs.Areas.{area_types}
use Rattle.qw_group.proofs.GroupClauses.{updates_typed}
use Rattle.qw_operator.specs.Carries.{directory}
use Rattle.qw_operator.proofs.CarriedTyped.{IsSourceDeclared, fields_declared, items_typed, outs_declared}
use Rattle.qw_operator.proofs.Promised.{AreOwn, first_own_types, items_kinds, kinds_moved, rest_own_types}
use Rattle.qw_operator.specs.Grouping.{CanGroup, Group, TakeKinds, over_fields}
use Rattle.qw_operator.specs.OneGroup.{IsOneGroup}
use Rattle.qw_operator.proofs.FieldParts.{arguments_declared}

-- The local of the table, which leads to the areas, is declared, and no value is of a grouped column.
pub one_typed : (types : List ValType) (fields : List Field) (known : List Known) (next : ℕ) (g : Group) (a : Statement) (own : List ValType) → CanGroup g → g.columns ≡ 0 → slice_get types (directory g.table) ≡ Some I32 → AreDeclared types known → AreOwn types next own → IsOneGroup fields known next g a own → IsTyped types a
one_typed types fields known next g a own can none directory_is declared own_types is =
    let item_types : AreOwn types next is.items_own = first_own_types types next own is.items_own area_types is.own_is own_types in
    let fields_are : keys.AreDeclared types fields = fields_declared types fields (subst (AllByRecursion (IsSourceDeclared types)) is.fields_are (outs_declared types known next g.values is.items is.items_own declared item_types is.computed)) in
    let there : kinds_of (sources_of fields) ≡ map kind_of g.values = ap kinds_of (sym is.fields_are) ∙ (kinds_moved is.items ∙ items_kinds known next g.values is.items is.items_own is.computed) in
    let kinds : TakeKinds g.functions (kinds_of (sources_of fields)) = subst (TakeKinds g.functions) (sym there) (subst (λ (n : ℕ). TakeKinds g.functions (drop n (map kind_of g.values))) none can.arguments) in
    subst (IsTyped types) (sym is.is) (
      items_typed types known next g.values is.items is.items_own declared item_types is.computed,
      updates_typed types (directory g.table) 0 (next + length is.items_own) (over_fields g.functions fields) is.enter directory_is (rest_own_types types next own is.items_own area_types is.own_is own_types)
          (arguments_declared types g.functions fields fields_are kinds) is.updates,
    )
