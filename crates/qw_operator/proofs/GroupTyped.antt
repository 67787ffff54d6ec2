-- The block of a row that goes into groups is typed.
use Rattle.std.proofs.Common.{◌≡◌, ℕ, ◌+◌, Option, Some, List, drop, length, map, take, slice_get, sym, ap, ◌∙◌, subst, arith}
use Rattle.std.specs.List.{AllByRecursion}
use Rattle.qw_types.specs.declared.kind.Kind.{Kind}
use Rattle.qw_module.specs.declared.instruction.ValType.{ValType}
use Rattle.qw_module.specs.declared.instruction.ValType.TheVariants.{I32}
use Rattle.qw_scalar.specs.Typing.{kind_of}
use Rattle.qw_low.specs.Syntax.{Statement}
use Rattle.qw_low.specs.Typing.{IsTyped}
use Rattle.qw_expr.specs.Computes.{Known, AreDeclared}
use Rattle.qw_feed.specs.Cells.{Source, kinds_of}
use Rattle.qw_table.specs.Joins.{sources_of}
use Rattle.qw_table.specs.Keys as keys
use Rattle.qw_table.specs.declared.key.Field.{Field}
use Rattle.qw_group.specs.Groups.{group_types}
use Rattle.qw_group.proofs.GroupClauses.{groups_typed}
use Rattle.qw_operator.specs.Carries.{directory}
use Rattle.qw_operator.proofs.CarriedFeeds.{items_many, moved_many, sources_many}
use Rattle.qw_operator.proofs.CarriedTyped.{IsSourceDeclared, fields_declared, items_typed, outs_declared, taken_declared}
use Rattle.qw_operator.proofs.Promised.{AreOwn, first_own_types, items_kinds, kinds_moved, rest_own_types}
use Rattle.qw_operator.specs.Grouping.{CanGroup, Group, IsGrouped, TakeKinds, over_fields}
use Rattle.qw_operator.proofs.FieldParts.{all_dropped, arguments_declared, kinds_dropped, over_few, take_few}

-- ---- the fields that a row's values are in
pub kinds_of_fields : (fields : List Field) (known : List Known) (next : ℕ) (g : Group) (a : Statement) (own : List ValType) → IsGrouped fields known next g a own → kinds_of (sources_of fields) ≡ map kind_of g.values
kinds_of_fields fields known next g a own is = ap kinds_of (sym is.fields_are) ∙ (kinds_moved is.items ∙ items_kinds known next g.values is.items is.items_own is.computed)

pub fields_many : (fields : List Field) (known : List Known) (next : ℕ) (g : Group) (a : Statement) (own : List ValType) → IsGrouped fields known next g a own → length fields ≡ length g.values
fields_many fields known next g a own is =
    sym (sources_many fields) ∙ (ap (λ (os : List Source). length os) (sym is.fields_are) ∙ (moved_many is.items ∙ items_many known next g.values is.items is.items_own is.computed))

module _ (types : List ValType) (free_is : slice_get types 1 ≡ Some I32) (left_is : slice_get types 2 ≡ Some I32) where
  -- ---- what puts a row into its group
  pub grouped_typed : (fields : List Field) (known : List Known) (next : ℕ) (g : Group) (a : Statement) (own : List ValType) → CanGroup g → slice_get types (directory g.table) ≡ Some I32 → AreDeclared types known → AreOwn types next own → IsGrouped fields known next g a own → IsTyped types a
  grouped_typed fields known next g a own can directory_is declared own_types is =
      let item_types : AreOwn types next is.items_own = first_own_types types next own is.items_own group_types is.own_is own_types in
      let fields_are : keys.AreDeclared types fields = fields_declared types fields (subst (AllByRecursion (IsSourceDeclared types)) is.fields_are (outs_declared types known next g.values is.items is.items_own declared item_types is.computed)) in
      let arguments : List Field = drop g.columns fields in
      let kinds : TakeKinds g.functions (kinds_of (sources_of arguments)) =
      subst (TakeKinds g.functions) (sym (kinds_dropped g.columns fields ∙ ap (λ (ks : List (Option Kind)). drop g.columns ks) (kinds_of_fields fields known next g a own is))) can.arguments in
      let many = can.many in
      let can_few = can.few in
      let key_few = take_few g.columns fields in
      let functions_few = over_few g.functions arguments in
      subst (IsTyped types) (sym is.is) (
        items_typed types known next g.values is.items is.items_own declared item_types is.computed,
        groups_typed (directory g.table) (take g.columns fields) (over_fields g.functions arguments) (next + length is.items_own) is.enter is.groups (omega (arith, key_few, can_few, many), omega (arith, functions_few, can_few, many)) types (taken_declared types g.columns fields fields_are) (arguments_declared types g.functions arguments (all_dropped (λ (f : Field). keys.DeclaresField types f) g.columns fields fields_are) kinds) free_is left_is directory_is
            (rest_own_types types next own is.items_own group_types is.own_is own_types),
      )
