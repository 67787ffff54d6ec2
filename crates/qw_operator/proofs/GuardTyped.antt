-- The block of a row that goes into groups as long as a local counts is typed.
use Rattle.std.proofs.Common.{◌≡◌, ℕ, Option, Some, None, List, slice_get, refl, sym, subst, arith}
use Rattle.qw_module.specs.declared.instruction.ValType.{ValType}
use Rattle.qw_module.specs.declared.instruction.ValType.TheVariants.{I32, I64}
use Rattle.qw_low.specs.Syntax.{Statement}
use Rattle.qw_low.specs.Typing.{IsTyped}
use Rattle.qw_expr.specs.Computes.{Known, AreDeclared}
use Rattle.qw_table.specs.declared.key.Field.{Field}
use Rattle.qw_operator.specs.Carries.{directory}
use Rattle.qw_operator.proofs.Promised.{AreOwn}
use Rattle.qw_operator.specs.Grouping.{CanGroup, Group}
use Rattle.qw_operator.specs.Puts.{IsGroupedWithin, IsOneGroupWithin, guarded_by}
use Rattle.qw_operator.proofs.GroupTyped.{grouped_typed}
use Rattle.qw_operator.proofs.OneTyped.{one_typed}

-- a guard's local is an i64
abbrev pub DeclaresGuard : List ValType → Option ℕ → Type 0
DeclaresGuard types None = Unit {0}
DeclaresGuard types (Some z) = slice_get types z ≡ Some I64

module _ (types : List ValType) where
  guarded_typed : (guard : Option ℕ) (a : Statement) → DeclaresGuard types guard → IsTyped types a → IsTyped types (guarded_by guard a)
  guarded_typed None a declared typed = typed
  guarded_typed (Some z) a declared typed = ((declared, refl), tt, (typed, (I64, declared, (declared, (omega arith, refl), refl))))

  pub one_within_typed : (guard : Option ℕ) (fields : List Field) (known : List Known) (next : ℕ) (g : Group) (a : Statement) (own : List ValType) → DeclaresGuard types guard → CanGroup g → g.columns ≡ 0 → slice_get types (directory g.table) ≡ Some I32 → AreDeclared types known → AreOwn types next own →
      IsOneGroupWithin guard fields known next g a own → IsTyped types a
  one_within_typed guard fields known next g a own guard_is can none directory_is declared own_types h =
      let parts = subst (IsTyped types) h.grouped.is (one_typed types fields known next g h.plain own can none directory_is declared own_types h.grouped) in
      subst (IsTyped types) (sym h.is) (parts.0, guarded_typed guard h.grouped.enter guard_is parts.1)

  module _ (free_is : slice_get types 1 ≡ Some I32) (left_is : slice_get types 2 ≡ Some I32) where
    pub grouped_within_typed : (guard : Option ℕ) (fields : List Field) (known : List Known) (next : ℕ) (g : Group) (a : Statement) (own : List ValType) → DeclaresGuard types guard → CanGroup g → slice_get types (directory g.table) ≡ Some I32 → AreDeclared types known → AreOwn types next own →
        IsGroupedWithin guard fields known next g a own → IsTyped types a
    grouped_within_typed guard fields known next g a own guard_is can directory_is declared own_types h =
        let parts = subst (IsTyped types) h.grouped.is (grouped_typed types free_is left_is fields known next g h.plain own can directory_is declared own_types h.grouped) in
        subst (IsTyped types) (sym h.is) (parts.0, guarded_typed guard h.grouped.enter guard_is parts.1)
