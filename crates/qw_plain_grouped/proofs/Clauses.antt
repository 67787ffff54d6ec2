-- HAVING and the select list can be evaluated at the rows of the grouped table.
use Rattle.std.proofs.Common.{◌≡◌, ◌<◌, ◌^◌, Bool, true, false, List, [], map, length, Result, Ok, Err, refl}
use Rattle.std.specs.List.{AllByRecursion, AllZip}
use Rattle.qw_types.specs.Kind.{IsRowOf, type_kind}
use Rattle.qw_types.specs.declared.code.Code.{Code}
use Rattle.qw_types.specs.declared.value.Val.{Val}
use Rattle.qw_scalar.specs.Columns.{HoldsIn}
use Rattle.qw_scalar.specs.Conjuncts.{passes}
use Rattle.qw_scalar.specs.Evaluation.{at_row}
use Rattle.qw_scalar.specs.Expression.{Condition}
use Rattle.qw_scalar.specs.Typing.{IsValueOf, kind_of}
use Rattle.qw_scalar.proofs.ColumnLemmas.{columns_more, conditions_more}
use Rattle.qw_meaning.specs.Flow.{Flow, each, kept, rows_given}
use Rattle.qw_meaning.specs.Select.{IsConditionOver, IsItemOver}
use Rattle.qw_meaning.proofs.SelectLemmas.{row_holds}
use Rattle.qw_grouped.specs.Grouped.{Grouped, IsGroupColumn, IsGrouped, front, kinds_of, types_of_group}
use Rattle.qw_grouped.specs.Groups.{grouped_table}
use Rattle.qw_grouped.proofs.TypedGroups.{table_typed}
use Rattle.qw_meaning.proofs.ListLemmas.{all_flat_map, all_more}
use Rattle.qw_plain_grouped.specs.Inner.Evaluable.{AreEvaluable, AreTestable}

kept_given : (P : List Val → Type 0) (conjuncts : List Condition) (row : List Val) (r : Result Bool Code) → passes conjuncts (at_row row) ≡ r → P row → AllByRecursion P (rows_given (kept conjuncts row))
kept_given P conjuncts row (Ok true) e h = rw e (h, tt)
kept_given P conjuncts row (Ok false) e h = rw e tt
kept_given P conjuncts row (Err code) e h = rw e tt

kept_holds : (P : List Val → Type 0) (conjuncts : List Condition) (flow : Flow (List Val)) → AllByRecursion P flow.rows → AllByRecursion P (each (kept conjuncts) flow).rows
kept_holds P conjuncts flow h = all_flat_map P P (λ row. rows_given (kept conjuncts row)) flow.rows (λ row held. kept_given P conjuncts row (passes conjuncts (at_row row)) refl held) h

module _ (query : Grouped) (typed : IsGrouped query) where
  abbrev IsTableRow : List Val → Type 0
  IsTableRow row = IsRowOf (map type_kind (types_of_group query)) row

  testable : (row : List Val) → IsTableRow row → AreTestable query.having row
  testable row r = all_more (IsConditionOver (IsGroupColumn query)) (IsConditionOver (HoldsIn row)) query.having
      (λ c t. (t.0, conditions_more (IsGroupColumn query) (HoldsIn row) (λ i ty col. row_holds (types_of_group query) row r i ty col) c t.1)) typed.having

  evaluable : (row : List Val) → IsTableRow row → AreEvaluable query.items row
  evaluable row r = all_more (IsItemOver (IsGroupColumn query)) (λ e. _ × _) query.items
      (λ e t. (t.0.0, columns_more (IsGroupColumn query) (HoldsIn row) (λ i ty col. row_holds (types_of_group query) row r i ty col) e t.1)) typed.items

  abbrev pub table : List (List Val) → Flow (List Val)
  table rows = grouped_table (length query.columns) (kinds_of query.functions) (record { rows = rows; codes = [] })

  pub having_can : (rows : List (List Val)) → AllByRecursion (AllZip IsValueOf (map kind_of (front query).items)) rows → length rows < 10 ^ 18 → AllByRecursion (AreTestable query.having) (table rows).rows
  having_can rows h few = all_more IsTableRow (AreTestable query.having) (table rows).rows testable (table_typed query typed rows h few)

  pub items_can : (rows : List (List Val)) → AllByRecursion (AllZip IsValueOf (map kind_of (front query).items)) rows → length rows < 10 ^ 18 → AllByRecursion (AreEvaluable query.items) (each (kept query.having) (table rows)).rows
  items_can rows h few = all_more IsTableRow (AreEvaluable query.items) (each (kept query.having) (table rows)).rows evaluable
      (kept_holds IsTableRow query.having (table rows) (table_typed query typed rows h few))
