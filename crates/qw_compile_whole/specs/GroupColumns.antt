-- The columns of the grouped table (ISO/IEC 9075:1992, 7.7), as the entries of a table of groups have them: those of GROUP BY, and behind them the values of
-- the set functions. And what is done at its rows: HAVING and the select list (7.8, 7.9).
use Rattle.std.specs.Prelude.{◌≡◌, ℕ, ◌+◌, false, Option, Some, None, List, [], ◌∷◌, length}
use Rattle.std.specs.List.{AllZip}
use Rattle.qw_types.specs.declared.kind.Kind.{Kind}
use Rattle.qw_types.specs.declared.kind.Kind.TheVariants.{Number}
use Rattle.qw_scalar.specs.Expression.{Condition, Expression}
use Rattle.qw_scalar.specs.Typing.{kind_of}
use Rattle.qw_grouped.specs.Grouped.{Grouped, SetFunction, type_of_function}
use Rattle.qw_grouped.specs.declared.query.GroupedColumn.{GroupedColumn}
use Rattle.qw_fold.specs.Stands.{Follows, FollowsTruth}
use Rattle.qw_physical.specs.Physical.{Pipeline, filter, select}
use Rattle.qw_physical.specs.declared.pipeline.ReadColumn.{ReadColumn}
use Rattle.qw_group_pipeline.specs.declared.columns.ValueColumn.{ValueColumn}

-- ---- the columns
-- those of GROUP BY, numbered from one on
abbrev pub key_from : (number : ℕ) → List GroupedColumn → List ReadColumn
key_from n [] = []
key_from n (c ∷ columns) = record { number = n; ty = c.ty; not_null = false } ∷ key_from (n + 1) columns

-- the kind of an argument, which each argument has
abbrev pub argument_kind : Option Kind → Kind
argument_kind None = Number 0
argument_kind (Some k) = k

abbrev pub values_from : (number : ℕ) → List SetFunction → List ValueColumn
values_from n [] = []
values_from n (f ∷ functions) = record { number = n; ty = type_of_function f; function = f.kind; argument = argument_kind (kind_of f.argument) } ∷ values_from (n + 1) functions

abbrev pub key_columns : Grouped → List ReadColumn
key_columns query = key_from 0 query.columns

abbrev pub value_columns : Grouped → List ValueColumn
value_columns query = values_from (length query.columns) query.functions

-- ---- HAVING and the select list
-- at each row of the grouped table, one for one by expressions that can stand for them
pub record IsBehind (query : Grouped) (behind : Pipeline) : Type 0 where
  pub having : List Condition
  pub items : List Expression
  pub operators_are : behind.operators ≡ filter having ∷ []
  pub sink_is : behind.sink ≡ select items
  pub having_follow : AllZip FollowsTruth query.having having
  pub items_follow : AllZip Follows query.items items
