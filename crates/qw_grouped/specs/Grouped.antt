-- A grouped query (ISO/IEC 9075:1992, 7.7 "group by clause", 7.8 "having clause", 7.9): SELECT items FROM sources WHERE conjuncts GROUP BY
-- columns HAVING having, its names resolved. Arguments of set functions, ON and WHERE number the columns of FROM, 64 * entry + column, as
-- every specification does. HAVING and the select list are over the grouped table: its columns are the grouped columns and behind them the
-- set functions, counted from 0.
use Rattle.std.specs.Prelude.{◌≡◌, ℕ, ◌+◌, ◌≤◌, pos, IsTrue, List, ◌++◌, map, length, Option, Some, None, slice_get}
use Rattle.std.specs.List.{AllByRecursion}
use Rattle.qw_types.specs.declared.kind.Kind.{Kind}
use Rattle.qw_types.specs.declared.kind.Kind.TheVariants as kind
use Rattle.qw_types.specs.declared.value.Ty.{Ty}
use Rattle.qw_types.specs.declared.value.Ty.TheVariants as type
use Rattle.qw_scalar.specs.Expression.{Condition, Expression, column, number}
use Rattle.qw_scalar.specs.Typing.{is_number, kind_of}
use Rattle.qw_meaning.specs.Select.{IsConditionOver, IsItemOver, IsSpecification, Source, Specification, conjuncts_on}
use Rattle.qw_grouped.specs.declared.set_function.SetFunctionKind.{SetFunctionKind}
use Rattle.qw_grouped.specs.declared.set_function.SetFunctionKind.TheVariants.{CountRows, Count, Sum, Avg, Min, Max}
use Rattle.qw_grouped.specs.declared.query.GroupedColumn.{GroupedColumn}

-- a set function and its argument (6.5); COUNT(*) has none, and the number 1 stands in its place
pub record SetFunction : Type 0 where
  pub kind : SetFunctionKind
  pub argument : Expression

-- Columns are none without a GROUP BY. Set functions stand in the order of the text, one that is written twice once or twice.
pub record Grouped : Type 0 where
  pub sources : List Source
  pub conjuncts : List Condition
  pub columns : List GroupedColumn
  pub functions : List SetFunction
  pub having : List Condition
  pub items : List Expression

abbrev pub expression_of_column : GroupedColumn → Expression
expression_of_column c = column c.number c.ty

abbrev pub kinds_of : List SetFunction → List SetFunctionKind
kinds_of functions = map (λ (f : SetFunction). f.kind) functions

abbrev pub arguments_of : List SetFunction → List Expression
arguments_of functions = map (λ (f : SetFunction). f.argument) functions

-- What reaches GROUP BY, as a specification of its own: of each row that FROM and WHERE leave, the values of the grouped columns and behind
-- them those of the arguments.
abbrev pub front : Grouped → Specification
front query = record {
  sources = query.sources;
  conjuncts = query.conjuncts;
  items = map expression_of_column query.columns ++ arguments_of query.functions;
}

-- ---- kinds and types

-- four digits more behind the point
abbrev pub finer : Option Kind → Option Kind
finer None = None
finer (Some (kind.Number s)) = Some (kind.Number (s + 4))
finer (Some kind.Date) = Some kind.Date
finer (Some kind.Text) = Some kind.Text

-- the kind of a set function's values, of an argument of this kind (6.5, which leaves the scale of AVG to the implementation)
abbrev pub value_kind : SetFunctionKind → Option Kind → Option Kind
value_kind CountRows k = Some (kind.Number 0)
value_kind Count k = Some (kind.Number 0)
value_kind Sum k = k
value_kind Avg k = finer k
value_kind Min k = k
value_kind Max k = k

-- the greatest type of a kind
abbrev pub widest : Option Kind → Ty
widest None = type.Integer
widest (Some (kind.Number s)) = type.Decimal 18 s
widest (Some kind.Date) = type.Date
widest (Some kind.Text) = type.Varchar 1000

abbrev pub type_of_function : SetFunction → Ty
type_of_function f = widest (value_kind f.kind (kind_of f.argument))

-- the types of the grouped table's columns
abbrev pub types_of_group : Grouped → List Ty
types_of_group query = map (λ (c : GroupedColumn). c.ty) query.columns ++ map type_of_function query.functions

-- the grouped table has the column of this number, of this type
abbrev pub IsGroupColumn : Grouped → ℕ → Ty → Type 0
IsGroupColumn query i ty = slice_get (types_of_group query) i ≡ Some ty

-- ---- what a grouped query keeps

-- numbers whose average has at most 18 digits behind the point
abbrev pub HasAverage : Option Kind → Type 0
HasAverage None = ⊥
HasAverage (Some (kind.Number s)) = s ≤ 14
HasAverage (Some kind.Date) = ⊥
HasAverage (Some kind.Text) = ⊥

-- an argument that a set function takes: SUM and AVG take numbers (6.5)
abbrev pub Takes : SetFunctionKind → Expression → Type 0
Takes CountRows argument = argument ≡ number (pos 1) 0
Takes Count argument = Unit {0}
Takes Sum argument = IsTrue (is_number (kind_of argument))
Takes Avg argument = HasAverage (kind_of argument)
Takes Min argument = Unit {0}
Takes Max argument = Unit {0}

-- Its limits, and that all of it is typed. What reaches GROUP BY is a specification: so it has a grouped column or a set function, and at
-- most 512 of both.
pub record IsGrouped (query : Grouped) : Type 0 where
  pub front : IsSpecification (front query)
  pub few_columns : length query.columns ≤ 64
  pub functions : AllByRecursion (λ (f : SetFunction). Takes f.kind f.argument) query.functions
  pub few_conjuncts : length (conjuncts_on query.sources) + length query.conjuncts + length query.having ≤ 1000
  pub some_item : 1 ≤ length query.items
  pub few_items : length query.items ≤ 512
  pub having : AllByRecursion (IsConditionOver (IsGroupColumn query)) query.having
  pub items : AllByRecursion (IsItemOver (IsGroupColumn query)) query.items
