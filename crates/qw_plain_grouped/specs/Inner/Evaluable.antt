-- What the functions of `flow` ask of a row that comes to a clause: it holds a value of its kind for each column that the clause names.
use Rattle.std.specs.Prelude.{List}
use Rattle.std.specs.List.{AllByRecursion}
use Rattle.qw_types.specs.declared.value.Val.{Val}
use Rattle.qw_scalar.specs.Columns.{HasColumns, HaveColumns, HoldsIn}
use Rattle.qw_scalar.specs.Expression.{Condition, Expression}
use Rattle.qw_scalar.specs.Typing.{AreTyped, IsTyped}

-- conjuncts have a truth, or raise, at a row
abbrev pub AreTestable : List Condition → List Val → Type 0
AreTestable conjuncts row = AllByRecursion (λ c. AreTyped c × HaveColumns (HoldsIn row) c) conjuncts

-- a select list has its values, or raises, at a row
abbrev pub AreEvaluable : List Expression → List Val → Type 0
AreEvaluable items row = AllByRecursion (λ e. IsTyped e × HasColumns (HoldsIn row) e) items
