-- What the expressions of a query read: each column that they name is one of a list, and two sides of an equality that are of one kind are of one
-- scale, as results of a choice are that are brought to one (ISO/IEC 9075:1992, 6.9, 9.3).
use Rattle.std.specs.Prelude.{◌≡◌, ℕ, nat_eq, Bool, true, List, ◌++◌}
use Rattle.std.specs.List.{AllByRecursion, list_any}
use Rattle.qw_scalar.specs.Expression.{Condition, Expression, scale_of}
use Rattle.qw_scalar.specs.Typing.{kind_of}
use Rattle.qw_leaves.specs.Compared.{OfCompared, compared_in}
use Rattle.qw_meaning.specs.Select.{Specification, conjuncts_on}
use Rattle.qw_algebra.specs.Columns.{condition_names_only, names_only}
use Rattle.qw_rewrite.specs.Probe.{are_alike}
use Rattle.qw_physical.specs.declared.pipeline.ReadColumn.{ReadColumn}

-- the conjuncts of every ON, and of WHERE
abbrev pub conjuncts_in : Specification → List Condition
conjuncts_in query = conjuncts_on query.sources ++ query.conjuncts

-- a column of this number is one of these
abbrev pub is_read : List ReadColumn → ℕ → Bool
is_read columns i = list_any (λ (c : ReadColumn). nat_eq c.number i) columns

-- each that an expression of the query names is
pub record AreRead (columns : List ReadColumn) (query : Specification) : Type 0 where
  pub conjuncts : AllByRecursion (λ (c : Condition). condition_names_only (is_read columns) c ≡ true) (conjuncts_in query)
  pub items : AllByRecursion (λ (e : Expression). names_only (is_read columns) e ≡ true) query.items

-- operands of one kind, and numbers of one scale, have one scale
abbrev pub IsScaled : Condition → Type 0
IsScaled c = OfCompared (λ op a b. are_alike (kind_of a) (kind_of b) ≡ true → scale_of a ≡ scale_of b) (compared_in c)

abbrev pub AreScaled : Specification → Type 0
AreScaled query = AllByRecursion IsScaled (conjuncts_in query)
