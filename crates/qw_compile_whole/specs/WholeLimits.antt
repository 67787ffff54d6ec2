-- Queries, grouped or not, of a size that is always compiled.
use Rattle.std.specs.Prelude.{ℕ, ◌+◌, ◌*◌, ◌≤◌, length, sum_by}
use Rattle.std.specs.List.{concat}
use Rattle.qw_scalar.specs.Nodes.{nodes, nodes_of}
use Rattle.qw_scalar.specs.declared.expression.Cond.{Cond}
use Rattle.qw_scalar.specs.declared.expression.Expr.{Expr}
use Rattle.qw_algebra.specs.Sizes.{tests_on}
use Rattle.qw_grouped.specs.Query.{GroupedParts}
use Rattle.qw_grouped.specs.declared.set_function.SetFunction.{SetFunction}
use Rattle.qw_grouped.specs.declared.whole.Body.{Body}
use Rattle.qw_grouped.specs.declared.whole.Body.TheVariants.{Plain, Grouped}
use Rattle.qw_compile.specs.Limits.{IsShort}
use Rattle.qw_compile_whole.specs.WholeTexts.{texts_of_grouped}

-- ---- grouped queries, by any measure of expressions and conditions
-- of ON, WHERE and the arguments of the set functions
abbrev pub front_size : (of_expression : Expr → ℕ) (of_condition : Cond → ℕ) → GroupedParts → ℕ
front_size of_expression of_condition parts =
    sum_by of_condition (tests_on parts.sources) + (sum_by of_condition parts.conjuncts + sum_by (λ (f : SetFunction). of_expression f.argument) parts.functions)

-- of HAVING and the select list
abbrev pub behind_size : (of_expression : Expr → ℕ) (of_condition : Cond → ℕ) → GroupedParts → ℕ
behind_size of_expression of_condition parts = sum_by of_condition parts.having + sum_by of_expression parts.items

-- How many nodes the trees of the query have, where a column of GROUP BY counts as three, and a set function as two beside its argument; and how many octets the
-- text literals in them (ISO/IEC 9075:1992, 5.3).
pub record IsShortGrouped (parts : GroupedParts) : Type 0 where
  pub few_nodes : front_size nodes nodes_of parts + behind_size nodes nodes_of parts + 3 * length parts.columns + 2 * length parts.functions ≤ 4012
  pub few_octets : length (concat (texts_of_grouped parts)) ≤ 16384

-- ---- all queries
abbrev pub IsShortBody : Body → Type 0
IsShortBody (Plain parts) = IsShort parts
IsShortBody (Grouped parts) = IsShortGrouped parts
