-- How large the trees of plans and of queries are, by any measure of expressions and conditions: of all conjuncts and of the select list.
use Rattle.std.specs.Prelude.{ℕ, ◌+◌, List, sum_by}
use Rattle.std.specs.List.{flat_map}
use Rattle.qw_scalar.specs.declared.expression.Expr.{Expr}
use Rattle.qw_scalar.specs.declared.expression.Cond.{Cond}
use Rattle.qw_scalar.specs.Nodes.{nodes, nodes_of}
use Rattle.qw_scalar.specs.Texts.{texts_in, texts_within}
use Rattle.qw_meaning.specs.Query.{QueryParts}
use Rattle.qw_meaning.specs.declared.query.Joined.{Joined}
use Rattle.qw_meaning.specs.declared.query.Source.{Source}
use Rattle.qw_algebra.specs.declared.plan.Plan.{Plan}
use Rattle.qw_algebra.specs.declared.plan.Plan.TheVariants.{Scan, Filter', Join', Project'}

-- ---- of a plan, the conjuncts of all steps and the items
abbrev pub plan_size : (of_expression : Expr → ℕ) (of_condition : Cond → ℕ) → Plan → ℕ
plan_size of_expression of_condition (Scan entry table) = 0
plan_size of_expression of_condition (Filter' conjuncts _ below) = sum_by of_condition conjuncts.items + plan_size of_expression of_condition below
plan_size of_expression of_condition (Join' outer _ left _ right on keys build) =
    (plan_size of_expression of_condition left + plan_size of_expression of_condition right) + sum_by of_condition on.items
plan_size of_expression of_condition (Project' _ below items) = plan_size of_expression of_condition below + sum_by of_expression items.items

-- ---- of a query, the conjuncts of each ON, those of WHERE and the items (ISO/IEC 9075:1992, 7.5, 7.6, 7.9)
abbrev pub tests_in : List Joined → List Cond
tests_in joins = flat_map (λ (j : Joined). j.on.items) joins

abbrev pub tests_on : List Source → List Cond
tests_on sources = flat_map (λ (s : Source). tests_in s.joins.items) sources

abbrev pub query_size : (of_expression : Expr → ℕ) (of_condition : Cond → ℕ) → QueryParts → ℕ
query_size of_expression of_condition parts =
    sum_by of_condition (tests_on parts.sources) + (sum_by of_condition parts.conjuncts + sum_by of_expression parts.items)

-- ---- measures of one tree, by how many nodes it has and by which text literals stand in it (5.3)
abbrev pub measure_in : (ℕ → List (List ℕ) → ℕ) → Expr → ℕ
measure_in measure e = measure (nodes e) (texts_in e)

abbrev pub measure_within : (ℕ → List (List ℕ) → ℕ) → Cond → ℕ
measure_within measure c = measure (nodes_of c) (texts_within c)
