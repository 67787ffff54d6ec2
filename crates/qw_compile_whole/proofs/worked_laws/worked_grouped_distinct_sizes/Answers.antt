use Rattle.std.proofs.Common.{◌≡◌, ◌+◌, [], ◌∷◌, List, arith, refl}
use Rattle.std.proofs.lemmas.List.Sums.{sum_by-cons}
use Rattle.qw_types.specs.declared.value.Ty.TheVariants.{Integer}
use Rattle.qw_scalar.specs.Nodes.{nodes, nodes_of}
use Rattle.qw_scalar.specs.declared.expression.Cond.{Cond}
use Rattle.qw_scalar.specs.declared.expression.Expr.TheVariants.{Column}
use Rattle.qw_compile_whole.specs.WholeLimits.{behind_size, front_size}
use Rattle.qw_compile_whole.specs.WorkedSizes.{of_many_columns}
use Rattle.qw_compile_whole.proofs.worked_laws.worked_grouped_distinct_sizes.Goals as goal

-- HAVING's nodes, and those of the item
behind_are : (c : Cond) → behind_size nodes nodes_of (of_many_columns 448 (c ∷ []) (Column 0 Integer ∷ [])) ≡ nodes_of c + 1
behind_are c = omega (arith, sum_by-cons nodes_of c [], sum_by-cons nodes (Column 0 Integer) [])

front_is : (having : List Cond) → front_size nodes nodes_of (of_many_columns 448 having (Column 0 Integer ∷ [])) ≡ 448
front_is having = refl

pub returns-clause-most_nodes : goal.returns-clause-most_nodes
returns-clause-most_nodes c d none many = record {
  few_nodes = omega (arith, many, behind_are d, front_is (d ∷ []));
  few_octets = rw none (omega arith);
}

pub returns-clause-too_many : goal.returns-clause-too_many
returns-clause-too_many c d many short = let few = short.few_nodes in omega (arith, few, many, behind_are d, front_is (d ∷ []))
