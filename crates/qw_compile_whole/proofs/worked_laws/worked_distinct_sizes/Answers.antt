use Rattle.std.proofs.Common.{◌≡◌, ◌+◌, [], ◌∷◌, length, replicate, arith, refl}
use Rattle.std.proofs.lemmas.List.Sums.{sum_by-cons}
use Rattle.qw_types.specs.declared.value.Ty.TheVariants.{Integer}
use Rattle.qw_scalar.specs.Nodes.{nodes, nodes_of}
use Rattle.qw_scalar.specs.declared.expression.Cond.{Cond}
use Rattle.qw_scalar.specs.declared.expression.Expr.TheVariants.{Column}
use Rattle.qw_algebra.specs.Sizes.{query_size}
use Rattle.qw_compile_whole.specs.WorkedSizes.{plain_parts}
use Rattle.qw_compile_whole.proofs.worked_laws.worked_distinct_sizes.Goals as goal

size_is : (c : Cond) → query_size nodes nodes_of (plain_parts (c ∷ []) (replicate 128 (Column 0 Integer))) ≡ nodes_of c + 128
size_is c = omega (arith, sum_by-cons nodes_of c [])

many : length (replicate 128 (Column 0 Integer)) ≡ 128
many = refl

pub returns-clause-most_nodes : goal.returns-clause-most_nodes
returns-clause-most_nodes c d none nodes_are =
    let size = size_is d in
    record {
      short = record { few_nodes = omega (arith, size, nodes_are); few_octets = rw none (omega arith) };
      few_keys = omega (arith, size, nodes_are, many);
    }

pub returns-clause-too_many : goal.returns-clause-too_many
returns-clause-too_many c d nodes_are short = let few = short.few_keys in omega (arith, few, nodes_are, size_is d, many)
