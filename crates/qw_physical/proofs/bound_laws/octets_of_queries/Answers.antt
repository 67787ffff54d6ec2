use Rattle.std.proofs.Common.{◌≡◌, ◌+◌, ◌*◌, ◌≤◌, max, [], ◌++◌, length, sym, subst}
use Rattle.std.specs.List.{AllByRecursion}
use Rattle.qw_algebra.specs.Node.{Node, node_flow}
use Rattle.qw_pipe.specs.Octets.{greatest_entry, table_count, table_octets}
use Rattle.qw_pipe.specs.Pipes.{pipelines}
use Rattle.qw_physical.specs.Held.{held, kept_of, sink_size}
use Rattle.qw_physical.specs.Physical.{Pipeline}
use Rattle.qw_physical.specs.Spelled.{all_spelled}
use Rattle.qw_physical.proofs.Grounded.{clauses}
use Rattle.qw_physical.proofs.Holding.{all_count, all_sizes, held_within, kept_numbers}
use Rattle.qw_physical.proofs.bound_laws.octets_of_queries.Goals as goal

pub returns-clause-held : goal.returns-clause-held
returns-clause-held c query tables node columns front back more whole of sized placed are_read scaled is built =
    subst (λ (n : Node). held tables [] (front ++ back) more ≤ table_octets (kept_of columns) tables n + length (node_flow tables n).rows * (8 + 16 * length query.items)) (sym placed)
    (held_within c.order_laws.ensures.rows c.order_laws.ensures.same columns tables query front back more whole of sized are_read scaled
    (subst (λ (n : Node). all_spelled columns 0 (pipelines n) ≡ front ++ back) placed is) built)

pub returns-clause-sizes : goal.returns-clause-sizes
returns-clause-sizes c query node columns placed =
    subst (λ (n : Node). AllByRecursion (λ (p : Pipeline). sink_size p.sink ≤ max (8 + 16 * length query.items) (greatest_entry (kept_of columns) n)) (all_spelled columns 0 (pipelines n))) (sym placed)
    (all_sizes c.order_laws.ensures.rows c.order_laws.ensures.same columns [] (clauses query) query.items)

pub returns-clause-count : goal.returns-clause-count
returns-clause-count c query node columns placed =
    subst (λ (n : Node). length (all_spelled columns 0 (pipelines n)) ≡ table_count n + 1) (sym placed)
    (all_count c.order_laws.ensures.rows c.order_laws.ensures.same columns [] (clauses query) query.items)

pub returns-clause-numbers : goal.returns-clause-numbers
returns-clause-numbers c = kept_numbers
