use Rattle.std.proofs.Common.{length}
use Rattle.qw_scalar.specs.Expression.{column}
use Rattle.qw_expr.specs.Bindings.{IsAmong, Knows, known_of}
use Rattle.qw_expr.specs.Computes.{Known}
use Rattle.qw_expr.proofs.known.column_of.Given as goal

-- it is known by the rest, and what the rest knows is known
abbrev pub invariant-loop-first : goal.invariant-loop-first
invariant-loop-first l = Knows (known_of l.rest) (column l.index l.ty) × ((k : Known) → IsAmong k (known_of l.rest) → IsAmong k (known_of l.bindings))

abbrev pub decreases-loop-first : goal.decreases-loop-first
decreases-loop-first l = length l.rest
