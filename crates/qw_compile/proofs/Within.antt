-- What a plan holds where its entries keep fewer columns is within what the promise counts.
use Rattle.std.proofs.Common.{ℕ, ◌+◌, ◌*◌, ◌≤◌, max, List, length, arith}
use Rattle.qw_types.specs.declared.value.Val.{Val}
use Rattle.qw_layout.specs.Row.{entry_size}
use Rattle.qw_meaning.specs.Select.{Specification}
use Rattle.qw_algebra.specs.Columns.{entries_below}
use Rattle.qw_algebra.specs.Node.{Node, scan, filter, join, project, node_flow}
use Rattle.qw_pipe.specs.Octets.{entry_octets, greatest_entry, table_octets}
use Rattle.qw_map.specs.Layout.{row_size}
use Rattle.qw_compile.specs.PlannedQueries.{greatest, kept_by, placed, stored}

size_less : (keys a b : ℕ) → a ≤ b → entry_size keys a 0 ≤ entry_size keys b 0
size_less keys a b h = omega (arith, h)

product_less : (n s t : ℕ) → s ≤ t → n * s ≤ n * t
product_less n s t h = grind (arith, h)

module _ (kept more : List ℕ → ℕ) (less : (entries : List ℕ) → kept entries ≤ more entries) where
  entry_less : (right : Node) (keys : List ℕ) → entry_octets kept right keys ≤ entry_octets more right keys
  entry_less right keys = size_less (length keys) (kept (entries_below right)) (more (entries_below right)) (less (entries_below right))

  greatest_less : (node : Node) → greatest_entry kept node ≤ greatest_entry more node
  greatest_less (scan entry table) = omega arith
  greatest_less (filter conjuncts below) = greatest_less below
  greatest_less (join outer left right on keys) = let a = greatest_less left in let b = greatest_less right in let c = entry_less right keys in omega (arith, a, b, c)
  greatest_less (project below items) = greatest_less below

  octets_less : (tables : List (List (List Val))) (node : Node) → table_octets kept tables node ≤ table_octets more tables node
  octets_less tables (scan entry table) = omega arith
  octets_less tables (filter conjuncts below) = octets_less tables below
  octets_less tables (join outer left right on keys) =
      let a = octets_less tables left in
      let b = octets_less tables right in
      let c = product_less (length (node_flow tables right).rows) (entry_octets kept right keys) (entry_octets more right keys) (entry_less right keys) in
      omega (arith, a, b, c)
  octets_less tables (project below items) = octets_less tables below

pub stored_within : (query : Specification) (tables : List (List (List Val))) (kept : List ℕ → ℕ) → ((entries : List ℕ) → kept entries ≤ kept_by query entries)
    → table_octets kept tables (placed query) + length (node_flow tables (placed query)).rows * row_size (length query.items) ≤ stored query tables
stored_within query tables kept less = let all = octets_less kept (kept_by query) less tables (placed query) in omega (arith, all)

pub greatest_within : (query : Specification) (kept : List ℕ → ℕ) → ((entries : List ℕ) → kept entries ≤ kept_by query entries)
    → max (row_size (length query.items)) (greatest_entry kept (placed query)) ≤ greatest query
greatest_within query kept less = let all = greatest_less kept (kept_by query) less (placed query) in omega (arith, all)
