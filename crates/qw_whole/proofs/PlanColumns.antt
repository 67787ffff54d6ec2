-- The columns that the well placed plan of a query reads are those that the query does.
use Rattle.std.proofs.Common.{◌≡◌, ◌∙◌, ℕ, ◌+◌, ◌*◌, max, Bool, true, false, ◌&&◌, ◌||◌, List, [], ◌∷◌, ◌++◌, length, refl, sym, ap, ap₂, append-nil, append_assoc}
use Rattle.std.specs.List.{flat_map, list_any, range_with_len}
use Rattle.std.proofs.lemmas.List.Elements.{filter_agree}
use Rattle.std.proofs.lemmas.List.Sorted.{list_any-IsPermutation}
use Rattle.qw_types.specs.declared.value.Val.{Val}
use Rattle.qw_layout.specs.Row.{entry_size}
use Rattle.qw_scalar.specs.Expression.{Condition, Expression}
use Rattle.qw_meaning.specs.Select.{Joined, Source, Specification, conjuncts_on, entries_in}
use Rattle.qw_algebra.specs.Columns.{entries_below}
use Rattle.qw_algebra.specs.Node.{Node, filter, join, node_flow, project, scan}
use Rattle.qw_algebra.specs.Written.{from_written, source_written, with_joins, with_sources, written}
use Rattle.qw_rewrite.specs.Placed.{conjuncts_of}
use Rattle.qw_rewrite.specs.Probe.{keyed}
use Rattle.qw_rewrite.specs.Sift.{beyond, down_from, is_quiet, moved, sifted, within}
use Rattle.qw_rewrite.proofs.Once.{all_once}
use Rattle.qw_pipe.specs.Octets as joins
use Rattle.qw_compile.specs.PlannedQueries.{condition_names, kept_by, names, placed, reads}
use Rattle.qw_whole.specs.PlanBounds.{columns_kept, lists_of, reads_in}

-- ---- the lists of a plan stay
lists_sifted : (node : Node) (clean : Bool) (above : List Condition) → lists_of (sifted clean above node) ≡ lists_of node
lists_sifted (scan entry table) clean above = refl
lists_sifted (filter conjuncts below) clean above = lists_sifted below clean (moved (clean && is_quiet below) conjuncts ++ above)
lists_sifted (join true left right on keys) clean above =
    ap₂ (λ (xs ys : List Expression). xs ++ ys) (lists_sifted left clean (within left above)) (lists_sifted right (clean && is_quiet left) [])
lists_sifted (join false left right on keys) clean above =
    ap₂ (λ (xs ys : List Expression). xs ++ ys) (lists_sifted left clean (within left (down_from clean left right on above)))
    (lists_sifted right (clean && is_quiet left) (within right (beyond left (down_from clean left right on above))))
lists_sifted (project below items) clean above = ap (λ (xs : List Expression). xs ++ items) (lists_sifted below clean above)

lists_keyed : (node : Node) (clean : Bool) → lists_of (keyed clean node) ≡ lists_of node
lists_keyed (scan entry table) clean = refl
lists_keyed (filter conjuncts below) clean = lists_keyed below clean
lists_keyed (join outer left right on keys) clean = ap₂ (λ (xs ys : List Expression). xs ++ ys) (lists_keyed left clean) (lists_keyed right (clean && is_quiet left))
lists_keyed (project below items) clean = ap (λ (xs : List Expression). xs ++ items) (lists_keyed below clean)

-- ---- FROM has none
lists_joins : (joined : List Joined) (next : ℕ) (node : Node) → lists_of node ≡ [] → lists_of (with_joins next node joined) ≡ []
lists_joins [] next node e = e
lists_joins (j ∷ joined) next node e = lists_joins joined (next + 1) (join j.outer node (scan next j.entry.table) j.on []) (ap (λ (xs : List Expression). xs ++ []) e)

lists_source : (first : ℕ) (source : Source) → lists_of (source_written first source) ≡ []
lists_source first source = lists_joins source.joins (first + 1) (scan first source.first.table) refl

lists_sources : (sources : List Source) (next : ℕ) (node : Node) → lists_of node ≡ [] → lists_of (with_sources next node sources) ≡ []
lists_sources [] next node e = e
lists_sources (source ∷ sources) next node e =
    lists_sources sources (next + length (entries_in source)) (join false node (source_written next source) [] []) (ap₂ (λ (xs ys : List Expression). xs ++ ys) e (lists_source next source))

lists_from : (sources : List Source) → lists_of (from_written sources) ≡ []
lists_from [] = refl
lists_from (source ∷ sources) = lists_sources sources (length (entries_in source)) (source_written 0 source) (lists_source 0 source)

-- ---- and the conjuncts of its ON
on_joins : (joined : List Joined) (next : ℕ) (node : Node) → conjuncts_of (with_joins next node joined) ≡ conjuncts_of node ++ flat_map (λ (j : Joined). j.on) joined
on_joins [] next node = sym (append-nil (conjuncts_of node))
on_joins (j ∷ joined) next node =
    on_joins joined (next + 1) (join j.outer node (scan next j.entry.table) j.on [])
    ∙ ap (λ (cs : List Condition). (cs ++ j.on) ++ flat_map (λ (i : Joined). i.on) joined) (append-nil (conjuncts_of node))
    ∙ append_assoc (conjuncts_of node) j.on (flat_map (λ (i : Joined). i.on) joined)

on_source : (first : ℕ) (source : Source) → conjuncts_of (source_written first source) ≡ flat_map (λ (j : Joined). j.on) source.joins
on_source first source = on_joins source.joins (first + 1) (scan first source.first.table)

on_sources : (sources : List Source) (next : ℕ) (node : Node) → conjuncts_of (with_sources next node sources) ≡ conjuncts_of node ++ conjuncts_on sources
on_sources [] next node = sym (append-nil (conjuncts_of node))
on_sources (source ∷ sources) next node =
    on_sources sources (next + length (entries_in source)) (join false node (source_written next source) [] [])
    ∙ ap (λ (cs : List Condition). cs ++ conjuncts_on sources) (append-nil (conjuncts_of node ++ conjuncts_of (source_written next source)))
    ∙ ap (λ (cs : List Condition). (conjuncts_of node ++ cs) ++ conjuncts_on sources) (on_source next source)
    ∙ append_assoc (conjuncts_of node) (flat_map (λ (j : Joined). j.on) source.joins) (conjuncts_on sources)

on_from : (sources : List Source) → conjuncts_of (from_written sources) ≡ conjuncts_on sources
on_from [] = refl
on_from (source ∷ sources) =
    on_sources sources (length (entries_in source)) (source_written 0 source) ∙ ap (λ (cs : List Condition). cs ++ conjuncts_on sources) (on_source 0 source)

-- ---- so the same columns are read
placed_lists : (query : Specification) → lists_of (placed query) ≡ query.items
placed_lists query =
    lists_keyed (sifted true [] (written query)) true ∙ lists_sifted (written query) true [] ∙ ap (λ (xs : List Expression). xs ++ query.items) (lists_from query.sources)

reads_same : (query : Specification) (i : ℕ) → reads_in (placed query) i ≡ reads query i
reads_same query i =
    let there = all_once (written query) (placed query) refl in
    ap₂ (λ (a b : Bool). a || b)
    (sym (list_any-IsPermutation (condition_names i) (conjuncts_of (written query)) (conjuncts_of (placed query)) there)
    ∙ ap (λ (cs : List Condition). list_any (condition_names i) (cs ++ query.conjuncts)) (on_from query.sources))
    (ap (λ (es : List Expression). list_any (names i) es) (placed_lists query))

pub kept_same : (query : Specification) (entries : List ℕ) → columns_kept (placed query) entries ≡ kept_by query entries
kept_same query entries =
    ap (λ (xs : List ℕ). length xs) (filter_agree (reads_in (placed query)) (reads query) (reads_same query) (flat_map (λ entry. range_with_len (64 * entry) 64) entries))

-- ---- what tables keep is told by how many columns alone
module _ (one other : List ℕ → ℕ) (same : (entries : List ℕ) → one entries ≡ other entries) where
  entry_same : (right : Node) (keys : List ℕ) → joins.entry_octets one right keys ≡ joins.entry_octets other right keys
  entry_same right keys = ap (λ (n : ℕ). entry_size (length keys) n 0) (same (entries_below right))

  pub greatest_same : (node : Node) → joins.greatest_entry one node ≡ joins.greatest_entry other node
  greatest_same (scan entry table) = refl
  greatest_same (filter conjuncts below) = greatest_same below
  greatest_same (join outer left right on keys) = ap₂ (λ (m n : ℕ). max m n) (entry_same right keys) (ap₂ (λ (m n : ℕ). max m n) (greatest_same left) (greatest_same right))
  greatest_same (project below items) = greatest_same below

  pub octets_same : (tables : List (List (List Val))) (node : Node) → joins.table_octets one tables node ≡ joins.table_octets other tables node
  octets_same tables (scan entry table) = refl
  octets_same tables (filter conjuncts below) = octets_same tables below
  octets_same tables (join outer left right on keys) =
      ap₂ (λ (m n : ℕ). m + n) (ap₂ (λ (m n : ℕ). m + n) (octets_same tables left) (octets_same tables right))
      (ap (λ (n : ℕ). 4096 + length (node_flow tables right).rows * n) (entry_same right keys))
  octets_same tables (project below items) = octets_same tables below
