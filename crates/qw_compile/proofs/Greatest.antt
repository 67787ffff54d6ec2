-- The greatest entry and the greatest result row of a query are smaller than a page.
use Rattle.std.proofs.Common.{◌≡◌, ℕ, suc, ◌+◌, ◌*◌, ◌≤◌, max, Bool, true, false, ◌&&◌, if◌then◌else◌, List, [], ◌∷◌, ◌++◌, length, length-append, map, ap, arith}
use Rattle.std.specs.List.{filter as filter_list, flat_map, range_with_len}
use Rattle.std.proofs.lemmas.List.{length-map}
use Rattle.std.proofs.lemmas.List.FromFn.{length-range_with_len}
use Rattle.std.proofs.lemmas.List.Sorted.{length_permutation}
use Rattle.qw_layout.specs.Row.{entry_size}
use Rattle.qw_scalar.specs.Expression.{Condition}
use Rattle.qw_meaning.specs.Select.{IsSpecification, Joined, Source, Specification, conjuncts_on, entries_in, entries_of}
use Rattle.qw_raise.specs.Raise.{condition_can_raise}
use Rattle.qw_algebra.specs.Columns.{entries_below, owns}
use Rattle.qw_algebra.specs.Node.{Node, scan, filter, join, project}
use Rattle.qw_algebra.specs.Written.{from_written, source_written, with_joins, with_sources}
use Rattle.qw_rewrite.specs.Placed.{conjuncts_of}
use Rattle.qw_rewrite.specs.Probe.{is_eligible, keyed, keys_from, keys_of_join}
use Rattle.qw_rewrite.specs.Sift.{is_clean_on, is_quiet, sifted}
use Rattle.qw_rewrite.proofs.Once.{keyed_entries, once, sifted_entries}
use Rattle.qw_pipe.specs.Octets.{entry_octets, greatest_entry}
use Rattle.qw_map.specs.Layout.{row_size}
use Rattle.qw_compile.specs.PlannedQueries.{greatest, kept_by, placed, reads}

-- ---- how many cells an entry has at most

keys_few : (left right : ℕ → Bool) (k : ℕ) (cs : List Condition) → length (keys_from left right k cs) ≤ length cs
keys_few left right k [] = omega arith
keys_few left right k (c ∷ cs) = one (condition_can_raise c) (is_eligible left right c) (keys_few left right (k + 1) cs)
  where
    one : (raises eligible : Bool) → length (keys_from left right (k + 1) cs) ≤ length cs
        → length (if raises then [] else if eligible then k ∷ keys_from left right (k + 1) cs else keys_from left right (k + 1) cs) ≤ suc (length cs)
    one true eligible h = omega arith
    one false true h = omega (arith, h)
    one false false h = omega (arith, h)

join_few : (clean : Bool) (left right : Node) (on : List Condition) → length (keys_of_join clean left right on) ≤ length on
join_few clean left right on = one (is_clean_on clean left right) (keys_few (owns left) (owns right) 0 on)
  where
    one : (b : Bool) → length (keys_from (owns left) (owns right) 0 on) ≤ length on → length (if b then keys_from (owns left) (owns right) 0 on else []) ≤ length on
    one true h = h
    one false h = omega arith

filter_few : (passes : ℕ → Bool) (xs : List ℕ) → length (filter_list passes xs) ≤ length xs
filter_few passes [] = omega arith
filter_few passes (x ∷ xs) = one (passes x) (filter_few passes xs)
  where
    one : (b : Bool) → length (filter_list passes xs) ≤ length xs → length (if b then x ∷ filter_list passes xs else filter_list passes xs) ≤ suc (length xs)
    one true h = omega (arith, h)
    one false h = omega (arith, h)

-- 64 columns of each entry of FROM
columns_many : (entries : List ℕ) → length (flat_map (λ entry. range_with_len (64 * entry) 64) entries) ≡ 64 * length entries
columns_many [] = omega arith
columns_many (e ∷ entries) =
    let both = length-append (range_with_len (64 * e) 64) (flat_map (λ entry. range_with_len (64 * entry) 64) entries) in
    let here = length-range_with_len (64 * e) 64 in
    let rest = columns_many entries in
    summed (length (flat_map (λ entry. range_with_len (64 * entry) 64) (e ∷ entries))) (length (range_with_len (64 * e) 64)) (length (flat_map (λ entry. range_with_len (64 * entry) 64) entries)) (length entries) both here rest
  where
    summed : (whole a b n : ℕ) → whole ≡ a + b → a ≡ 64 → b ≡ 64 * n → whole ≡ 64 * suc n
    summed whole a b n e f g = omega (arith, e, f, g)

kept_few : (query : Specification) (entries : List ℕ) → kept_by query entries ≤ 64 * length entries
kept_few query entries =
    let few = filter_few (reads query) (flat_map (λ entry. range_with_len (64 * entry) 64) entries) in
    let many = columns_many entries in
    omega (arith, few, many)

-- ---- of a plan: one for each conjunct, and 64 for each entry of FROM

abbrev cells : Node → ℕ
cells node = length (conjuncts_of node) + 64 * length (entries_below node)

cells_join : (outer : Bool) (left right : Node) (on : List Condition) (keys : List ℕ) → cells (join outer left right on keys) ≡ (cells left + cells right) + length on
cells_join outer left right on keys =
    summed (length ((conjuncts_of left ++ conjuncts_of right) ++ on)) (length (conjuncts_of left ++ conjuncts_of right)) (length (conjuncts_of left)) (length (conjuncts_of right)) (length on)
    (length (entries_below left ++ entries_below right)) (length (entries_below left)) (length (entries_below right))
    (length-append (conjuncts_of left ++ conjuncts_of right) on) (length-append (conjuncts_of left) (conjuncts_of right)) (length-append (entries_below left) (entries_below right))
  where
    summed : (whole sides l r o entries e f : ℕ) → whole ≡ sides + o → sides ≡ l + r → entries ≡ e + f → whole + 64 * entries ≡ ((l + 64 * e) + (r + 64 * f)) + o
    summed whole sides l r o entries e f a b c = omega (arith, a, b, c)

cells_filter : (conjuncts : List Condition) (below : Node) → cells (filter conjuncts below) ≡ cells below + length conjuncts
cells_filter conjuncts below = let both = length-append (conjuncts_of below) conjuncts in omega (arith, both)

-- an entry is of no more
entry_less : (query : Specification) (right : Node) (clean other : Bool) (left : Node) (on : List Condition) → entry_octets (kept_by query) (keyed clean right) (keys_of_join other left right on) ≤ 24 + 16 * (length on + 64 * length (entries_below right))
entry_less query right clean other left on =
    let keys = join_few other left right on in
    let kept = kept_few query (entries_below (keyed clean right)) in
    let same : length (entries_below (keyed clean right)) ≡ length (entries_below right) = ap (λ (l : List ℕ). length l) (keyed_entries right clean) in
    sized (length (keys_of_join other left right on)) (length on) (kept_by query (entries_below (keyed clean right))) (length (entries_below (keyed clean right))) (length (entries_below right)) keys kept same
  where
    sized : (k m c a b : ℕ) → k ≤ m → c ≤ 64 * a → a ≡ b → entry_size k c 0 ≤ 24 + 16 * (m + 64 * b)
    sized k m c a b h g e = omega (arith, h, g, e)

greatest_less : (query : Specification) (node : Node) (clean : Bool) → greatest_entry (kept_by query) (keyed clean node) ≤ 24 + 16 * cells node
greatest_less query (scan entry table) clean = omega arith
greatest_less query (filter conjuncts below) clean =
    let rest = greatest_less query below clean in
    let more = cells_filter conjuncts below in
    omega (arith, rest, more)
greatest_less query (join outer left right on keys) clean =
    let own = entry_less query right (clean && is_quiet left) clean left on in
    let first = greatest_less query left clean in
    let second = greatest_less query right (clean && is_quiet left) in
    let all = cells_join outer left right on keys in
    three (entry_octets (kept_by query) (keyed (clean && is_quiet left) right) (keys_of_join clean left right on)) (greatest_entry (kept_by query) (keyed clean left)) (greatest_entry (kept_by query) (keyed (clean && is_quiet left) right))
    (length on) (length (entries_below right)) (cells left) (length (conjuncts_of right)) (cells (join outer left right on keys)) own first second all
  where
    three : (entry l r on below left cs whole : ℕ) → entry ≤ 24 + 16 * (on + 64 * below) → l ≤ 24 + 16 * left → r ≤ 24 + 16 * (cs + 64 * below) → whole ≡ (left + (cs + 64 * below)) + on → max entry (max l r) ≤ 24 + 16 * whole
    three entry l r on below left cs whole a b c e = omega (arith, a, b, c, e)
greatest_less query (project below items) clean = greatest_less query below clean

-- ---- of a query

joins_cells : (joins : List Joined) (next : ℕ) (node : Node) → cells (with_joins next node joins) ≡ cells node + (length (flat_map (λ (j : Joined). j.on) joins) + 64 * length joins)
joins_cells [] next node = omega arith
joins_cells (j ∷ joins) next node =
    let rest = joins_cells joins (next + 1) (join j.outer node (scan next j.entry.table) j.on []) in
    let here = cells_join j.outer node (scan next j.entry.table) j.on [] in
    let all : length (j.on ++ flat_map (λ (i : Joined). i.on) joins) ≡ length j.on + length (flat_map (λ (i : Joined). i.on) joins) = length-append j.on (flat_map (λ (i : Joined). i.on) joins) in
    summed (cells (with_joins (next + 1) (join j.outer node (scan next j.entry.table) j.on []) joins)) (cells (join j.outer node (scan next j.entry.table) j.on [])) (length (flat_map (λ (i : Joined). i.on) joins)) (length joins) (cells node) (length j.on)
    (length (j.on ++ flat_map (λ (i : Joined). i.on) joins)) rest here all
  where
    summed : (whole a r n c o t : ℕ) → whole ≡ a + (r + 64 * n) → a ≡ (c + 64) + o → t ≡ o + r → whole ≡ c + (t + 64 * suc n)
    summed whole a r n c o t e f g = omega (arith, e, f, g)

-- those of a source
abbrev own_cells : Source → ℕ
own_cells source = length (flat_map (λ (j : Joined). j.on) source.joins) + 64 * length (entries_in source)

source_cells : (source : Source) (first : ℕ) → cells (source_written first source) ≡ own_cells source
source_cells source first =
    let all = joins_cells source.joins (first + 1) (scan first source.first.table) in
    let many : length (map (λ (j : Joined). j.entry) source.joins) ≡ length source.joins = length-map source.joins (λ (j : Joined). j.entry) in
    summed (cells (with_joins (first + 1) (scan first source.first.table) source.joins)) (length (flat_map (λ (j : Joined). j.on) source.joins)) (length source.joins) (length (map (λ (j : Joined). j.entry) source.joins)) all many
  where
    summed : (whole r n m : ℕ) → whole ≡ 64 + (r + 64 * n) → m ≡ n → whole ≡ r + 64 * suc m
    summed whole r n m e f = omega (arith, e, f)

abbrev all_cells : List Source → ℕ
all_cells sources = length (conjuncts_on sources) + 64 * length (entries_of sources)

one_more : (source : Source) (sources : List Source) → all_cells (source ∷ sources) ≡ own_cells source + all_cells sources
one_more source sources =
    let own : List Condition = flat_map (λ (j : Joined). j.on) source.joins in
    summed (length (own ++ conjuncts_on sources)) (length own) (length (conjuncts_on sources)) (length (entries_in source ++ entries_of sources)) (length (entries_in source)) (length (entries_of sources))
    (length-append own (conjuncts_on sources)) (length-append (entries_in source) (entries_of sources))
  where
    summed : (cs a b es x y : ℕ) → cs ≡ a + b → es ≡ x + y → cs + 64 * es ≡ (a + 64 * x) + (b + 64 * y)
    summed cs a b es x y e f = omega (arith, e, f)

sources_cells : (sources : List Source) (next : ℕ) (node : Node) → cells (with_sources next node sources) ≡ cells node + all_cells sources
sources_cells [] next node = omega arith
sources_cells (source ∷ sources) next node =
    let rest = sources_cells sources (next + length (entries_in source)) (join false node (source_written next source) [] []) in
    let here = cells_join false node (source_written next source) [] [] in
    let own = source_cells source next in
    let all = one_more source sources in
    summed (cells (with_sources (next + length (entries_in source)) (join false node (source_written next source) [] []) sources)) (cells (join false node (source_written next source) [] [])) (all_cells sources) (cells node) (cells (source_written next source)) (own_cells source)
    (all_cells (source ∷ sources)) rest here own all
  where
    summed : (whole a r c s o t : ℕ) → whole ≡ a + r → a ≡ (c + s) + 0 → s ≡ o → t ≡ o + r → whole ≡ c + t
    summed whole a r c s o t e f g h = omega (arith, e, f, g, h)

from_cells : (sources : List Source) → 1 ≤ length sources → cells (from_written sources) ≡ all_cells sources
from_cells [] some = absurd (omega (arith, some))
from_cells (source ∷ sources) some =
    let rest = sources_cells sources (length (entries_in source)) (source_written 0 source) in
    let own = source_cells source 0 in
    let all = one_more source sources in
    summed (cells (from_written (source ∷ sources))) (cells (source_written 0 source)) (own_cells source) (all_cells sources) (all_cells (source ∷ sources)) rest own all
  where
    summed : (whole s o r t : ℕ) → whole ≡ s + r → s ≡ o → t ≡ o + r → whole ≡ t
    summed whole s o r t e f g = omega (arith, e, f, g)

-- where conjuncts stand doesn't matter
sifted_cells : (node : Node) → cells (sifted true [] node) ≡ cells node
sifted_cells node =
    let same = length_permutation (conjuncts_of node ++ []) (conjuncts_of (sifted true [] node)) (once node true []) in
    let none = length-append (conjuncts_of node) [] in
    let entries : length (entries_below (sifted true [] node)) ≡ length (entries_below node) = ap (λ (l : List ℕ). length l) (sifted_entries node true []) in
    summed (length (conjuncts_of node ++ [])) (length (conjuncts_of (sifted true [] node))) (length (conjuncts_of node)) (length (entries_below (sifted true [] node))) (length (entries_below node)) same none entries
  where
    summed : (a b c x y : ℕ) → b ≡ a → a ≡ c + 0 → x ≡ y → b + 64 * x ≡ c + 64 * y
    summed a b c x y e f g = omega (arith, e, f, g)

-- 24 octets, and 16 for each of 1,000 conjuncts, of which all may be keys, and of 64 columns of each of 8 entries
pub greatest_small : (query : Specification) → IsSpecification query → greatest query ≤ 24216
greatest_small query whole =
    let start : Node = filter query.conjuncts (from_written query.sources) in
    let less = greatest_less query (sifted true [] start) true in
    let same = sifted_cells start in
    let more = cells_filter query.conjuncts (from_written query.sources) in
    let from = from_cells query.sources whole.some_source in
    let few = whole.few_conjuncts in
    let entries = whole.few_entries in
    let items = whole.few_items in
    bounded (greatest_entry (kept_by query) (placed query)) (cells (sifted true [] start)) (cells start) (cells (from_written query.sources)) (length query.conjuncts) (length (conjuncts_on query.sources)) (length (entries_of query.sources)) (length query.items)
    less same more from few entries items
  where
    bounded : (entry down start from own on entries items : ℕ) → entry ≤ 24 + 16 * down → down ≡ start → start ≡ from + own → from ≡ on + 64 * entries → on + own ≤ 1000 → entries ≤ 8 → items ≤ 512 → max (row_size items) entry ≤ 24216
    bounded entry down start from own on entries items a b c d e f g = omega (arith, a, b, c, d, e, f, g)
