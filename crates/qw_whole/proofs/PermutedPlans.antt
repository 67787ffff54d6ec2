-- A plan over tables whose rows stand in another order comes to the same rows and exceptions in another order, within the same units and octets.
use Rattle.std.proofs.Common.{◌≡◌, ◌∙◌, ℕ, ◌+◌, ◌*◌, nat_eq, if◌then◌else◌, not, ◌&&◌, Bool, true, false, List, [], ◌∷◌, ◌++◌, map, length, sum_by, refl, sym, ap, ap₂}
use Rattle.std.specs.List.{flat_map}
use Rattle.std.specs.List.Sorted.{IsPermutation}
use Rattle.std.proofs.lemmas.List.Sorted.{IsPermutation-append, IsPermutation-map, IsPermutation-refl, IsPermutation-trans, length_permutation, sum_by-IsPermutation}
use Rattle.qw_types.specs.Contents.{rows_of}
use Rattle.qw_types.specs.Value.{text_octets}
use Rattle.qw_types.specs.declared.code.Code.{Code}
use Rattle.qw_types.specs.declared.value.Val.{Val}
use Rattle.qw_scalar.specs.Evaluation.{at_row}
use Rattle.qw_scalar.specs.Expression.{Condition}
use Rattle.qw_scalar.specs.Units.{units_of_all}
use Rattle.qw_meaning.specs.Flow.{Flow, kept, selected}
use Rattle.qw_meaning.specs.From.{at_places, completed, completed_pairs, crossed, joined, merged, pairs}
use Rattle.qw_algebra.specs.Columns.{entries_below, is_of}
use Rattle.qw_algebra.specs.Node.{Node, scan, filter, join, project, node_flow}
use Rattle.qw_grouped.proofs.FunctionLemmas.{filter_permuted}
use Rattle.qw_grouped.proofs.Lists.{flat_map_permuted}
use Rattle.qw_grouped.proofs.OrderLemmas.{Alike, each_alike}
use Rattle.qw_pipe.specs.Octets as octets
use Rattle.qw_pipe.specs.Pipes.{Lookup}
use Rattle.qw_pipe.specs.Units.{Hashing, entered_keys, is_entered, is_keyless, key_kept, key_sought, keyed_units, meets, operands_of, table_units, units_of}
use Rattle.qw_whole.specs.AnyOrder.{ArePermuted}
use Rattle.qw_whole.proofs.PermutedTables.{made_permuted, sum_permuted}

-- each row of the one beside each of the other
abbrev beside : (lefts rights : List (List Val)) → List (List Val)
beside lefts rights = flat_map (λ row. map (merged row) rights) lefts

each_beside : (lefts rights others : List (List Val)) → IsPermutation rights others → IsPermutation (beside lefts rights) (beside lefts others)
each_beside [] rights others h = IsPermutation-refl []
each_beside (row ∷ lefts) rights others h =
    IsPermutation-append (map (merged row) rights) (map (merged row) others) (beside lefts rights) (beside lefts others)
    (IsPermutation-map (merged row) rights others h) (each_beside lefts rights others h)

pub beside_permuted : (lefts rights others more : List (List Val)) → IsPermutation lefts others → IsPermutation rights more → IsPermutation (beside lefts rights) (beside others more)
beside_permuted lefts rights others more p q =
    IsPermutation-trans (beside lefts rights) (beside others rights) (beside others more) (flat_map_permuted (λ row. map (merged row) rights) lefts others p) (each_beside others rights more q)

none_longer : {A : Type 0} (x : A) (xs : List A) → length (x ∷ xs) ≡ length {A = A} [] → ⊥
none_longer x xs e = cc

crossed_alike : (left right other more : Flow (List Val)) → Alike left other → Alike right more → Alike (crossed left right) (crossed other more)
crossed_alike left right other more p q = record {
  rows = beside_permuted left.rows right.rows other.rows more.rows p.rows q.rows;
  codes = IsPermutation-append left.codes other.codes right.codes more.codes p.codes q.codes;
}

-- a row with the others that pass ON, in any order, and completed where there are none
each_permuted : {A B : Type 0} (f g : A → List B) (xs : List A) → ((x : A) → IsPermutation (f x) (g x)) → IsPermutation (flat_map f xs) (flat_map g xs)
each_permuted f g [] same = IsPermutation-refl []
each_permuted f g (x ∷ xs) same = IsPermutation-append (f x) (g x) (flat_map f xs) (flat_map g xs) (same x) (each_permuted f g xs same)

completed_alike : (row : List Val) (rows others : List (List Val)) (codes more : List Code) → IsPermutation rows others → IsPermutation codes more → Alike (completed row rows codes) (completed row others more)
completed_alike row [] [] [] [] p q = record { rows = IsPermutation-refl (row ∷ []); codes = IsPermutation-refl [] }
completed_alike row [] [] [] (d ∷ more) p q = absurd (none_longer d more (length_permutation [] (d ∷ more) q))
completed_alike row [] [] (c ∷ codes) [] p q = absurd (none_longer c codes (sym (length_permutation (c ∷ codes) [] q)))
completed_alike row [] [] (c ∷ codes) (d ∷ more) p q = record { rows = IsPermutation-refl []; codes = q }
completed_alike row [] (o ∷ others) codes more p q = absurd (none_longer o others (length_permutation [] (o ∷ others) p))
completed_alike row (r ∷ rows) [] codes more p q = absurd (none_longer r rows (sym (length_permutation (r ∷ rows) [] p)))
completed_alike row (r ∷ rows) (o ∷ others) codes more p q = record { rows = p; codes = q }

pairs_alike : (on : List Condition) (rights others : List (List Val)) (row : List Val) → IsPermutation rights others → Alike (completed_pairs on rights row) (completed_pairs on others row)
pairs_alike on rights others row p =
    let same = each_alike (kept on) (record { rows = map (merged row) rights; codes = [] }) (record { rows = map (merged row) others; codes = [] })
    (record { rows = IsPermutation-map (merged row) rights others p; codes = IsPermutation-refl [] }) in
    completed_alike row (pairs on rights row).rows (pairs on others row).rows (pairs on rights row).codes (pairs on others row).codes same.rows same.codes

joined_alike : (outer : Bool) (on : List Condition) (left right other more : Flow (List Val)) → Alike left other → Alike right more → Alike (joined outer on left right) (joined outer on other more)
joined_alike false on left right other more p q = each_alike (kept on) (crossed left right) (crossed other more) (crossed_alike left right other more p q)
joined_alike true on left right other more p q = record {
  rows = IsPermutation-trans (flat_map (λ row. (completed_pairs on right.rows row).rows) left.rows) (flat_map (λ row. (completed_pairs on right.rows row).rows) other.rows)
      (flat_map (λ row. (completed_pairs on more.rows row).rows) other.rows)
      (flat_map_permuted (λ row. (completed_pairs on right.rows row).rows) left.rows other.rows p.rows)
      (each_permuted (λ row. (completed_pairs on right.rows row).rows) (λ row. (completed_pairs on more.rows row).rows) other.rows (λ row. (pairs_alike on right.rows more.rows row q.rows).rows));
  codes = IsPermutation-append (left.codes ++ right.codes) (other.codes ++ more.codes) (flat_map (λ row. (completed_pairs on right.rows row).codes) left.rows) (flat_map (λ row. (completed_pairs on more.rows row).codes) other.rows)
      (IsPermutation-append left.codes other.codes right.codes more.codes p.codes q.codes)
      (IsPermutation-trans (flat_map (λ row. (completed_pairs on right.rows row).codes) left.rows) (flat_map (λ row. (completed_pairs on right.rows row).codes) other.rows)
      (flat_map (λ row. (completed_pairs on more.rows row).codes) other.rows)
      (flat_map_permuted (λ row. (completed_pairs on right.rows row).codes) left.rows other.rows p.rows)
      (each_permuted (λ row. (completed_pairs on right.rows row).codes) (λ row. (completed_pairs on more.rows row).codes) other.rows (λ row. (pairs_alike on right.rows more.rows row q.rows).codes)));
}

pub table_same : (h : Hashing) (lookup : Lookup) (seeking others kept_rows more : List (List Val)) → IsPermutation seeking others → IsPermutation kept_rows more
    → table_units h lookup seeking kept_rows ≡ table_units h lookup others more
table_same h lookup seeking others kept_rows more p q =
    let sought : List Val → List Val = key_sought lookup in
    let keys : List Val → List Val = key_kept lookup in
    let ps : IsPermutation (map sought seeking) (map sought others) = IsPermutation-map sought seeking others p in
    let qs : IsPermutation (map keys kept_rows) (map keys more) = IsPermutation-map keys kept_rows more q in
    let entered : List (List Val) = entered_keys lookup kept_rows in
    let entered_more : List (List Val) = entered_keys lookup more in
    let es : IsPermutation entered entered_more = filter_permuted is_entered (map keys kept_rows) (map keys more) qs in
    let long : length entered ≡ length entered_more = sym (length_permutation entered entered_more es) in
    let met : ℕ → List (List Val) → List Val → ℕ = λ n ks key. sum_by (λ other. if nat_eq (h.slot n other) (h.slot n key) then 1 + text_octets key else 0) ks in
    let one : (is_side : ℕ → Bool) → (xs ys : List (List Val)) → IsPermutation xs ys → keyed_units is_side lookup xs ≡ keyed_units is_side lookup ys =
    λ is_side xs ys h'. made_permuted (operands_of is_side lookup) xs ys h' in
    ap₂ (λ (a b : ℕ). a + b)
    (ap₂ (λ (a b : ℕ). a + b)
    (ap₂ (λ (a b : ℕ). a + b)
    (ap₂ (λ (a b : ℕ). a + b)
    (ap₂ (λ (a b : ℕ). a + b)
    (ap₂ (λ (a b : ℕ). a + b) long (ap₂ (λ (a b : ℕ). a + b) (sym (sum_by-IsPermutation h.folded (map keys kept_rows) (map keys more) qs)) (sym (sum_by-IsPermutation h.folded (map sought seeking) (map sought others) ps))))
    (ap h.slots long))
    (ap₂ (λ (a b : ℕ). a + b) (one (is_of lookup.entries) kept_rows more q) (one (λ i. not (is_of lookup.entries i)) seeking others p)))
    (sum_permuted (met (length entered) entered) (met (length entered_more) entered_more) (map sought seeking) (map sought others)
    (λ key. ap (λ (n : ℕ). met n entered key) long
    ∙ sym (sum_by-IsPermutation (λ other. if nat_eq (h.slot (length entered_more) other) (h.slot (length entered_more) key) then 1 + text_octets key else 0) entered entered_more es)) ps))
    (sym (sum_by-IsPermutation (λ row. if meets lookup row then units_of_all lookup.on (at_row row) else 0) (beside seeking kept_rows) (beside others more) (beside_permuted seeking kept_rows others more p q))))
    (ap (λ (n : ℕ). if lookup.outer && is_keyless lookup then n else 0) (sym (length_permutation seeking others p)))

module _ (tables others : List (List (List Val))) (same : ArePermuted tables others) where
  pub node_alike : (node : Node) → Alike (node_flow tables node) (node_flow others node)
  node_alike (scan entry table) = record { rows = IsPermutation-map (at_places entry) (rows_of tables table) (rows_of others table) (same table); codes = IsPermutation-refl [] }
  node_alike (filter conjuncts below) = each_alike (kept conjuncts) (node_flow tables below) (node_flow others below) (node_alike below)
  node_alike (join outer left right on keys) =
      joined_alike outer on (node_flow tables left) (node_flow tables right) (node_flow others left) (node_flow others right) (node_alike left) (node_alike right)
  node_alike (project below items) = each_alike (selected items) (node_flow tables below) (node_flow others below) (node_alike below)

  pub units_same : (h : Hashing) (node : Node) → units_of h tables node ≡ units_of h others node
  units_same h (scan entry table) = sym (length_permutation (rows_of tables table) (rows_of others table) (same table))
  units_same h (filter conjuncts below) =
      ap₂ (λ (a b : ℕ). a + b) (units_same h below)
      (sym (sum_by-IsPermutation (λ (row : List Val). units_of_all conjuncts (at_row row)) (node_flow tables below).rows (node_flow others below).rows (node_alike below).rows))
  units_same h (join outer left right on keys) =
      ap₂ (λ (a b : ℕ). a + b) (ap₂ (λ (a b : ℕ). a + b) (units_same h left) (units_same h right))
      (table_same h (record { entries = entries_below right; outer = outer; on = on; keys = keys }) (node_flow tables left).rows (node_flow others left).rows (node_flow tables right).rows (node_flow others right).rows
      (node_alike left).rows (node_alike right).rows)
  units_same h (project below items) =
      ap₂ (λ (a b : ℕ). a + b) (units_same h below) (made_permuted items (node_flow tables below).rows (node_flow others below).rows (node_alike below).rows)

  pub octets_same : (kept_columns : List ℕ → ℕ) (node : Node) → octets.table_octets kept_columns tables node ≡ octets.table_octets kept_columns others node
  octets_same k (scan entry table) = refl
  octets_same k (filter conjuncts below) = octets_same k below
  octets_same k (join outer left right on keys) =
      ap₂ (λ (a b : ℕ). a + b) (ap₂ (λ (a b : ℕ). a + b) (octets_same k left) (octets_same k right))
      (ap (λ (n : ℕ). 4096 + n * octets.entry_octets k right keys) (sym (length_permutation (node_flow tables right).rows (node_flow others right).rows (node_alike right).rows)))
  octets_same k (project below items) = octets_same k below
