-- Joins built from either side come to the same bag of rows and of exceptions, whatever their ON raises; so do LEFT JOINs over such sides.
use Rattle.std.proofs.Common.{◌≡◌, ◌∙◌, ◌⊎◌, ℕ, suc, ◌+◌, nat_lt, Bool, true, false, ◌&&◌, ◌||◌, Option, Some, None, List, [], ◌∷◌, ◌++◌, map, length, inl, inr, refl, sym, ap, ap₂, subst, arith}
use Rattle.std.specs.List.{AllByRecursion, flat_map}
use Rattle.std.proofs.lemmas.List.Sorted.{IsPermutation-refl, IsPermutation-sym, IsPermutation-trans, IsPermutation-append, length_permutation}
use Rattle.qw_types.specs.declared.code.Code.{Code}
use Rattle.qw_types.specs.declared.value.Val.{Val}
use Rattle.qw_types.specs.declared.value.Val.TheVariants.{Null}
use Rattle.qw_scalar.specs.Expression.{Condition}
use Rattle.qw_scalar.specs.Typing.{kind_of}
use Rattle.qw_leaves.specs.Compared.{Compared, compared_in}
use Rattle.qw_meaning.specs.Flow.{Flow, kept}
use Rattle.qw_meaning.specs.From.{completed, completed_pairs, crossed, joined, merged, pairs as pairs_of}
use Rattle.qw_meaning.proofs.FromLemmas.{cell}
use Rattle.qw_algebra.specs.Columns.{owns}
use Rattle.qw_algebra.specs.Node.{Node, scan, filter, join, project, node_flow}
use Rattle.qw_algebra.proofs.Lists.{all_more}
use Rattle.qw_rewrite.specs.Lowest.{NamesBelow}
use Rattle.qw_rewrite.specs.Order.{is_inner, joined_by, ordered, ordered_as, rows_below, turned}
use Rattle.qw_rewrite.specs.Probe.{are_alike, are_eligible, is_eligible, is_equality, is_of_side, keys_from}
use Rattle.qw_rewrite.specs.Probed.{at_keys, beside_keys, probed_by}
use Rattle.qw_rewrite.specs.Sift.{is_quiet}
use Rattle.qw_rewrite.proofs.Joins.{probe_of_join}
use Rattle.qw_rewrite.proofs.Arranged.{AllApart, Perm}
use Rattle.qw_rewrite.proofs.PermutedRows.{rows-alike, rows-permuted}
use Rattle.qw_rewrite.proofs.Names.{and_left, and_right}
use Rattle.qw_rewrite.proofs.Ordering.{SameBag, each_bag, joined_turned, left_bag, mapped, reordered_bag, right_bag}
use Rattle.qw_rewrite.proofs.Pairs.{pairs}
use Rattle.qw_rewrite.proofs.Sifting.{AreApart, IsOver, IsSound, other_side, owns_join, rows_over}

pub same-flow : (f : Flow (List Val)) → SameBag f f
same-flow f = record { rows = IsPermutation-refl f.rows; codes = IsPermutation-refl f.codes }

pub then-bag : (f g h : Flow (List Val)) → SameBag f g → SameBag g h → SameBag f h
then-bag f g h one two = record { rows = IsPermutation-trans f.rows g.rows h.rows one.rows two.rows; codes = IsPermutation-trans f.codes g.codes h.codes one.codes two.codes }

-- ---- joins of bags
crossed_bag : (f f' g g' : Flow (List Val)) → SameBag f f' → SameBag g g' → SameBag (crossed f g) (crossed f' g')
crossed_bag f f' g g' one other = record {
  rows = IsPermutation-trans (pairs f.rows g.rows) (pairs f'.rows g.rows) (pairs f'.rows g'.rows) (left_bag f.rows f'.rows g.rows one.rows) (right_bag f'.rows g.rows g'.rows other.rows);
  codes = IsPermutation-append f.codes f'.codes g.codes g'.codes one.codes other.codes;
}

inner_bag : (on : List Condition) (f f' g g' : Flow (List Val)) → SameBag f f' → SameBag g g' → SameBag (joined false on f g) (joined false on f' g')
inner_bag on f f' g g' one other = each_bag (kept on) (crossed f g) (crossed f' g') (crossed_bag f f' g g' one other)

-- a row stands alone where none of its pairs passes or raises, in whatever order these come
not-empty : {A : Type 0} (x : A) (xs : List A) → Perm [] (x ∷ xs) → ⊥
not-empty {A} x xs h = let same : suc (length xs) ≡ 0 = length_permutation [] (x ∷ xs) h in absurd (omega (arith, same))

not-empty-too : {A : Type 0} (x : A) (xs : List A) → Perm (x ∷ xs) [] → ⊥
not-empty-too {A} x xs h = let same : 0 ≡ suc (length xs) = length_permutation (x ∷ xs) [] h in absurd (omega (arith, same))

completed_bag : (row : List Val) (ps qs : List (List Val)) (cs ds : List Code) → Perm ps qs → Perm cs ds → SameBag (completed row ps cs) (completed row qs ds)
completed_bag row [] [] [] [] h g = same-flow (completed row [] [])
completed_bag row [] [] [] (d ∷ ds) h g = absurd (not-empty d ds g)
completed_bag row [] [] (c ∷ cs) [] h g = absurd (not-empty-too c cs g)
completed_bag row [] [] (c ∷ cs) (d ∷ ds) h g = record { rows = IsPermutation-refl []; codes = g }
completed_bag row [] (q ∷ qs) cs ds h g = absurd (not-empty q qs h)
completed_bag row (p ∷ ps) [] cs ds h g = absurd (not-empty-too p ps h)
completed_bag row (p ∷ ps) (q ∷ qs) cs ds h g = record { rows = h; codes = g }

pairs_bag : (on : List Condition) (others others' : List (List Val)) (row : List Val) → Perm others others' → SameBag (completed_pairs on others row) (completed_pairs on others' row)
pairs_bag on others others' row h =
    let both : SameBag (pairs_of on others row) (pairs_of on others' row) = each_bag (kept on) (record { rows = map (merged row) others; codes = [] }) (record { rows = map (merged row) others'; codes = [] })
    (record { rows = mapped (merged row) others others' h; codes = IsPermutation-refl [] }) in
    completed_bag row (pairs_of on others row).rows (pairs_of on others' row).rows (pairs_of on others row).codes (pairs_of on others' row).codes both.rows both.codes

outer_bag : (on : List Condition) (f f' g g' : Flow (List Val)) → SameBag f f' → SameBag g g' → SameBag (joined true on f g) (joined true on f' g')
outer_bag on f f' g g' one other = record {
  rows = IsPermutation-trans (flat_map (λ row. (completed_pairs on g.rows row).rows) f.rows) (flat_map (λ row. (completed_pairs on g.rows row).rows) f'.rows) (flat_map (λ row. (completed_pairs on g'.rows row).rows) f'.rows)
      (rows-permuted (λ row. (completed_pairs on g.rows row).rows) f.rows f'.rows one.rows)
      (rows-alike (λ row. (completed_pairs on g.rows row).rows) (λ row. (completed_pairs on g'.rows row).rows) f'.rows (λ row. (pairs_bag on g.rows g'.rows row other.rows).rows));
  codes = IsPermutation-append (f.codes ++ g.codes) (f'.codes ++ g'.codes) (flat_map (λ row. (completed_pairs on g.rows row).codes) f.rows) (flat_map (λ row. (completed_pairs on g'.rows row).codes) f'.rows)
      (IsPermutation-append f.codes f'.codes g.codes g'.codes one.codes other.codes)
      (IsPermutation-trans (flat_map (λ row. (completed_pairs on g.rows row).codes) f.rows) (flat_map (λ row. (completed_pairs on g.rows row).codes) f'.rows) (flat_map (λ row. (completed_pairs on g'.rows row).codes) f'.rows)
      (rows-permuted (λ row. (completed_pairs on g.rows row).codes) f.rows f'.rows one.rows)
      (rows-alike (λ row. (completed_pairs on g.rows row).codes) (λ row. (completed_pairs on g'.rows row).codes) f'.rows (λ row. (pairs_bag on g.rows g'.rows row other.rows).codes)));
}

module _ (tables : List (List (List Val))) (Fits : ℕ → Val → Type 0) where
  sides_apart : (left right : Node) → IsSound tables Fits left → IsSound tables Fits right → AreApart tables Fits left right → AllApart (node_flow tables left).rows (node_flow tables right).rows
  sides_apart left right one other apart =
      all_more (IsOver tables Fits (owns left)) (λ a. AllByRecursion (λ b. (i : ℕ) → (cell a i ≡ Null) ⊎ (cell b i ≡ Null)) (node_flow tables right).rows) (node_flow tables left).rows
      (λ a over_a. all_more (IsOver tables Fits (owns right)) (λ b. (i : ℕ) → (cell a i ≡ Null) ⊎ (cell b i ≡ Null)) (node_flow tables right).rows
      (λ b over_b i. either i a b over_a over_b (owns left i) refl)
      (rows_over tables Fits right other)) (rows_over tables Fits left one)
    where
      either : (i : ℕ) (a b : List Val) → IsOver tables Fits (owns left) a → IsOver tables Fits (owns right) b → (t : Bool) → owns left i ≡ t → (cell a i ≡ Null) ⊎ (cell b i ≡ Null)
      either i a b over_a over_b true h = inr (over_b.elsewhere i (apart i h))
      either i a b over_a over_b false h = inl (over_a.elsewhere i h)

  -- the theorem: of FROM and WHERE
  pub turned_bag : (counts : List ℕ) (node : Node) → IsSound tables Fits node → SameBag (node_flow tables (turned counts node)) (node_flow tables node)
  turned_bag counts (scan entry table) s = same-flow (node_flow tables (scan entry table))
  turned_bag counts (filter conjuncts below) s = each_bag (kept conjuncts) (node_flow tables (turned counts below)) (node_flow tables below) (turned_bag counts below s.1)
  turned_bag counts (join true left right on keys) s =
      outer_bag on (node_flow tables (turned counts left)) (node_flow tables left) (node_flow tables (turned counts right)) (node_flow tables right) (turned_bag counts left s.1.0) (turned_bag counts right s.1.1)
  turned_bag counts (join false left right on keys) s = by (nat_lt (rows_below counts left) (rows_below counts right)) (turned_bag counts left s.1.0) (turned_bag counts right s.1.1)
    where
      by : (b : Bool) → SameBag (node_flow tables (turned counts left)) (node_flow tables left) → SameBag (node_flow tables (turned counts right)) (node_flow tables right)
          → SameBag (node_flow tables (joined_by b (turned counts left) (turned counts right) on keys)) (joined false on (node_flow tables left) (node_flow tables right))
      by false one other = inner_bag on (node_flow tables (turned counts left)) (node_flow tables left) (node_flow tables (turned counts right)) (node_flow tables right) one other
      by true one other =
          then-bag (joined false on (node_flow tables (turned counts right)) (node_flow tables (turned counts left))) (joined false on (node_flow tables right) (node_flow tables left)) (joined false on (node_flow tables left) (node_flow tables right))
          (inner_bag on (node_flow tables (turned counts right)) (node_flow tables right) (node_flow tables (turned counts left)) (node_flow tables left) other one)
          (joined_turned on (node_flow tables right) (node_flow tables left) (sides_apart right left s.1.1 s.1.0 (λ i is. other_side (owns left i) (owns right i) (s.0.1 i) is)))
  turned_bag counts (project below items) s = absurd s

  -- FROM and WHERE of a well placed plan in the order that counts suggest, each join built from its side of fewer rows, come to the plan's bag
  pub ordered_bag : (counts : List ℕ) (conjuncts : List Condition) (from : Node) → IsSound tables Fits (filter conjuncts from) → NamesBelow from
      → SameBag (node_flow tables (ordered counts (filter conjuncts from))) (node_flow tables (filter conjuncts from))
  ordered_bag counts conjuncts from s n = by (is_inner from && is_quiet from) refl
    where
      by : (b : Bool) → (is_inner from && is_quiet from) ≡ b → SameBag (node_flow tables (ordered_as b counts conjuncts from)) (node_flow tables (filter conjuncts from))
      by true h =
          let bag = reordered_bag tables Fits counts conjuncts from s n (and_left (is_inner from) (is_quiet from) h) (and_right (is_inner from) (is_quiet from) h) in
          record { rows = IsPermutation-sym (node_flow tables (filter conjuncts from)).rows (node_flow tables (ordered_as true counts conjuncts from)).rows bag.rows; codes = IsPermutation-sym (node_flow tables (filter conjuncts from)).codes (node_flow tables (ordered_as true counts conjuncts from)).codes bag.codes }
      by false h = same-flow (node_flow tables (filter conjuncts from))

-- ---- keys don't ask which side is the left one
or-turned : (a b : Bool) → (a || b) ≡ (b || a)
or-turned true true = refl
or-turned true false = refl
or-turned false true = refl
or-turned false false = refl

eligible_by : (tl tr : ℕ → Bool) (k : Option Compared) → are_eligible tl tr k ≡ are_eligible tr tl k
eligible_by tl tr None = refl
eligible_by tl tr (Some k) = ap (λ (t : Bool). is_equality k.operator && (t && are_alike (kind_of k.left) (kind_of k.right)))
    (or-turned (is_of_side tl k.left && is_of_side tr k.right) (is_of_side tr k.left && is_of_side tl k.right))

pub eligible_turned : (tl tr : ℕ → Bool) (c : Condition) → is_eligible tl tr c ≡ is_eligible tr tl c
eligible_turned tl tr c = eligible_by tl tr (compared_in c)

pub keys_turned : (tl tr : ℕ → Bool) (k : ℕ) (cs : List Condition) → keys_from tl tr k cs ≡ keys_from tr tl k cs
keys_turned tl tr k [] = refl
keys_turned tl tr k (c ∷ cs) = rw (eligible_turned tl tr c, keys_turned tl tr (k + 1) cs) refl

-- ---- a plan is sound with its sides turned
pub owns_turned : (counts : List ℕ) (node : Node) (i : ℕ) → owns (turned counts node) i ≡ owns node i
owns_turned counts (scan entry table) i = refl
owns_turned counts (filter conjuncts below) i = owns_turned counts below i
owns_turned counts (join true left right on keys) i =
    owns_join true (turned counts left) (turned counts right) on keys i ∙ (ap₂ (λ (a b : Bool). a || b) (owns_turned counts left i) (owns_turned counts right i) ∙ sym (owns_join true left right on keys i))
owns_turned counts (join false left right on keys) i = by (nat_lt (rows_below counts left) (rows_below counts right)) (owns_turned counts left i) (owns_turned counts right i)
  where
    by : (b : Bool) → owns (turned counts left) i ≡ owns left i → owns (turned counts right) i ≡ owns right i → owns (joined_by b (turned counts left) (turned counts right) on keys) i ≡ owns (join false left right on keys) i
    by false one other = owns_join false (turned counts left) (turned counts right) on keys i ∙ (ap₂ (λ (a b : Bool). a || b) one other ∙ sym (owns_join false left right on keys i))
    by true one other =
        owns_join false (turned counts right) (turned counts left) on keys i
        ∙ (ap₂ (λ (a b : Bool). a || b) other one ∙ (or-turned (owns right i) (owns left i) ∙ sym (owns_join false left right on keys i)))
owns_turned counts (project below items) i = owns_turned counts below i

module _ (tables : List (List (List Val))) (Fits : ℕ → Val → Type 0) where
  pub sound_turned : (counts : List ℕ) (node : Node) → IsSound tables Fits node → IsSound tables Fits (turned counts node)
  sound_turned counts (scan entry table) s = s
  sound_turned counts (filter conjuncts below) s = (s.0, sound_turned counts below s.1)
  sound_turned counts (join true left right on keys) s =
      ((s.0.0, λ i is. owns_turned counts right i ∙ s.0.1 i (sym (owns_turned counts left i) ∙ is)), (sound_turned counts left s.1.0, sound_turned counts right s.1.1))
  sound_turned counts (join false left right on keys) s = by (nat_lt (rows_below counts left) (rows_below counts right)) (sound_turned counts left s.1.0) (sound_turned counts right s.1.1)
    where
      by : (b : Bool) → IsSound tables Fits (turned counts left) → IsSound tables Fits (turned counts right) → IsSound tables Fits (joined_by b (turned counts left) (turned counts right) on keys)
      by false one other = ((s.0.0, λ i is. owns_turned counts right i ∙ s.0.1 i (sym (owns_turned counts left i) ∙ is)), (one, other))
      by true one other = ((s.0.0, λ i is. owns_turned counts left i ∙ other_side (owns left i) (owns right i) (s.0.1 i) (sym (owns_turned counts right i) ∙ is)), (other, one))
  sound_turned counts (project below items) s = absurd s

  -- so a join that is built from its left side finds by its keys what it comes to, as `joins_are_probes` says of others
  pub turned_probe : (left right : Node) (on : List Condition) → IsSound tables Fits (join false left right on (keys_from (owns left) (owns right) 0 on))
      → node_flow tables (join false right left on (keys_from (owns left) (owns right) 0 on))
      ≡ probed_by false (owns right) (owns left) (at_keys (keys_from (owns left) (owns right) 0 on) 0 on) (beside_keys (keys_from (owns left) (owns right) 0 on) 0 on) (node_flow tables right) (node_flow tables left)
  turned_probe left right on s =
      subst (λ (keys : List ℕ). node_flow tables (join false right left on keys) ≡ probed_by false (owns right) (owns left) (at_keys keys 0 on) (beside_keys keys 0 on) (node_flow tables right) (node_flow tables left))
      (keys_turned (owns right) (owns left) 0 on)
      (probe_of_join tables Fits false right left on ((s.0.0, λ i is. other_side (owns left i) (owns right i) (s.0.1 i) is), (s.1.1, s.1.0)))
