-- What a conjunct takes is known where its columns are read.
use Rattle.std.proofs.Common.{◌≡◌, ◌⊎◌, ℕ, zero, suc, ◌+◌, ◌<◌, ◌≤◌, ◌||◌, inl, inr, Bool, true, false, Some, List, [], ◌∷◌, ◌++◌, length, map, take, get_or, slice_get, refl, sym, ap, ◌∙◌, subst, arith}
use Rattle.std.specs.List.{AllByRecursion, list_any}
use Rattle.std.proofs.lemmas.Option.{get_or_from_slice_get, same_Some, slice_get_within}
use Rattle.qw_types.specs.declared.value.Ty.{Ty}
use Rattle.qw_scalar.specs.Expression.{column, scale_of}
use Rattle.qw_scalar.specs.Tree.{condition_of}
use Rattle.qw_scalar.specs.Typing.{kind_of}
use Rattle.qw_scalar.specs.declared.expression.Cond.{Cond}
use Rattle.qw_leaves.specs.Leaves.{leaves_within, stands_for}
use Rattle.qw_leaves.proofs.LeafLists.{all_back, all_front}
use Rattle.qw_leaves.proofs.TreeLeaves.{have_leaves, leaves_within_have}
use Rattle.qw_map.proofs.AreaLemmas.{all-append}
use Rattle.qw_expr.specs.declared.known.Binding.{Binding}
use Rattle.qw_leaves.specs.declared.leaf.Leaf.{Leaf}
use Rattle.qw_leaves.specs.declared.leaf.Leaf.TheVariants as leaf
use Rattle.qw_expr.specs.Bindings as bindings
use Rattle.qw_expr.specs.Bindings.{IsAmong, IsServed, Knows, TakeKnown}
use Rattle.qw_expr.specs.Cells.{IsBelow}
use Rattle.qw_expr.specs.Computes.{Known}
use Rattle.qw_read.specs.Reading.{known_of}
use Rattle.qw_read.specs.declared.reader.Reader.{Reader}
use Rattle.qw_operator.specs.Emitted.{AreOrdered, known_after}
use Rattle.qw_operator.specs.Needed.{IsWithin, names}
use Rattle.qw_operator.proofs.KnownLeaves.{IsKnown, known_conditions, take_known}
use Rattle.qw_operator.proofs.Fronts.{all_map_take, all_of, take_behind, take_long, take_mapped}

-- ---- among what is known
pub among_front : (xs ys : List Known) (k : Known) → IsAmong k xs → IsAmong k (xs ++ ys)
among_front [] ys k here = absurd here
among_front (x ∷ xs) ys k (inl same) = inl same
among_front (x ∷ xs) ys k (inr there) = inr (among_front xs ys k there)

pub among_back : (xs ys : List Known) (k : Known) → IsAmong k ys → IsAmong k (xs ++ ys)
among_back [] ys k there = there
among_back (x ∷ xs) ys k there = inr (among_back xs ys k there)

among_either : (xs ys : List Known) (k : Known) → IsAmong k (xs ++ ys) → IsAmong k xs ⊎ IsAmong k ys
among_either [] ys k there = inr there
among_either (x ∷ xs) ys k (inl same) = inl (inl same)
among_either (x ∷ xs) ys k (inr there) = later (among_either xs ys k there)
  where
    later : IsAmong k xs ⊎ IsAmong k ys → IsAmong k (x ∷ xs) ⊎ IsAmong k ys
    later (inl a) = inl (inr a)
    later (inr b) = inr b

among_reader : (rs : List Reader) (k : Known) → IsAmong k (map known_of rs) → (p : ℕ) × (r : Reader) × (slice_get rs p ≡ Some r) × (k ≡ known_of r)
among_reader [] k there = absurd there
among_reader (r ∷ rs) k (inl same) = (0, r, refl, same)
among_reader (r ∷ rs) k (inr there) = let rest = among_reader rs k there in (suc rest.0, rest.1, rest.2, rest.3)

among_taken : (rs : List Reader) (n p : ℕ) (r : Reader) (k : Known) → slice_get rs p ≡ Some r → p < n → k ≡ known_of r → IsAmong k (map known_of (take n rs))
among_taken [] n p r k found less same = absurd cc
among_taken (s ∷ rs) zero p r k found less same = absurd (omega (arith, less))
among_taken (s ∷ rs) (suc n) zero r k found less same = inl (same ∙ ap known_of (sym (same_Some s r found)))
among_taken (s ∷ rs) (suc n) (suc p) r k found less same = inr (among_taken rs n p r k found (omega (arith, less)) same)

module _ (literals : List Known) (readers : List Reader) (n : ℕ) where
  abbrev full : List Known
  full = literals ++ map known_of readers

  among_after : (k : Known) → IsAmong k literals ⊎ IsAmong k (map known_of (take n readers)) → IsAmong k (known_after literals readers n)
  among_after k (inl a) = among_front literals (map known_of (take n readers)) k a
  among_after k (inr b) = among_back literals (map known_of (take n readers)) k b

  -- a literal is no column
  in_front : (k : Known) → ((i : ℕ) (t : Ty) → k.expression ≡ column i t → ⊥) → IsAmong k full → IsAmong k (known_after literals readers n)
  in_front k none there = by_place (among_either literals (map known_of readers) k there)
    where
      by_place : IsAmong k literals ⊎ IsAmong k (map known_of readers) → IsAmong k (known_after literals readers n)
      by_place (inl a) = among_after k (inl a)
      by_place (inr b) = let found = among_reader readers k b in absurd (none found.1.column found.1.ty (ap (λ (x : Known). x.expression) found.3))

  column_after : (i : ℕ) (t : Ty) → IsWithin readers n (leaf.Column i t) → Knows full (column i t) → Knows (known_after literals readers n) (column i t)
  column_after i t within known = (known.0, by_place (among_either literals (map known_of readers) k known.1))
    where
      k : Known
      k = record { expression = column i t; operand = known.0 }

      by_place : IsAmong k literals ⊎ IsAmong k (map known_of readers) → IsAmong k (known_after literals readers n)
      by_place (inl a) = among_after k (inl a)
      by_place (inr b) =
          let found = among_reader readers k b in
          let same : column i t ≡ column found.1.column found.1.ty = ap (λ (x : Known). x.expression) found.3 in
          let at : found.1.column ≡ i = cc in
          among_after k (inr (among_taken readers n found.0 found.1 k found.2 (within found.0 found.1 found.2 at) found.3))

  leaf_after : (l : Leaf) → IsWithin readers n l → IsKnown full l → IsKnown (known_after literals readers n) l
  leaf_after (leaf.Column i t) within known = column_after i t within known
  leaf_after (leaf.Number v s) within known = (known.0, in_front (record { expression = stands_for (leaf.Number v s); operand = known.0 }) (λ i t same. cc) known.1)
  leaf_after (leaf.Date d) within known = (known.0, in_front (record { expression = stands_for (leaf.Date d); operand = known.0 }) (λ i t same. cc) known.1)
  leaf_after (leaf.Text x) within known = (known.0, in_front (record { expression = stands_for (leaf.Text x); operand = known.0 }) (λ i t same. cc) known.1)

  leaves_after : (ls : List Leaf) → AllByRecursion (IsWithin readers n) ls → AllByRecursion (IsKnown full) ls → AllByRecursion (IsKnown (known_after literals readers n)) ls
  leaves_after [] within known = tt
  leaves_after (l ∷ ls) within known = (leaf_after l within.0 known.0, leaves_after ls within.1 known.1)

  pub conjunct_known : (c : Cond) → AllByRecursion (IsWithin readers n) (leaves_within c) → TakeKnown full (condition_of c) → TakeKnown (known_after literals readers n) (condition_of c)
  conjunct_known c within known =
      take_known (known_after literals readers n) (condition_of c) (have_leaves (IsKnown (known_after literals readers n)) c
      (leaves_after (leaves_within c) within (leaves_within_have (IsKnown full) c (known_conditions full (condition_of c) known))))

  all_after : (P : Known → Type 0) → AllByRecursion P full → AllByRecursion P (known_after literals readers n)
  all_after P all = all-append P literals (map known_of (take n readers)) (all_front P literals (map known_of readers) all) (all_map_take P known_of n readers (all_back P literals (map known_of readers) all))

  pub served_after : (m : ℕ) → IsServed m full → IsServed m (known_after literals readers n)
  served_after m served = (
    all_after (λ (k : Known). IsBelow m k.operand.cell) served.0,
    all_after (λ (k : Known). (k.operand.kind ≡ kind_of k.expression) × (k.operand.scale ≡ scale_of k.expression)) served.1,
  )

-- ---- a front of what is known
known_taken : (n : ℕ) (bs : List Binding) → bindings.known_of (take n bs) ≡ take n (bindings.known_of bs)
known_taken zero bs = refl
known_taken (suc n) [] = refl
known_taken (suc n) (b ∷ bs) = ap (λ (ks : List Known). record { expression = bindings.named b.leaf; operand = b.operand } ∷ ks) (known_taken n bs)

bindings_long : (bs : List Binding) → length (bindings.known_of bs) ≡ length bs
bindings_long [] = refl
bindings_long (b ∷ bs) = ap suc (bindings_long bs)

pub known_front : (literals upto : ℕ) (readers : List Reader) (bs : List Binding) → AreOrdered literals readers bs → bindings.known_of (take (literals + upto) bs) ≡ known_after (take literals (bindings.known_of bs)) readers upto
known_front literals upto readers bs h =
    let low = take literals (bindings.known_of bs) in
    let many = h.many in
    let long : length low ≡ literals = take_long literals (bindings.known_of bs) (omega (arith, many, bindings_long bs)) in
    known_taken (literals + upto) bs
    ∙ (ap (take (literals + upto)) h.known_is
    ∙ (ap (λ (k : ℕ). take (k + upto) (low ++ map known_of readers)) (sym long)
    ∙ (take_behind low (map known_of readers) upto ∙ ap (λ (ks : List Known). low ++ ks) (take_mapped known_of upto readers))))

-- ---- how many are needed
any_of : (i : ℕ) (t : Ty) (ls : List Leaf) (k : ℕ) → slice_get ls k ≡ Some (leaf.Column i t) → list_any (names i) ls ≡ true
any_of i t [] k found = absurd cc
any_of i t (l ∷ ls) zero found = here l (same_Some l (leaf.Column i t) found)
  where
    here : (x : Leaf) → x ≡ leaf.Column i t → (names i x || list_any (names i) ls) ≡ true
    here x same = subst (λ (y : Leaf). (names i y || list_any (names i) ls) ≡ true) (sym same) (grind (arith))
any_of i t (l ∷ ls) (suc k) found = by_test (names i l) (any_of i t ls k found)
  where
    by_test : (b : Bool) → list_any (names i) ls ≡ true → (b || list_any (names i) ls) ≡ true
    by_test true h = refl
    by_test false h = h

pub all_within : (readers : List Reader) (ls : List Leaf) (n : ℕ) → ((k : ℕ) (r : Reader) → slice_get readers k ≡ Some r → list_any (names r.column) ls ≡ true → k < n) → AllByRecursion (IsWithin readers n) ls
all_within readers ls n below = all_of (IsWithin readers n) ls of_leaf
  where
    of_leaf : (k : ℕ) (l : Leaf) → slice_get ls k ≡ Some l → IsWithin readers n l
    of_leaf k (leaf.Column i t) found = λ p r there same. below p r there (subst (λ (j : ℕ). list_any (names j) ls ≡ true) (sym same) (any_of i t ls k found))
    of_leaf k (leaf.Number v s) found = tt
    of_leaf k (leaf.Date d) found = tt
    of_leaf k (leaf.Text t) found = tt

order : (k i : ℕ) → k < i + 1 → (k < i) ⊎ (k ≡ i)
order zero zero less = inr refl
order zero (suc i) less = inl (omega arith)
order (suc k) zero less = absurd (omega (arith, less))
order (suc k) (suc i) less = later (order k i (omega (arith, less)))
  where
    later : (k < i) ⊎ (k ≡ i) → (suc k < suc i) ⊎ (suc k ≡ suc i)
    later (inl a) = inl (omega (arith, a))
    later (inr b) = inr (ap suc b)

not_both : (b : Bool) → b ≡ true → b ≡ false → ⊥
not_both b one two = cc

-- the next one isn't named
pub below_next : (readers : List Reader) (i : ℕ) (ls : List Leaf) (old : ℕ) (d : Reader) (result : Bool) → ((k : ℕ) (r : Reader) → slice_get readers k ≡ Some r → k < i → list_any (names r.column) ls ≡ true → k < old) →
    result ≡ list_any (names (get_or readers i d).column) ls → result ≡ false → (k : ℕ) (r : Reader) → slice_get readers k ≡ Some r → k < i + 1 → list_any (names r.column) ls ≡ true → k < old
below_next readers i ls old d result below is none k r found less named = by_order (order k i less)
  where
    by_order : (k < i) ⊎ (k ≡ i) → k < old
    by_order (inl a) = below k r found a named
    by_order (inr b) =
        let it : get_or readers i d ≡ r = get_or_from_slice_get readers i r d (ap (slice_get readers) (sym b) ∙ found) in
        let no : list_any (names r.column) ls ≡ false = ap (λ (x : Reader). list_any (names x.column) ls) (sym it) ∙ (sym is ∙ none) in
        absurd (not_both (list_any (names r.column) ls) named no)

-- or is read already
pub below_done : (readers : List Reader) (i : ℕ) (ls : List Leaf) (old : ℕ) → ((k : ℕ) (r : Reader) → slice_get readers k ≡ Some r → k < i → list_any (names r.column) ls ≡ true → k < old) → i < old →
    (k : ℕ) (r : Reader) → slice_get readers k ≡ Some r → k < i + 1 → list_any (names r.column) ls ≡ true → k < old
below_done readers i ls old below less k r found at named = omega (arith, less, at)

pub needed_inside : (readers : List Reader) (k : ℕ) (r : Reader) (i : ℕ) → slice_get readers k ≡ Some r → length readers ≤ i → k < i
needed_inside readers k r i found past = omega (arith, slice_get_within readers k r found, past)
