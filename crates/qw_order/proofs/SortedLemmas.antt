-- Of rows one list alone is sorted by keys, and it is there.
use Rattle.std.proofs.Common.{◌≡◌, ◌∙◌, ◌+◌, ℕ, zero, suc, Bool, true, false, cond, not, ◌&&◌, List, [], ◌∷◌, refl, sym, ap, filter, true≢false, IsPermutation, arith, get_or, zero-le}
use native.Mathlib.Numerals.{unary_clauses}
use Rattle.std.proofs.lemmas.List.Sorted.{IsPermutation-cons, IsPermutation-middle, IsPermutation-refl, IsPermutation-trans}
use Rattle.std.specs.Cmp.{IsStrictWeakOrder}
use Rattle.std.specs.List.Sorted.{IsSortedBy, IsStableBy, ties}
use Rattle.std.specs.Ordering.{is_lt}
use Rattle.qw_types.specs.declared.value.Val.{Val}
use Rattle.qw_order.specs.Order.{AreSorted, key_order}
use Rattle.qw_order.specs.declared.sort_key.SortKey.{SortKey}
use Rattle.qw_order.proofs.KeyOrderLemmas.{key_order_ranks}

module _ {X : Type 0} (lt : X → X → Bool) where
  -- an element before all that aren't less
  abbrev placed : X → List X → List X
  placed a [] = a ∷ []
  placed a (b ∷ xs) = cond (lt b a) (b ∷ placed a xs) (a ∷ b ∷ xs)

  abbrev sorted : List X → List X
  sorted [] = []
  sorted (a ∷ xs) = placed a (sorted xs)

  -- the head of a list isn't less than what stands before it
  abbrev Follows : X → List X → Type 0
  Follows a [] = Unit {0}
  Follows a (b ∷ xs) = lt b a ≡ false

  abbrev Rises : List X → Type 0
  Rises [] = Unit {0}
  Rises (a ∷ xs) = Follows a xs × Rises xs

  behind : (a : X) (xs : List X) (k : ℕ) (d : X) → get_or (a ∷ xs) (suc k + 1) d ≡ get_or xs (k + 1) d
  behind a xs k d = simp unary_clauses refl

  rises_from_sorted : (xs : List X) → IsSortedBy lt xs → Rises xs
  rises_from_sorted [] h = tt
  rises_from_sorted (a ∷ []) h = (tt, tt)
  rises_from_sorted (a ∷ b ∷ xs) h = (h 0 a (omega arith) (omega arith), rises_from_sorted (b ∷ xs) (λ k d l g. ap (λ next. lt next (get_or (b ∷ xs) k d)) (sym (behind a (b ∷ xs) k d)) ∙ h (suc k) d zero-le (omega (arith, g))))

  sorted_from_rises : (xs : List X) → Rises xs → IsSortedBy lt xs
  sorted_from_rises [] h k d l g = absurd (omega (arith, g))
  sorted_from_rises (a ∷ []) h k d l g = absurd (omega (arith, g))
  sorted_from_rises (a ∷ b ∷ xs) h zero d l g = h.0
  sorted_from_rises (a ∷ b ∷ xs) h (suc k) d l g = ap (λ next. lt next (get_or (b ∷ xs) k d)) (behind a (b ∷ xs) k d) ∙ sorted_from_rises (b ∷ xs) h.1 k d zero-le (omega (arith, g))

  arranged_at : (t : Bool) (a b : X) (xs : List X) → IsPermutation (a ∷ xs) (placed a xs) → IsPermutation (a ∷ b ∷ xs) (cond t (b ∷ placed a xs) (a ∷ b ∷ xs))
  arranged_at true a b xs h = IsPermutation-trans _ _ _ (IsPermutation-middle (a ∷ []) b xs) (IsPermutation-cons b _ _ h)
  arranged_at false a b xs h = IsPermutation-refl _

  placed_arranged : (a : X) (xs : List X) → IsPermutation (a ∷ xs) (placed a xs)
  placed_arranged a [] = IsPermutation-refl _
  placed_arranged a (b ∷ xs) = arranged_at (lt b a) a b xs (placed_arranged a xs)

  arranged : (xs : List X) → IsPermutation xs (sorted xs)
  arranged [] = IsPermutation-refl _
  arranged (a ∷ xs) = IsPermutation-trans _ _ _ (IsPermutation-cons a _ _ (arranged xs)) (placed_arranged a (sorted xs))

  module _ (order : IsStrictWeakOrder lt) where
    neither : (s t : Bool) → (not s && not t) ≡ true → (s ≡ false) × (t ≡ false)
    neither false false h = (refl, refl)
    neither false true h = absurd (true≢false (sym h))
    neither true t h = absurd (true≢false (sym h))

    -- two of which one is less don't both tie with a third
    apart : (a b x : X) → lt b a ≡ true → ties lt x a ≡ true → ties lt x b ≡ true → ⊥
    apart a b x less h k =
        let one = neither (lt x a) (lt a x) h in
        let other = neither (lt x b) (lt b x) k in
        true≢false (sym less ∙ order.chain b x a other.1 one.0)

    exchanged : (s t : Bool) (a b : X) (xs : List X) → (s ≡ true → t ≡ true → ⊥)
        → cond t (b ∷ cond s (a ∷ xs) xs) (cond s (a ∷ xs) xs) ≡ cond s (a ∷ cond t (b ∷ xs) xs) (cond t (b ∷ xs) xs)
    exchanged false t a b xs h = refl
    exchanged true false a b xs h = refl
    exchanged true true a b xs h = absurd (h refl refl)

    stable_at : (t : Bool) (x a b : X) (xs : List X) → lt b a ≡ t → filter (ties lt x) (placed a xs) ≡ filter (ties lt x) (a ∷ xs)
        → filter (ties lt x) (cond t (b ∷ placed a xs) (a ∷ b ∷ xs)) ≡ filter (ties lt x) (a ∷ b ∷ xs)
    stable_at true x a b xs less h =
        ap (λ found. cond (ties lt x b) (b ∷ found) found) h ∙ exchanged (ties lt x a) (ties lt x b) a b (filter (ties lt x) xs) (apart a b x less)
    stable_at false x a b xs less h = refl

    placed_stable : (x a : X) (xs : List X) → filter (ties lt x) (placed a xs) ≡ filter (ties lt x) (a ∷ xs)
    placed_stable x a [] = refl
    placed_stable x a (b ∷ xs) = stable_at (lt b a) x a b xs refl (placed_stable x a xs)

    stable : (xs : List X) → IsStableBy lt xs (sorted xs)
    stable [] x = refl
    stable (a ∷ xs) x = placed_stable x a (sorted xs) ∙ ap (λ found. cond (ties lt x a) (a ∷ found) found) (stable xs x)

    follows_at : (t : Bool) (a b c : X) (xs : List X) → lt a c ≡ false → lt b c ≡ false → Follows c (cond t (b ∷ placed a xs) (a ∷ b ∷ xs))
    follows_at true a b c xs h k = k
    follows_at false a b c xs h k = h

    placed_follows : (a c : X) (xs : List X) → lt a c ≡ false → Follows c xs → Follows c (placed a xs)
    placed_follows a c [] h k = h
    placed_follows a c (b ∷ xs) h k = follows_at (lt b a) a b c xs h k

    rises_at : (t : Bool) (a b : X) (xs : List X) → lt b a ≡ t → Rises (b ∷ xs) → Rises (placed a xs) → Rises (cond t (b ∷ placed a xs) (a ∷ b ∷ xs))
    rises_at true a b xs less h k = (placed_follows a b xs (order.one_way b a less) h.0, k)
    rises_at false a b xs less h k = (less, h)

    placed_rises : (a : X) (xs : List X) → Rises xs → Rises (placed a xs)
    placed_rises a [] h = (tt, tt)
    placed_rises a (b ∷ xs) h = rises_at (lt b a) a b xs refl h (placed_rises a xs h.1)

    rises : (xs : List X) → Rises (sorted xs)
    rises [] = tt
    rises (a ∷ xs) = placed_rises a (sorted xs) (rises xs)

    not_less_itself : (t : Bool) (a : X) → lt a a ≡ t → lt a a ≡ false
    not_less_itself true a h = order.one_way a a h
    not_less_itself false a h = h

    ties_itself : (a : X) → ties lt a a ≡ true
    ties_itself a = ap (λ t. not t && not t) (not_less_itself (lt a a) a refl)

    both_ways : (a b : X) → lt a b ≡ false → lt b a ≡ false → ties lt a b ≡ true
    both_ways a b h k = ap (λ t. not t && not (lt b a)) h ∙ ap (λ t. true && not t) k

    -- where something of a rising list ties with z, z isn't less than its first element
    least_at : (t : Bool) (y z w : X) (ys ws : List X) → ties lt z y ≡ t → ((k : filter (ties lt z) ys ≡ w ∷ ws) → lt z y ≡ false)
        → cond t (y ∷ filter (ties lt z) ys) (filter (ties lt z) ys) ≡ w ∷ ws → lt z y ≡ false
    least_at true y z w ys ws h rest k = (neither (lt z y) (lt y z) h).0
    least_at false y z w ys ws h rest k = rest k

    first_is_least : (y : X) (ys : List X) (z w : X) (ws : List X) → Rises (y ∷ ys) → filter (ties lt z) (y ∷ ys) ≡ w ∷ ws → lt z y ≡ false
    first_is_least y [] z w ws h k = least_at (ties lt z y) y z w [] ws refl (λ e. absurd cc) k
    first_is_least y (c ∷ ys) z w ws h k =
        least_at (ties lt z y) y z w (c ∷ ys) ws refl (λ e. order.chain z c y (first_is_least c ys z w ws h.1 e) h.0) k

    found : (t : Bool) (a : X) (xs : List X) → t ≡ true → cond t (a ∷ xs) xs ≡ a ∷ xs
    found true a xs h = refl
    found false a xs h = absurd (true≢false (sym h))

    same_head : (x y : X) (xs ys : List X) → (x ∷ xs) ≡ (y ∷ ys) → x ≡ y
    same_head x y xs ys h = cc

    same_rest : (t : Bool) (x : X) (xs ys : List X) → cond t (x ∷ xs) xs ≡ cond t (x ∷ ys) ys → xs ≡ ys
    same_rest true x xs ys h = cc
    same_rest false x xs ys h = h

    one : (xs ys : List X) → Rises xs → Rises ys → ((z : X) → filter (ties lt z) xs ≡ filter (ties lt z) ys) → xs ≡ ys
    one [] [] h k same = refl
    one [] (y ∷ ys) h k same =
        let e : filter (ties lt y) (y ∷ ys) ≡ y ∷ filter (ties lt y) ys = found (ties lt y y) y _ (ties_itself y) in
        let s : [] ≡ filter (ties lt y) (y ∷ ys) = same y in
        absurd cc
    one (x ∷ xs) [] h k same =
        let e : filter (ties lt x) (x ∷ xs) ≡ x ∷ filter (ties lt x) xs = found (ties lt x x) x _ (ties_itself x) in
        let s : filter (ties lt x) (x ∷ xs) ≡ [] = same x in
        absurd cc
    one (x ∷ xs) (y ∷ ys) h k same =
        let at_x : filter (ties lt x) (x ∷ xs) ≡ x ∷ filter (ties lt x) xs = found (ties lt x x) x _ (ties_itself x) in
        let at_y : filter (ties lt y) (y ∷ ys) ≡ y ∷ filter (ties lt y) ys = found (ties lt y y) y _ (ties_itself y) in
        let up : lt x y ≡ false = first_is_least y ys x x _ k (sym (same x) ∙ at_x) in
        let down : lt y x ≡ false = first_is_least x xs y y _ h (same y ∙ at_y) in
        let other : filter (ties lt x) (y ∷ ys) ≡ y ∷ filter (ties lt x) ys = found (ties lt x y) y _ (both_ways x y up down) in
        let head : x ≡ y = same_head x y _ _ (sym at_x ∙ same x ∙ other) in
        let rest : xs ≡ ys = one xs ys h.1 k.1 (λ z. same_rest (ties lt z x) x _ _ (same z ∙ ap (λ a. filter (ties lt z) (a ∷ ys)) (sym head))) in
        ap (λ a. a ∷ xs) head ∙ ap (λ rows. y ∷ rows) rest

abbrev test : List SortKey → List Val → List Val → Bool
test keys row other = is_lt (key_order keys row other)

-- rows, sorted one after another
abbrev pub sorted_by : List SortKey → List (List Val) → List (List Val)
sorted_by keys rows = sorted (test keys) rows

pub there : (keys : List SortKey) (rows : List (List Val)) → AreSorted keys rows (sorted_by keys rows)
there keys rows = record {
  arranged = arranged (test keys) rows;
  ordered = sorted_from_rises (test keys) _ (rises (test keys) (key_order_ranks keys) rows);
  stable = stable (test keys) (key_order_ranks keys) rows;
}

pub only : (keys : List SortKey) (rows some other : List (List Val)) → AreSorted keys rows some → AreSorted keys rows other → some ≡ other
only keys rows some other h k =
    one (test keys) (key_order_ranks keys) some other (rises_from_sorted (test keys) some h.ordered) (rises_from_sorted (test keys) other k.ordered)
    (λ row. h.stable row ∙ sym (k.stable row))

pub keyless : (rows : List (List Val)) → AreSorted [] rows rows
keyless rows = record { arranged = IsPermutation-refl rows; ordered = λ k d l h. refl; stable = λ row. refl }
