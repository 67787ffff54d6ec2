-- Things whose names differ, each from all others: told from their order after a sort by the names, where each is below the next.
use Rattle.std.proofs.Common.{◌≡◌, ◌≢◌, ℕ, ◌+◌, ◌<◌, ◌≤◌, ◌↔◌, ◌⊎◌, inl, inr, List, [], ◌∷◌, length, map, get_or, Bool, true, false, IsTrue, refl, sym, ap, ◌∙◌, ⊎_elim, arith}
use Rattle.std.proofs.Common.{Ordering, Less, Equal, Greater}
use Rattle.std.specs.Cmp.Lexicographic.{slice_cmp}
use Rattle.std.specs.Ordering.{nat_cmp, is_lt, ordering_reverse}
use Rattle.std.specs.List.{AllPairs, AllAdjacentBelow, IsAllAdjacentAnswer, swap}
use Rattle.std.specs.List.Sorted.{IsPermutation, IsSortedBy}
use Rattle.std.proofs.lemmas.Bool.{cases_eq, cases_lt, false≢true}
use Rattle.std.proofs.lemmas.Cmp.{nat_list_cmp_total}
use Rattle.std.proofs.lemmas.List.{get_or-map, length-map}
use Rattle.std.proofs.lemmas.List.Edits.{Swapped, swapped_from_swap}
use Rattle.std.proofs.lemmas.List.Sorted.{IsPermutation-keeps, IsPermutation-sym, IsPermutation-swap, length_permutation, ranks_by, sorted_far}
use Rattle.std.proofs.lemmas.Map.Lookups.{exact_bytes}

-- two things have other names
abbrev pub AreApart : {X : Type 0} → (X → List ℕ) → X → X → Type 0
AreApart name one other = name one ≢ name other

-- where a thing comes from when two change places
abbrev Moved : (a b m from : ℕ) → Type 0
Moved a b m from = ((m ≡ a) × (from ≡ b)) ⊎ (((m ≡ b) × (from ≡ a)) ⊎ ((m ≢ a) × (m ≢ b) × (from ≡ m)))

moved_within : (a b m from n : ℕ) → a < n → b < n → m < n → Moved a b m from → from < n
moved_within a b m from n ha hb hm (inl (e, is)) = omega arith
moved_within a b m from n ha hb hm (inr (inl (e, is))) = omega arith
moved_within a b m from n ha hb hm (inr (inr (x, y, is))) = omega arith

moved_apart : (a b m n s t : ℕ) → m ≢ n → Moved a b m s → Moved a b n t → s ≢ t
moved_apart a b m n s t other (inl (e, is)) (inl (e', is')) = λ same. omega arith
moved_apart a b m n s t other (inl (e, is)) (inr (inl (e', is'))) = λ same. omega arith
moved_apart a b m n s t other (inl (e, is)) (inr (inr (x', y', is'))) = λ same. omega arith
moved_apart a b m n s t other (inr (inl (e, is))) (inl (e', is')) = λ same. omega arith
moved_apart a b m n s t other (inr (inl (e, is))) (inr (inl (e', is'))) = λ same. omega arith
moved_apart a b m n s t other (inr (inl (e, is))) (inr (inr (x', y', is'))) = λ same. omega arith
moved_apart a b m n s t other (inr (inr (x, y, is))) (inl (e', is')) = λ same. omega arith
moved_apart a b m n s t other (inr (inr (x, y, is))) (inr (inl (e', is'))) = λ same. omega arith
moved_apart a b m n s t other (inr (inr (x, y, is))) (inr (inr (x', y', is'))) = λ same. omega arith

module _ {X : Type 0} (name : X → List ℕ) where
  -- one is below another in the order of names
  abbrev pub below : X → X → Bool
  below x y = is_lt (slice_cmp nat_cmp (name x) (name y))

  abbrev pub Rise : List X → Type 0
  Rise xs = AllAdjacentBelow (λ (x y : X). true ≡ below x y) xs (length xs)

  -- ---- all differ in one order as in another
  apart : (xs : List X) → AllPairs (AreApart name) xs → (i j : ℕ) (d : X) → i ≢ j → i < length xs → j < length xs → AreApart name (get_or xs i d) (get_or xs j d)
  apart xs all i j d other hi hj =
      ⊎_elim (λ (less : i < j). all i j d less hj) (λ (more : j ≤ i). λ same. all j i d (omega arith) hi (sym same)) (cases_lt i j)

  came_from : (f g : ℕ → X) (a b : ℕ) → Swapped f g a b → (m : ℕ) → (from : ℕ) × (g m ≡ f from) × Moved a b m from
  came_from f g a b (first, second, others) m = ⊎_elim
      (λ (e : m ≡ a). (b, ap g e ∙ first, inl (e, refl)))
      (λ (not_a : m ≢ a). ⊎_elim
      (λ (e : m ≡ b). (a, ap g e ∙ second, inr (inl (e, refl))))
      (λ (not_b : m ≢ b). (m, others m not_a not_b, inr (inr (not_a, not_b, refl))))
      (cases_eq m b))
      (cases_eq m a)

  keep : (xs sorted : List X) (a b m n : ℕ) (d : X) → length sorted ≡ length xs → a < length xs → b < length xs → m < n → n < length sorted → AllPairs (AreApart name) xs →
      (from : ℕ) × (get_or sorted m d ≡ get_or xs from d) × Moved a b m from → (from : ℕ) × (get_or sorted n d ≡ get_or xs from d) × Moved a b n from →
      AreApart name (get_or sorted m d) (get_or sorted n d)
  keep xs sorted a b m n d long ha hb less within all (s, s_is, s_moved) (t, t_is, t_moved) same =
      apart xs all s t d (moved_apart a b m n s t (omega arith) s_moved t_moved)
      (moved_within a b m s (length xs) ha hb (omega arith) s_moved) (moved_within a b n t (length xs) ha hb (omega arith) t_moved)
      (ap name (sym s_is) ∙ same ∙ ap name t_is)

  swap_keeps : (xs : List X) (a b : ℕ) → a < length xs → b < length xs → AllPairs (AreApart name) xs → AllPairs (AreApart name) (swap xs a b)
  swap_keeps xs a b ha hb all m n d less within =
      let swapped = swapped_from_swap xs (swap xs a b) a b d ha hb refl in
      let f : ℕ → X = λ i. get_or xs i d in
      let g : ℕ → X = λ i. get_or (swap xs a b) i d in
      keep xs (swap xs a b) a b m n d (length_permutation xs (swap xs a b) (IsPermutation-swap xs (swap xs a b) a b ha hb refl)) ha hb less within all
      (came_from f g a b swapped m) (came_from f g a b swapped n)

  differ_permuted : (xs sorted : List X) → IsPermutation xs sorted → AllPairs (AreApart name) xs → AllPairs (AreApart name) sorted
  differ_permuted xs sorted moves all = IsPermutation-keeps xs (AllPairs (AreApart name)) all swap_keeps sorted moves

  -- ---- each is below the next exactly where all differ
  strict_where : (o : Ordering) (x y : X) → o ≡ slice_cmp nat_cmp (name x) (name y) → below y x ≡ false → AreApart name x y → is_lt o ≡ true
  strict_where Less x y is not_below differ = refl
  strict_where Equal x y is not_below differ = absurd (differ (exact_bytes (name x) (name y) (sym is)))
  strict_where Greater x y is not_below differ =
      let turned : slice_cmp nat_cmp (name y) (name x) ≡ ordering_reverse (slice_cmp nat_cmp (name x) (name y)) = nat_list_cmp_total.antisymm (name y) (name x) in
      let less : slice_cmp nat_cmp (name y) (name x) ≡ Less = turned ∙ ap ordering_reverse (sym is) in
      absurd (false≢true (sym not_below ∙ ap is_lt less))

  rise_from_differ : (xs : List X) → IsSortedBy below xs → AllPairs (AreApart name) xs → Rise xs
  rise_from_differ xs up all k d within =
      sym (strict_where (slice_cmp nat_cmp (name (get_or xs k d)) (name (get_or xs (k + 1) d))) (get_or xs k d) (get_or xs (k + 1) d) refl (up k d (omega arith) within)
      (all k (k + 1) d (omega arith) within))

  differ_from_rise : (xs : List X) → IsSortedBy below xs → Rise xs → AllPairs (AreApart name) xs
  differ_from_rise xs up rise i j d less within same =
      let far : below (get_or xs j d) (get_or xs (i + 1) d) ≡ false = sorted_far below (ranks_by nat_list_cmp_total name) xs up (i + 1) j d (omega arith) within in
      let near : true ≡ below (get_or xs i d) (get_or xs (i + 1) d) = rise i d (omega arith) in
      let alike : below (get_or xs i d) (get_or xs (i + 1) d) ≡ below (get_or xs j d) (get_or xs (i + 1) d) =
      ap (λ (text : List ℕ). is_lt (slice_cmp nat_cmp text (name (get_or xs (i + 1) d)))) same in
      false≢true (sym far ∙ sym alike ∙ sym near)

  -- ---- what the comparison of each with the next tells
  not_rising : (sorted : List X) (k : ℕ) → k + 1 < length sorted → ((d : X) → false ≡ below (get_or sorted k d) (get_or sorted (k + 1) d)) → Rise sorted → ⊥
  not_rising [] k within falls rise = omega arith
  not_rising (d ∷ sorted) k within falls rise = false≢true (falls d ∙ sym (rise k d within))

  pub differ_told : (xs sorted : List X) (r : Bool) → IsPermutation xs sorted → IsSortedBy below sorted → IsAllAdjacentAnswer (λ (x y : X) (b : Bool). b ≡ below x y) sorted r → IsTrue r ↔ AllPairs (AreApart name) xs
  differ_told xs sorted true moves up rise = (λ _. differ_permuted sorted xs (IsPermutation-sym xs sorted moves) (differ_from_rise sorted up rise), λ _. refl)
  differ_told xs sorted false moves up (k, within, falls) =
      (λ e. absurd (false≢true e), λ all. absurd (not_rising sorted k within falls (rise_from_differ sorted up (differ_permuted xs sorted moves all))))

-- ---- things of the same names

module _ {X Y : Type 0} (f : X → List ℕ) (g : Y → List ℕ) where
  pub apart_each : (xs : List X) (ys : List Y) → length ys ≡ length xs → ((k : ℕ) (y : Y) (x : X) → k < length xs → g (get_or ys k y) ≡ f (get_or xs k x)) →
      AllPairs (AreApart f) xs → AllPairs (AreApart g) ys
  apart_each [] ys long same all i j y less within e = absurd (omega arith)
  apart_each (x ∷ xs) ys long same all i j y less within e = all i j x less (omega arith) (sym (same i y x (omega arith)) ∙ e ∙ same j y x (omega arith))

  pub apart_alike : (xs : List X) (ys : List Y) → map f xs ≡ map g ys → AllPairs (AreApart f) xs → AllPairs (AreApart g) ys
  apart_alike xs ys same =
      let long : length ys ≡ length xs = sym (length-map ys g) ∙ sym (ap length same) ∙ length-map xs f in
      apart_each xs ys long
      (λ k y x within. sym (get_or-map g ys k y [] (omega arith)) ∙ ap (λ (zs : List (List ℕ)). get_or zs k []) (sym same) ∙ get_or-map f xs k x [] within)
