-- What holds between a list and itself in any other order, where it holds of a list whose first two elements change places.
use Rattle.std.proofs.Common.{ℕ, zero, suc, ◌<◌, List, [], ◌∷◌, length, slice_set, arith}
use Rattle.std.specs.Prelude.{slice_index_or}
use Rattle.std.specs.List.{swap}
use Rattle.std.specs.List.Sorted.{IsPermutation}
use Rattle.std.proofs.lemmas.List.Sorted.{IsPermutation-keeps}

module _ {X : Type 0} (R : List X → List X → Type 0)
    (same : (xs : List X) → R xs xs)
    (turned : (xs ys : List X) → R xs ys → R ys xs)
    (chain : (xs ys zs : List X) → R xs ys → R ys zs → R xs zs)
    (more : (x : X) (xs ys : List X) → R xs ys → R (x ∷ xs) (x ∷ ys))
    (two : (x y : X) (xs : List X) → R (x ∷ y ∷ xs) (y ∷ x ∷ xs)) where
  abbrev without : List X → ℕ → List X
  without [] j = []
  without (x ∷ xs) zero = xs
  without (x ∷ xs) (suc j) = x ∷ without xs j

  to_front : (x y : X) (ys zs : List X) → R ys (y ∷ zs) → R (x ∷ ys) (y ∷ x ∷ zs)
  to_front x y ys zs h = chain (x ∷ ys) (x ∷ y ∷ zs) (y ∷ x ∷ zs) (more x ys (y ∷ zs) h) (two x y zs)

  taken : (xs : List X) (j : ℕ) (d : X) → j < length xs → R xs (slice_index_or xs j d ∷ without xs j)
  taken [] j d low = absurd (omega arith)
  taken (x ∷ xs) zero d low = same (x ∷ xs)
  taken (x ∷ xs) (suc j) d low = to_front x (slice_index_or xs j d) xs (without xs j) (taken xs j d (omega arith))

  put : (xs : List X) (j : ℕ) (y : X) → j < length xs → R (slice_set xs j y) (y ∷ without xs j)
  put [] j y low = absurd (omega arith)
  put (x ∷ xs) zero y low = same (y ∷ xs)
  put (x ∷ xs) (suc j) y low = to_front x y (slice_set xs j y) (without xs j) (put xs j y (omega arith))

  exchanged : (xs : List X) (j : ℕ) (d x : X) → j < length xs → R (x ∷ xs) (slice_index_or xs j d ∷ slice_set xs j x)
  exchanged xs j d x low =
      let y : X = slice_index_or xs j d in
      let rest : List X = without xs j in
      chain (x ∷ xs) (y ∷ x ∷ rest) (y ∷ slice_set xs j x) (to_front x y xs rest (taken xs j d low))
      (more y (x ∷ rest) (slice_set xs j x) (turned (slice_set xs j x) (x ∷ rest) (put xs j x low)))

  swapped : (d : X) (xs : List X) (i j : ℕ) → i < length xs → j < length xs → R xs (slice_set (slice_set xs i (slice_index_or xs j d)) j (slice_index_or xs i d))
  swapped d [] i j low high = absurd (omega arith)
  swapped d (x ∷ xs) zero zero low high = same (x ∷ xs)
  swapped d (x ∷ xs) zero (suc j) low high = exchanged xs j d x (omega arith)
  swapped d (x ∷ xs) (suc i) zero low high = exchanged xs i d x (omega arith)
  swapped d (x ∷ xs) (suc i) (suc j) low high =
      more x xs (slice_set (slice_set xs i (slice_index_or xs j d)) j (slice_index_or xs i d)) (swapped d xs i j (omega arith) (omega arith))

  step : (l : List X) (i j : ℕ) → i < length l → j < length l → R l (swap l i j)
  step [] i j low high = absurd (omega arith)
  step (d ∷ ys) i j low high = swapped d (d ∷ ys) i j low high

  pub permuted : (xs ys : List X) → IsPermutation xs ys → R xs ys
  permuted xs ys h = IsPermutation-keeps xs (R xs) (same xs) (λ l i j low high so. chain xs l (swap l i j) so (step l i j low high)) ys h
