-- The run of a local, by how many locals there are before each run.
use Rattle.std.proofs.Common.{◌≡◌, ℕ, zero, suc, ◌+◌, ◌-◌, ◌<◌, ◌≤◌, ◌^◌, min, List, [], ◌∷◌, ◌++◌, length, get_or, replicate, true, false, leb, Some, slice_get, refl, sym, ap, ◌∙◌, ⊎_elim, arith}
use Rattle.std.proofs.Math.Seq.{get_or-append_seam}
use Rattle.std.proofs.lemmas.Bool.{leb-true, leb-false, cases_eq}
use Rattle.std.proofs.lemmas.List.{get_or_append_left}
use Rattle.std.specs.Option.{option_map}
use Rattle.std.specs.List.Sorted.{IsNonDecreasingBy, IsPartitionPoint}
use Rattle.qw_module.specs.declared.module.Locals.{Locals}
use Rattle.qw_module.specs.Validity.{declared_types}
use Rattle.qw_module.specs.declared.instruction.ValType.{ValType}
use Rattle.qw_valid.specs.Inner.Runs.{locals_before, AreEnds}

in_run : (n : ℕ) (ty : ValType) (rest : List ValType) (i : ℕ) → i < n → slice_get (replicate n ty ++ rest) i ≡ Some ty
in_run zero ty rest i h = absurd (omega arith)
in_run (suc n) ty rest zero h = refl
in_run (suc n) ty rest (suc i) h = in_run n ty rest i (omega arith)

past_run : (n : ℕ) (ty : ValType) (rest : List ValType) (i : ℕ) → n ≤ i → slice_get (replicate n ty ++ rest) i ≡ slice_get rest (i - n)
past_run zero ty rest i h = let same : i ≡ i - 0 = omega arith in ap (slice_get rest) same
past_run (suc n) ty rest zero h = absurd (omega arith)
past_run (suc n) ty rest (suc i) h =
    let same : i - n ≡ suc i - suc n = omega arith in
    past_run n ty rest i (omega arith) ∙ ap (slice_get rest) same

-- one run more
pub before_more : (runs : List Locals) (k : ℕ) (d : Locals) → k < length runs → locals_before runs (suc k) ≡ locals_before runs k + (get_or runs k d).count
before_more [] k d h = absurd (omega arith)
before_more (run ∷ runs) zero d h = omega arith
before_more (run ∷ runs) (suc k) d h = omega (arith, before_more runs k d (omega arith))

before_rises : (runs : List Locals) (j k : ℕ) → j ≤ k → locals_before runs j ≤ locals_before runs k
before_rises runs zero k h = omega arith
before_rises [] (suc j) k h = omega arith
before_rises (run ∷ runs) (suc j) zero h = absurd (omega arith)
before_rises (run ∷ runs) (suc j) (suc k) h = omega (arith, before_rises runs j k (omega arith))

-- the local of an index stands in the run up to whose end there are more locals than the index, and before which there aren't
at_run : (runs : List Locals) (n i : ℕ) → locals_before runs n ≤ i → (n < length runs → i < locals_before runs (suc n)) →
    slice_get (declared_types runs) i ≡ option_map (λ (run : Locals). run.ty) (slice_get runs n)
at_run [] n i low high = refl
at_run (run ∷ runs) zero i low high = in_run run.count run.ty (declared_types runs) i (omega (arith, high (omega arith)))
at_run (run ∷ runs) (suc n) i low high =
    past_run run.count run.ty (declared_types runs) i (omega (arith, low)) ∙ at_run runs n (i - run.count) (omega (arith, low))
    (λ h. let more : i < run.count + locals_before runs (suc n) = high (omega arith) in omega (arith, more, low))

-- the ends rise
pub ends_rise : (runs : List Locals) (ends : List ℕ) → AreEnds runs ends → IsNonDecreasingBy (λ (end : ℕ). end) ends
ends_rise runs ends are i j d h within =
    omega (arith, are.each i d (omega (arith, are.count)), are.each j d (omega (arith, are.count)), before_rises runs (suc i) (suc j) (omega arith))

-- the run that a search finds
pub found_run : (runs : List Locals) (ends : List ℕ) (i n : ℕ) → AreEnds runs ends → i < 2 ^ 64 - 1 → n ≤ length ends →
    IsPartitionPoint (λ (end : ℕ). leb end i ≡ true) (λ (end : ℕ). leb end i ≡ false) ends n →
    slice_get (declared_types runs) i ≡ option_map (λ (run : Locals). run.ty) (slice_get runs n)
found_run runs ends i n are small within point = at_run runs n i (low n within (λ k d h. point.0 k d (omega arith) h)) high where
  low : (n : ℕ) → n ≤ length ends → ((k d : ℕ) → k < n → leb (get_or ends k d) i ≡ true) → locals_before runs n ≤ i
  low zero within passes = omega arith
  low (suc k) within passes =
      omega (arith, are.each k 0 (omega (arith, are.count)), leb-true _ _ (passes k 0 (omega arith)), small)

  high : n < length runs → i < locals_before runs (suc n)
  high h = omega (arith, are.each n 0 h, leb-false _ _ (point.1 n 0 (omega arith) (omega (arith, are.count))), small)

-- the end of one run more
pub end_more : (runs : List Locals) (n end next count : ℕ) (d : Locals) → n < length runs → end ≡ min (locals_before runs n) (2 ^ 64 - 1) → count ≡ (get_or runs n d).count →
    next ≡ min (end + count) (2 ^ 64 - 1) → next ≡ min (locals_before runs (suc n)) (2 ^ 64 - 1)
end_more runs n end next count d h is counted sum = omega (arith, before_more runs n d h, is, counted, sum)

pub ends_more : (runs : List Locals) (ends : List ℕ) (n next : ℕ) → length ends ≡ n → next ≡ min (locals_before runs (suc n)) (2 ^ 64 - 1) →
    ((k d : ℕ) → k < n → get_or ends k d ≡ min (locals_before runs (suc k)) (2 ^ 64 - 1)) →
    (k d : ℕ) → k < n + 1 → get_or (ends ++ next ∷ []) k d ≡ min (locals_before runs (suc k)) (2 ^ 64 - 1)
ends_more runs ends n next long is each k d h = ⊎_elim
    (λ (e : k ≡ n).
    let last : get_or (ends ++ next ∷ []) k d ≡ next = rw (e, ← long) (get_or-append_seam ends next [] d) in
    last ∙ is ∙ ap (λ (j : ℕ). min (locals_before runs (suc j)) (2 ^ 64 - 1)) (sym e))
    (λ ne. get_or_append_left ends (next ∷ []) d k (omega arith) ∙ each k d (omega arith))
    (cases_eq k n)
