-- Where a run of free pages lies, how it is found flag by flag, and where a request is placed by it.
use Rattle.std.proofs.Common.{◌≡◌, ◌≢◌, ℕ, zero, suc, ◌+◌, ◌-◌, ◌<◌, ◌≤◌, ◌&&◌, Bool, true, false, List, [], ◌∷◌, length, drop, Some, None, slice_get, unwrap_or, refl, sym, ap, ◌∙◌, subst, arith}
use Rattle.std.specs.Prelude.{if◌then◌else◌}
use Rattle.std.proofs.lemmas.Bool.{false≢true}
use Rattle.std.proofs.lemmas.List.{drop-drop, length-drop}
use Rattle.std.proofs.lemmas.Option.{none-some, same_Some, slice_get_within}
use Rattle.qw_linear.specs.Memory.{pages_of}
use Rattle.qw_map.specs.Free.{begins_run, lowest_run, place_among}
use Rattle.qw_map.proofs.FreeFacts.{place-free}

-- a run lies among the flags
pub run-within : (n p : ℕ) (flags : List Bool) → 1 ≤ n → lowest_run 0 n flags ≡ Some p → p + n ≤ length flags
run-within zero p flags some found = absurd (omega (arith, some))
run-within (suc n) p flags some found =
    let last = slice_get_within flags (p + n) true (place-free (suc n) p n flags found (omega arith)) in
    omega (arith, last)

-- a request for some pages is placed there, and one for none at the memory's next pages
pub placed-some : (memory : List ℕ) (free : List Bool) (n : ℕ) → n ≢ 0 → place_among memory free n ≡ unwrap_or (lowest_run 0 n free) (pages_of memory)
placed-some memory free zero some = absurd (some refl)
placed-some memory free (suc n) some = refl

pub placed-none : (memory : List ℕ) (free : List Bool) (n : ℕ) → n ≡ 0 → place_among memory free n ≡ pages_of memory
placed-none memory free n none = rw none refl

-- ---- a run that begins
get-nil : (k : ℕ) → slice_get {X = Bool} [] k ≡ None
get-nil zero = refl
get-nil (suc k) = refl

get-drop : (n k : ℕ) (flags : List Bool) → slice_get (drop n flags) k ≡ slice_get flags (n + k)
get-drop zero k flags = let same : k ≡ 0 + k = omega arith in ap (slice_get flags) same
get-drop (suc n) k [] = get-nil k ∙ sym (get-nil (suc n + k))
get-drop (suc n) k (flag ∷ flags) = get-drop n k flags ∙ (let same : suc n + k ≡ suc (n + k) = omega arith in rw same refl)

-- with one flag more
begins-more : (n : ℕ) (flags : List Bool) → begins_run n flags ≡ true → slice_get flags n ≡ Some true → begins_run (suc n) flags ≡ true
begins-more zero [] begins next = absurd (none-some true next)
begins-more zero (flag ∷ flags) begins next = rw (same_Some flag true next) refl
begins-more (suc n) [] begins next = absurd (false≢true begins)
begins-more (suc n) (true ∷ flags) begins next = begins-more n flags begins next
begins-more (suc n) (false ∷ flags) begins next = absurd (false≢true begins)

-- none does where a flag of its is false, or isn't there
begins-not : (n k : ℕ) (flags : List Bool) → k < n → slice_get flags k ≡ Some false → begins_run n flags ≡ false
begins-not zero k flags less taken = absurd (omega (arith, less))
begins-not (suc n) k [] less taken = refl
begins-not (suc n) zero (flag ∷ flags) less taken = rw (same_Some flag false taken) refl
begins-not (suc n) (suc k) (true ∷ flags) less taken = begins-not n k flags (omega (arith, less)) taken
begins-not (suc n) (suc k) (false ∷ flags) less taken = refl

begins-short : (n : ℕ) (flags : List Bool) → length flags < n → begins_run n flags ≡ false
begins-short zero flags less = absurd (omega (arith, less))
begins-short (suc n) [] less = refl
begins-short (suc n) (true ∷ flags) less = begins-short n flags (omega (arith, less))
begins-short (suc n) (false ∷ flags) less = refl

-- ---- the lowest run
lowest-here : (at n : ℕ) (flags : List Bool) → 1 ≤ n → begins_run n flags ≡ true → lowest_run at n flags ≡ Some at
lowest-here at zero flags some begins = absurd (omega (arith, some))
lowest-here at (suc n) [] some begins = absurd (false≢true begins)
lowest-here at (suc n) (flag ∷ flags) some begins = rw begins refl

-- lies behind a flag that is false and that each run before it would meet
lowest-behind : (k at n : ℕ) (flags : List Bool) → k < n → slice_get flags k ≡ Some false → lowest_run at n flags ≡ lowest_run (at + k + 1) n (drop (k + 1) flags)
lowest-behind k at n [] less taken = absurd (none-some false (sym (get-nil k) ∙ taken))
lowest-behind zero at n (flag ∷ flags) less taken =
    let same : at + 0 + 1 ≡ at + 1 = omega arith in
    rw (begins-not n 0 (flag ∷ flags) less taken, same) refl
lowest-behind (suc k) at n (flag ∷ flags) less taken =
    let place : at + 1 + k + 1 ≡ at + suc k + 1 = omega arith in
    let skips : drop (suc k + 1) (flag ∷ flags) ≡ drop (k + 1) flags = let same : suc k + 1 ≡ suc (k + 1) = omega arith in rw same refl in
    rw (begins-not n (suc k) (flag ∷ flags) less taken) (lowest-behind k (at + 1) n flags (omega (arith, less)) taken
    ∙ ap (λ (p : ℕ). lowest_run p n (drop (k + 1) flags)) place ∙ ap (lowest_run (at + suc k + 1) n) (sym skips))

lowest-short : (at n : ℕ) (flags : List Bool) → length flags < n → lowest_run at n flags ≡ None
lowest-short at n [] less = refl
lowest-short at n (flag ∷ flags) less = rw (begins-short n (flag ∷ flags) less) (lowest-short (at + 1) n flags (omega (arith, less)))

-- ---- flag by flag
-- Before a flag so many are true, fewer than are looked for, and a run begins with them or later.
pub record IsSeeking (flags : List Bool) (n at count : ℕ) : Type 0 where
  pub from : ℕ
  pub ends : from + count ≡ at
  pub fewer : count < n
  pub begins : begins_run count (drop from flags) ≡ true
  pub same : lowest_run 0 n flags ≡ lowest_run from n (drop from flags)

pub seeks-first : (flags : List Bool) (n : ℕ) → 1 ≤ n → IsSeeking flags n 0 0
seeks-first flags n some = record { from = 0; ends = refl; fewer = some; begins = refl; same = refl }

module _ (flags : List Bool) (n at count : ℕ) (seeks : IsSeeking flags n at count) where
  next-is : (flag : Bool) → slice_get flags at ≡ Some flag → slice_get (drop seeks.from flags) count ≡ Some flag
  next-is flag found = get-drop seeks.from count flags ∙ ap (slice_get flags) seeks.ends ∙ found

  begins-next : slice_get flags at ≡ Some true → begins_run (count + 1) (drop seeks.from flags) ≡ true
  begins-next found =
      let one : count + 1 ≡ suc count = omega arith in
      rw one (begins-more count (drop seeks.from flags) seeks.begins (next-is true found))

  pub seeks-on : slice_get flags at ≡ Some true → count + 1 ≢ n → IsSeeking flags n (at + 1) (count + 1)
  seeks-on found differs = record {
    from = seeks.from;
    ends = omega (arith, seeks.ends);
    fewer = omega (arith, seeks.fewer, differs);
    begins = begins-next found;
    same = seeks.same;
  }

  pub seeks-found : slice_get flags at ≡ Some true → count + 1 ≡ n → lowest_run 0 n flags ≡ Some (at + 1 - n)
  seeks-found found is =
      let here : begins_run n (drop seeks.from flags) ≡ true = subst (λ (k : ℕ). begins_run k (drop seeks.from flags) ≡ true) is (begins-next found) in
      let place : seeks.from ≡ at + 1 - n = omega (arith, seeks.ends, is) in
      seeks.same ∙ lowest-here seeks.from n (drop seeks.from flags) (omega (arith, is)) here ∙ ap Some place

  pub seeks-anew : slice_get flags at ≡ Some false → IsSeeking flags n (at + 1) 0
  seeks-anew found =
      let place : seeks.from + count + 1 ≡ at + 1 = omega (arith, seeks.ends) in
      let behind : seeks.from + (count + 1) ≡ at + 1 = omega (arith, seeks.ends) in
      record {
        from = at + 1;
        ends = omega arith;
        fewer = omega (arith, seeks.fewer);
        begins = refl;
        same = seeks.same ∙ lowest-behind count seeks.from n (drop seeks.from flags) seeks.fewer (next-is false found)
            ∙ ap (λ (p : ℕ). lowest_run p n (drop (count + 1) (drop seeks.from flags))) place
            ∙ ap (lowest_run (at + 1) n) (drop-drop (count + 1) seeks.from flags ∙ ap (λ (k : ℕ). drop k flags) behind);
      }

  pub seeks-none : length flags ≤ at → lowest_run 0 n flags ≡ None
  seeks-none past =
      let left = length-drop seeks.from flags in
      seeks.same ∙ lowest-short seeks.from n (drop seeks.from flags) (omega (arith, left, past, seeks.ends, seeks.fewer))
