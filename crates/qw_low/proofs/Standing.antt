-- What stands for a state of LowState, and what others leave of it.
use Rattle.std.proofs.Common.{◌≡◌, ℕ, zero, suc, ◌+◌, ◌-◌, ◌*◌, ◌≤◌, true, List, [], ◌∷◌, ◌++◌, length, map, Some, slice_get, slice_set, get_or, drop, refl, sym, ap, ◌∙◌, subst, arith}
use Rattle.std.specs.List.{AllByRecursion}
use Rattle.std.proofs.lemmas.Option.{same_Some, none-some}
use Rattle.qw_linear.specs.Memory.{page, most_pages}
use Rattle.qw_map.specs.Areas.{Area, World, Others, SameIn, are_covered}
use Rattle.qw_map.proofs.AccessLemmas.{covered-first, covered-before, covered-after, kept-same, number-kept}
use Rattle.qw_map.proofs.RunRules.{IsKept}
use Rattle.qw_low.specs.State.{Part, Column, Own, Value, LowState, size_of}
use Rattle.qw_low.specs.Places.{area_of, Means, AreMeant, Fits, StandsFor}

pub all-at : (P : Area → Type 0) (areas : List Area) (k : ℕ) (a : Area) → AllByRecursion P areas → slice_get areas k ≡ Some a → P a
all-at P [] k a all found = absurd (none-some a found)
all-at P (b ∷ areas) zero a all found = subst P (same_Some b a found) all.0
all-at P (b ∷ areas) (suc k) a all found = all-at P areas k a all.1 found

pub area-kept : (w : World) (before after : List ℕ) → Others w before after → (p : Part) (a : Area) → area_of w p ≡ Some a → SameIn before after a
area-kept w before after others (Column k) a is = all-at (SameIn before after) w.mapped k a others.mapped_kept is
area-kept w before after others (Own k) a is = all-at (SameIn before after) w.own k a others.own_kept is

-- others keep it: the only place where they are met
pub stable : (w : World) (s : LowState) → IsKept w (StandsFor w s)
stable w s = record {
  keeps = λ before after others h.
      let longer : length after ≡ length before + others.grown * page = others.length_is in
      let room : length after + (w.limit - w.held) * page ≤ most_pages * page = others.room in
      record {
        fits = h.fits;
        whole = omega (arith, h.whole);
        room = omega arith;
        some = omega (arith, h.some);
        octets = others.octets;
        inside = λ p a is. omega (arith, h.inside p a is);
        cells = λ p offset width v known.
            let there = h.cells p offset width v known in
            record {
              area = there.area;
              is = there.is;
              inside = there.inside;
              means = subst (λ (n : ℕ). Means w v n)
                  (sym (number-kept before after (there.area ∷ [])
                  (kept-same before after (there.area ∷ []) (area-kept w before after others p there.area there.is, tt)) (there.area.start + offset) width
                  (covered-first there.area [] (there.area.start + offset) width (omega arith) (omega (arith, there.inside)))))
                  there.means;
            };
      };
}

-- an access in a part is covered by the areas
pub lies-at : (areas : List Area) (k : ℕ) (a : Area) (offset width : ℕ) → slice_get areas k ≡ Some a → offset + width ≤ a.size →
    are_covered areas (a.start + offset) width ≡ true
lies-at [] k a offset width found inside = absurd (none-some a found)
lies-at (b ∷ areas) zero a offset width found inside = subst (λ (x : Area). are_covered (x ∷ areas) (a.start + offset) width ≡ true)
    (sym (same_Some b a found)) (covered-first a areas (a.start + offset) width (omega arith) (omega arith))
lies-at (b ∷ areas) (suc k) a offset width found inside =
    covered-after (b ∷ []) areas (a.start + offset) width (lies-at areas k a offset width found inside)

pub lies : (w : World) (p : Part) (a : Area) (offset width : ℕ) → area_of w p ≡ Some a → offset + width ≤ a.size → are_covered (w.mapped ++ w.own) (a.start + offset) width ≡ true
lies w (Column k) a offset width is inside = covered-before w.mapped w.own (a.start + offset) width (lies-at w.mapped k a offset width is inside)
lies w (Own k) a offset width is inside = covered-after w.mapped w.own (a.start + offset) width (lies-at w.own k a offset width is inside)

-- a part's area
sized : (areas : List Area) (sizes : List ℕ) → map (λ (a : Area). a.size) areas ≡ sizes → (k n : ℕ) → slice_get sizes k ≡ Some n →
    (a : Area) × (slice_get areas k ≡ Some a) × (a.size ≡ n)
sized [] [] same k n found = absurd (none-some n found)
sized [] (size ∷ sizes) same k n found = cc
sized (a ∷ areas) [] same k n found = cc
sized (a ∷ areas) (size ∷ sizes) same zero n found = (a, refl, ap (λ (l : List ℕ). get_or l 0 0) same ∙ same_Some size n found)
sized (a ∷ areas) (size ∷ sizes) same (suc k) n found = sized areas sizes (ap (λ (l : List ℕ). drop 1 l) same) k n found

pub area_of-sized : (w : World) (s : LowState) → Fits w s → (p : Part) (n : ℕ) → size_of s p ≡ Some n → (a : Area) × (area_of w p ≡ Some a) × (a.size ≡ n)
area_of-sized w s fits (Column k) n found = sized w.mapped s.columns fits.columns k n found
area_of-sized w s fits (Own k) n found = sized w.own s.own fits.own k n found

-- ---- locals
pub length-meant : (w : World) (vs : List Value) (xs : List ℕ) → AreMeant w vs xs → length xs ≡ length vs
length-meant w [] [] are = refl
length-meant w (v ∷ vs) (x ∷ xs) are = ap suc (length-meant w vs xs are.1)
length-meant w [] (x ∷ xs) are = absurd are
length-meant w (v ∷ vs) [] are = absurd are

pub get-meant : (w : World) (vs : List Value) (xs : List ℕ) → AreMeant w vs xs → (i : ℕ) (v : Value) → slice_get vs i ≡ Some v → (x : ℕ) × (slice_get xs i ≡ Some x) × Means w v x
get-meant w [] xs are i v found = absurd (none-some v found)
get-meant w (u ∷ vs) [] are i v found = absurd are
get-meant w (u ∷ vs) (x ∷ xs) are zero v found = (x, refl, subst (λ (t : Value). Means w t x) (same_Some u v found) are.0)
get-meant w (u ∷ vs) (x ∷ xs) are (suc i) v found = get-meant w vs xs are.1 i v found

pub set-meant : (w : World) (vs : List Value) (xs : List ℕ) → AreMeant w vs xs → (i : ℕ) (v : Value) (x : ℕ) → Means w v x → AreMeant w (slice_set vs i v) (slice_set xs i x)
set-meant w [] [] are i v x means = tt
set-meant w [] (y ∷ xs) are i v x means = absurd are
set-meant w (u ∷ vs) [] are i v x means = absurd are
set-meant w (u ∷ vs) (y ∷ xs) are zero v x means = (means, are.1)
set-meant w (u ∷ vs) (y ∷ xs) are (suc i) v x means = (are.0, set-meant w vs xs are.1 i v x means)
