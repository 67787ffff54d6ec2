-- A search that remembers the last `%`: once one is reached, no other end need be tried for an earlier one.
use Rattle.std.proofs.Common.{◌≡◌, ℕ, ◌==◌, ◌||◌, ◌&&◌, Bool, true, false, List, [], ◌∷◌, refl, sym, ap, ◌∙◌, subst}
use Rattle.std.specs.List.{list_any}
use Rattle.std.proofs.lemmas.Bool.{or_right, false_from_ne_true, false≢true}
use Rattle.qw_types.specs.Like.{ends, takes, onward, fits_pattern}
use Rattle.qw_types.proofs.LikeEnds.{IsEnd, end_nil, end_trans, onward_end, any_from, any_at}

-- whether a later end than the whole text fits_pattern
abbrev pub later_fits : (ps t : List ℕ) → Bool
later_fits ps [] = false
later_fits ps (c ∷ cs) = list_any (fits_pattern ps) (ends cs)

-- The answer is that what is left fits_pattern, or that a later end fits_pattern what stood behind the last `%`; and if one does, so does some end of what
-- is left.
pub record Seeks (answer later : Bool) (ps t : List ℕ) : Type 0 where
  pub split : answer ≡ (fits_pattern ps t || later)
  pub free : later ≡ true → list_any (fits_pattern ps) (ends t) ≡ true

pub ends_split : (ps t : List ℕ) → list_any (fits_pattern ps) (ends t) ≡ (fits_pattern ps t || later_fits ps t)
ends_split ps [] = refl
ends_split ps (c ∷ cs) = refl

pub absorbed : (a b : Bool) → (b ≡ true → a ≡ true) → (a || b) ≡ a
absorbed true b h = refl
absorbed false true h = sym (h refl)
absorbed false false h = refl

or_nothing : (a : Bool) → a ≡ (a || false)
or_nothing true = refl
or_nothing false = refl

later_frees : (ps t : List ℕ) → later_fits ps t ≡ true → list_any (fits_pattern ps) (ends t) ≡ true
later_frees ps t h = ends_split ps t ∙ or_right (fits_pattern ps t) (later_fits ps t) h

pub seek_start : (ps t : List ℕ) → Seeks (fits_pattern ps t) false ps t
seek_start ps t = record { split = or_nothing (fits_pattern ps t); free = λ h. absurd (false≢true h) }

-- a `%` is met: it is the one to remember
pub seek_star : (answer later : Bool) (ps t : List ℕ) → Seeks answer later (37 ∷ ps) t → Seeks answer (later_fits ps t) ps t
seek_star answer later ps t now = record {
  split = now.split ∙ absorbed (list_any (fits_pattern ps) (ends t)) later covers ∙ ends_split ps t;
  free = later_frees ps t;
}
  where
    covers : later ≡ true → list_any (fits_pattern ps) (ends t) ≡ true
    covers h =
        let one = any_from (fits_pattern (37 ∷ ps)) t (now.free h) in
        let two = any_from (fits_pattern ps) one.0 one.2 in
        any_at (fits_pattern ps) two.0 t (end_trans two.0 one.0 t two.1 one.1) two.2

pub and_both : (a b : Bool) → (a && b) ≡ true → (a ≡ true) × (b ≡ true)
and_both true b h = (refl, h)
and_both false b h = absurd (false≢true h)

-- an octet is taken
pub seek_on : (answer later : Bool) (p : ℕ) (ps : List ℕ) (c : ℕ) (cs : List ℕ) → (p == 37) ≡ false → takes p c ≡ true → Seeks answer later (p ∷ ps) (c ∷ cs) → Seeks answer later ps (onward p cs)
seek_on answer later p ps c cs other took now = record {
  split = now.split ∙ ap (λ z. z || later) taken;
  free = λ h. let one = any_from (fits_pattern (p ∷ ps)) (c ∷ cs) (now.free h) in goes one.0 one.1 one.2;
}
  where
    taken : fits_pattern (p ∷ ps) (c ∷ cs) ≡ fits_pattern ps (onward p cs)
    taken = rw (other, took) refl

    goes : (u : List ℕ) → IsEnd u (c ∷ cs) → fits_pattern (p ∷ ps) u ≡ true → list_any (fits_pattern ps) (ends (onward p cs)) ≡ true
    goes [] is h = absurd (false≢true (rw other at h))
    goes (d ∷ ds) is h =
        let parts = and_both (takes p d) (fits_pattern ps (onward p ds)) (rw other at h) in
        any_at (fits_pattern ps) (onward p ds) (onward p cs) (onward_end p c cs d ds parts.0 is) parts.1

-- what is left doesn't fit
pub seek_failed : (answer later : Bool) (ps t : List ℕ) → fits_pattern ps t ≡ false → Seeks answer later ps t → answer ≡ later
seek_failed answer later ps t apart now = now.split ∙ ap (λ z. z || later) apart

pub not_taken : (p : ℕ) (ps : List ℕ) (c : ℕ) (cs : List ℕ) → (p == 37) ≡ false → takes p c ≡ false → fits_pattern (p ∷ ps) (c ∷ cs) ≡ false
not_taken p ps c cs other apart = rw (other, apart) refl

-- no text is left
pub seek_dead : (answer later : Bool) (p : ℕ) (ps : List ℕ) → (p == 37) ≡ false → Seeks answer later (p ∷ ps) [] → answer ≡ false
seek_dead answer later p ps other now = seek_failed answer later (p ∷ ps) [] none now ∙ false_from_ne_true later never
  where
    none : fits_pattern (p ∷ ps) [] ≡ false
    none = rw other refl

    never : later ≡ true → ⊥
    never h = let one = any_from (fits_pattern (p ∷ ps)) [] (now.free h) in false≢true (sym none ∙ subst (λ z. fits_pattern (p ∷ ps) z ≡ true) one.1 one.2)

-- the next end for the last `%`
pub seek_again : (answer : Bool) (ps : List ℕ) (c : ℕ) (cs : List ℕ) → answer ≡ later_fits ps (c ∷ cs) → Seeks answer (later_fits ps cs) ps cs
seek_again answer ps c cs is = record { split = is ∙ ends_split ps cs; free = later_frees ps cs }

-- pattern and text are at their ends; and a `%` ends the pattern
pub seek_done : (answer later : Bool) → Seeks answer later [] [] → answer ≡ true
seek_done answer later now = now.split

pub seek_rest : (answer : Bool) (c : ℕ) (cs : List ℕ) → answer ≡ later_fits [] (c ∷ cs) → answer ≡ true
seek_rest answer c cs is = is ∙ any_at (fits_pattern []) [] cs (end_nil cs) refl
