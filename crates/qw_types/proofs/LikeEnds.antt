-- The ends of a text, as LIKE goes through them.
use Rattle.std.proofs.Common.{◌≡◌, ℕ, ◌==◌, ◌⊎◌, inl, inr, ◌||◌, not, Bool, true, false, if◌then◌else◌, List, [], ◌∷◌, refl, sym, ap, subst, ⊎_elim}
use Rattle.std.specs.List.{list_any}
use Rattle.std.proofs.lemmas.Bool.{cases_Bool, or_left, or_right, false≢true}
use Rattle.qw_types.specs.Like.{ends, continues, behind, takes, onward}

abbrev pub IsEnd : (u t : List ℕ) → Type 0
IsEnd u [] = u ≡ []
IsEnd u (c ∷ cs) = (u ≡ c ∷ cs) ⊎ IsEnd u cs

pub end_self : (t : List ℕ) → IsEnd t t
end_self [] = refl
end_self (c ∷ cs) = inl refl

pub end_nil : (t : List ℕ) → IsEnd [] t
end_nil [] = refl
end_nil (c ∷ cs) = inr (end_nil cs)

pub end_trans : (u t w : List ℕ) → IsEnd u t → IsEnd t w → IsEnd u w
end_trans u t [] a b = subst (λ z. IsEnd u z) b a
end_trans u t (c ∷ cs) a (inl same) = subst (λ z. IsEnd u z) same a
end_trans u t (c ∷ cs) a (inr h) = inr (end_trans u t cs a h)

pub end_tail : (c : ℕ) (cs t : List ℕ) → IsEnd (c ∷ cs) t → IsEnd cs t
end_tail c cs t h = end_trans cs (c ∷ cs) t (inr (end_self cs)) h

pub behind_inner : (c : ℕ) (cs : List ℕ) → continues c ≡ true → behind (c ∷ cs) ≡ behind cs
behind_inner c cs is = rw is refl

pub behind_outer : (c : ℕ) (cs : List ℕ) → continues c ≡ false → behind (c ∷ cs) ≡ c ∷ cs
behind_outer c cs other = rw other refl

pub end_behind : (cs : List ℕ) → IsEnd (behind cs) cs
end_behind [] = refl
end_behind (c ∷ cs) = ⊎_elim
    (λ (yes : continues c ≡ true). subst (λ z. IsEnd z (c ∷ cs)) (sym (behind_inner c cs yes)) (inr (end_behind cs)))
    (λ other. subst (λ z. IsEnd z (c ∷ cs)) (sym (behind_outer c cs other)) (inl refl))
    (cases_Bool (continues c))

-- an end that begins a character stays one
pub end_kept : (c : ℕ) (cs t : List ℕ) → continues c ≡ false → IsEnd (c ∷ cs) t → IsEnd (c ∷ cs) (behind t)
end_kept c cs [] outer h = h
end_kept c cs (d ∷ ds) outer (inl same) = subst (λ z. IsEnd (c ∷ cs) (behind z)) same (subst (λ z. IsEnd (c ∷ cs) z) (sym (behind_outer c cs outer)) (inl refl))
end_kept c cs (d ∷ ds) outer (inr h) = ⊎_elim
    (λ (yes : continues d ≡ true). subst (λ z. IsEnd (c ∷ cs) z) (sym (behind_inner d ds yes)) (end_kept c cs ds outer h))
    (λ other. subst (λ z. IsEnd (c ∷ cs) z) (sym (behind_outer d ds other)) (inr h))
    (cases_Bool (continues d))

heads : (c d : ℕ) (cs ds : List ℕ) → c ∷ cs ≡ d ∷ ds → cs ≡ ds
heads c d cs ds e = ap rest e
  where
    rest : List ℕ → List ℕ
    rest [] = []
    rest (x ∷ xs) = xs

outer_from : (b : Bool) → not b ≡ true → b ≡ false
outer_from true h = absurd (false≢true h)
outer_from false h = refl

-- what is taken at a later end leads to a later end
pub onward_end : (p c : ℕ) (cs : List ℕ) (d : ℕ) (ds : List ℕ) → takes p d ≡ true → IsEnd (d ∷ ds) (c ∷ cs) → IsEnd (onward p ds) (onward p cs)
onward_end p c cs d ds took (inl same) = subst (λ z. IsEnd (onward p ds) (onward p z)) (heads d c ds cs same) (end_self (onward p ds))
onward_end p c cs d ds took (inr h) = by (p == 95) took
  where
    by : (b : Bool) → (if b then not (continues d) else (p == d)) ≡ true → IsEnd (if b then behind ds else ds) (if b then behind cs else cs)
    by true outer = end_trans (behind ds) ds (behind cs) (end_behind ds) (end_tail d ds (behind cs) (end_kept d ds cs (outer_from (continues d) outer) h))
    by false any = end_tail d ds cs h

-- ---- what holds of some end
or_false : (b : Bool) → (b || false) ≡ true → b ≡ true
or_false true h = refl
or_false false h = h

pub any_from : (f : List ℕ → Bool) (t : List ℕ) → list_any f (ends t) ≡ true → (u : List ℕ) × IsEnd u t × (f u ≡ true)
any_from f [] h = ([], refl, or_false (f []) h)
any_from f (c ∷ cs) h = ⊎_elim
    (λ (yes : f (c ∷ cs) ≡ true). (c ∷ cs, inl refl, yes))
    (λ other. let found = any_from f cs (rw other at h) in (found.0, inr found.1, found.2))
    (cases_Bool (f (c ∷ cs)))

pub any_at : (f : List ℕ → Bool) (u t : List ℕ) → IsEnd u t → f u ≡ true → list_any f (ends t) ≡ true
any_at f u [] is h = or_left (f []) false (subst (λ z. f z ≡ true) is h)
any_at f u (c ∷ cs) (inl same) h = or_left (f (c ∷ cs)) (list_any f (ends cs)) (subst (λ z. f z ≡ true) same h)
any_at f u (c ∷ cs) (inr is) h = or_right (f (c ∷ cs)) (list_any f (ends cs)) (any_at f u cs is h)
