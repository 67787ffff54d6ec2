-- How many turns a search with one `%` remembered takes: at most one for each place of the text with each of the pattern.
use Rattle.std.proofs.Common.{◌≡◌, ℕ, suc, ◌+◌, ◌*◌, ◌<◌, ◌≤◌, ◌==◌, Bool, true, false, not, if◌then◌else◌, List, [], ◌∷◌, length, refl, sym, mul-suc, subst, ⊎_elim, arith}
use Rattle.std.proofs.lemmas.Bool.{cases_Bool, eqb-true, false≢true}
use Rattle.qw_types.specs.Like.{continues, behind, takes}

-- the octets that continue a character, up to the first that doesn't
abbrev pub inside : List ℕ → ℕ
inside [] = 0
inside (c ∷ cs) = if continues c then suc (inside cs) else 0

-- where a text is tried, if it may stand within a character that a `_` took, and how many turns lead there before those of the try
abbrev pub settled : (within : Bool) → List ℕ → List ℕ
settled within t = if within then behind t else t

abbrev pub there_on : (within : Bool) → (rest : List ℕ → ℕ) → List ℕ → ℕ
there_on within rest t = (if within then inside t else 0) + rest (settled within t)

-- The turns of a try: up to the end of the pattern, its next `%`, the text's end, or the first octet that isn't taken.
abbrev pub one_turn : (p : ℕ) → (rest : List ℕ → ℕ) → List ℕ → ℕ
one_turn p rest [] = 1
one_turn p rest (c ∷ cs) = if takes p c then suc (there_on (p == 95) rest cs) else 1

abbrev pub tries : (ps t : List ℕ) → ℕ
tries [] t = 1
tries (p ∷ ps) t = if p == 37 then 1 else one_turn p (tries ps) t

-- those of the tries at all ends of a text, and at all but the whole one
abbrev pub all_tries : (ps t : List ℕ) → ℕ
all_tries ps [] = tries ps []
all_tries ps (c ∷ cs) = tries ps (c ∷ cs) + all_tries ps cs

abbrev pub later_tries : (ps t : List ℕ) → ℕ
later_tries ps [] = 0
later_tries ps (c ∷ cs) = all_tries ps cs

-- those that are kept for what stands behind the next `%`, of so many places each
abbrev pub reserve : (places : ℕ) → (ps : List ℕ) → ℕ
reserve m [] = 0
reserve m (p ∷ ps) = if p == 37 then m * suc (length ps) else reserve m ps

pub all_split : (ps t : List ℕ) → all_tries ps t ≡ tries ps t + later_tries ps t
all_split ps [] = omega arith
all_split ps (c ∷ cs) = refl

one_turn_some : (p : ℕ) (rest : List ℕ → ℕ) (t : List ℕ) → 1 ≤ one_turn p rest t
one_turn_some p rest [] = omega arith
one_turn_some p rest (c ∷ cs) = by (takes p c)
  where
    by : (b : Bool) → 1 ≤ (if b then suc (there_on (p == 95) rest cs) else 1)
    by true = omega arith
    by false = omega arith

pub tries_some : (ps t : List ℕ) → 1 ≤ tries ps t
tries_some [] t = omega arith
tries_some (p ∷ ps) t = by (p == 37)
  where
    by : (b : Bool) → 1 ≤ (if b then 1 else one_turn p (tries ps) t)
    by true = omega arith
    by false = one_turn_some p (tries ps) t

-- ---- a literal octet: the tries at each end, and those that go on from there at the later ones
literal_tries : (p : ℕ) (ps : List ℕ) (c : ℕ) (cs : List ℕ) → (p == 37) ≡ false → (p == 95) ≡ false → tries (p ∷ ps) (c ∷ cs) ≤ suc (tries ps cs)
literal_tries p ps c cs star one = rw star (by (takes p c) (p == 95) one)
  where
    by : (b within : Bool) → within ≡ false → (if b then suc (there_on within (tries ps) cs) else 1) ≤ suc (tries ps cs)
    by true true h = absurd (false≢true (sym h))
    by true false h = omega arith
    by false within h = omega arith

literal : (p : ℕ) (ps : List ℕ) → (p == 37) ≡ false → (p == 95) ≡ false → (t : List ℕ) → all_tries (p ∷ ps) t ≤ length t + 1 + later_tries ps t
literal p ps star one [] = rw star (omega arith)
literal p ps star one (c ∷ cs) =
    let here : tries (p ∷ ps) (c ∷ cs) ≤ suc (tries ps cs) = literal_tries p ps c cs star one in
    let later : all_tries (p ∷ ps) cs ≤ length cs + 1 + later_tries ps cs = literal p ps star one cs in
    omega (arith, here, later, all_split ps cs)

-- ---- a `_`: the octets that continue its character have no try of what follows
skipped : (ps cs : List ℕ) → inside cs + all_tries ps (behind cs) ≤ all_tries ps cs
skipped ps [] = omega arith
skipped ps (c ∷ cs) = by (continues c) (skipped ps cs) (tries_some ps (c ∷ cs))
  where
    by : (b : Bool) → inside cs + all_tries ps (behind cs) ≤ all_tries ps cs → 1 ≤ tries ps (c ∷ cs) →
        (if b then suc (inside cs) else 0) + all_tries ps (if b then behind cs else c ∷ cs) ≤ tries ps (c ∷ cs) + all_tries ps cs
    by true later some = omega (arith, later, some)
    by false later some = omega arith

single : (ps t : List ℕ) → all_tries (95 ∷ ps) t ≤ length t + 1 + later_tries ps (behind t)
single ps [] = omega arith
single ps (c ∷ cs) = by (continues c) (single ps cs) (all_split ps (behind cs)) (skipped ps cs)
  where
    by : (b : Bool) → all_tries (95 ∷ ps) cs ≤ length cs + 1 + later_tries ps (behind cs) → all_tries ps (behind cs) ≡ tries ps (behind cs) + later_tries ps (behind cs) →
        inside cs + all_tries ps (behind cs) ≤ all_tries ps cs →
        (if not b then suc (inside cs + tries ps (behind cs)) else 1) + all_tries (95 ∷ ps) cs ≤ suc (length cs) + 1 + later_tries ps (if b then behind cs else c ∷ cs)
    by true later split skip = omega (arith, later)
    by false later split skip = omega (arith, later, split, skip)

-- ---- all of them
later_all : (ps t : List ℕ) → later_tries ps t ≤ all_tries ps t
later_all ps t = let split = all_split ps t in omega (arith, split)

behind_all : (ps t : List ℕ) → later_tries ps (behind t) ≤ all_tries ps t
behind_all ps t = let skip = skipped ps t in let later = later_all ps (behind t) in omega (arith, skip, later)

ones : (t : List ℕ) → all_tries [] t ≡ length t + 1
ones [] = refl
ones (c ∷ cs) = let h = ones cs in omega (arith, h)

stars : (ps t : List ℕ) → all_tries (37 ∷ ps) t ≡ length t + 1
stars ps [] = refl
stars ps (c ∷ cs) = let h = stars ps cs in omega (arith, h)

-- at most one turn for each place of the text with each of the pattern
pub few_tries : (m : ℕ) (ps t : List ℕ) → length t < m → all_tries ps t + reserve m ps ≤ m * suc (length ps)
few_tries m [] t short = let h = ones t in omega (arith, h, short)
few_tries m (p ∷ ps) t short = ⊎_elim
    (λ (star : (p == 37) ≡ true). at_star p star)
    (λ star. ⊎_elim (at_single p (few_tries m ps t short)) (at_literal p star (few_tries m ps t short)) (cases_Bool (p == 95)))
    (cases_Bool (p == 37))
  where
    Few : ℕ → Type 0
    Few q = all_tries (q ∷ ps) t + reserve m (q ∷ ps) ≤ m * suc (suc (length ps))

    more_is : m * suc (suc (length ps)) ≡ m * suc (length ps) + m
    more_is = mul-suc m (suc (length ps))

    at_star : (q : ℕ) → (q == 37) ≡ true → Few q
    at_star q star = subst Few (sym (eqb-true q 37 star)) (let h = stars ps t in omega (arith, h, short, more_is))

    at_single : (q : ℕ) → all_tries ps t + reserve m ps ≤ m * suc (length ps) → (q == 95) ≡ true → Few q
    at_single q rest one = subst Few (sym (eqb-true q 95 one)) (let h = single ps t in let l = behind_all ps t in omega (arith, h, l, rest, short, more_is))

    at_literal : (q : ℕ) → (q == 37) ≡ false → all_tries ps t + reserve m ps ≤ m * suc (length ps) → (q == 95) ≡ false → Few q
    at_literal q star rest one = let h = literal q ps star one t in let l = later_all ps t in
        let kept : reserve m (q ∷ ps) ≡ reserve m ps = rw star refl in omega (arith, h, l, rest, kept, short, more_is)
