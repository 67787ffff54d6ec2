-- What is kept as a text goes with a pattern, octet by octet, up to the pattern's next `%`.
use Rattle.std.proofs.Common.{◌≡◌, ℕ, ◌==◌, ◌||◌, ◌<◌, ◌≤◌, Bool, true, false, if◌then◌else◌, List, [], ◌∷◌, length, refl, sym, ap, ◌∙◌, subst, arith}
use Rattle.std.specs.Cmp.Derive.{one_truth}
use Rattle.std.proofs.lemmas.Bool.{false_from_ne_true, false≢true, eqb-true}
use Rattle.qw_types.specs.Like.{continues, behind, takes, onward, fits_pattern}
use Rattle.qw_types.specs.Inner.Like.{some_end}
use Rattle.qw_types.proofs.LikeEnds.{behind_inner, behind_outer, end_nil, end_self, end_trans, any_from, any_at}
use Rattle.qw_types.proofs.LikeSeeking.{seek_on, not_taken}

-- a pattern and a text, and what is left of them
pub record Goes (pattern text p t : List ℕ) : Type 0 where
  pub fit : fits_pattern pattern text ≡ fits_pattern p t
  pub later : some_end pattern text ≡ true → some_end p t ≡ true
  pub shorter : length p ≤ length pattern
  pub behind_it : length t ≤ length text

pub goes_first : (pattern text : List ℕ) → Goes pattern text pattern text
goes_first pattern text = record { fit = refl; later = λ h. h; shorter = omega arith; behind_it = omega arith }

pub behind_short : (cs : List ℕ) → length (behind cs) ≤ length cs
behind_short [] = omega arith
behind_short (c ∷ cs) = by (continues c) (behind_short cs)
  where
    by : (b : Bool) → length (behind cs) ≤ length cs → length (if b then behind cs else c ∷ cs) ≤ length (c ∷ cs)
    by true h = omega (arith, h)
    by false h = omega arith

onward_short : (p : ℕ) (cs : List ℕ) → length (onward p cs) ≤ length cs
onward_short p cs = by (p == 95)
  where
    by : (b : Bool) → length (if b then behind cs else cs) ≤ length cs
    by true = behind_short cs
    by false = omega arith

-- an octet is taken
taken_on : (pattern text : List ℕ) (w : ℕ) (ps : List ℕ) (c : ℕ) (cs : List ℕ) → (w == 37) ≡ false → takes w c ≡ true → Goes pattern text (w ∷ ps) (c ∷ cs) → Goes pattern text ps (onward w cs)
taken_on pattern text w ps c cs other took now =
    let on = seek_on (fits_pattern (w ∷ ps) (c ∷ cs) || some_end (w ∷ ps) (c ∷ cs)) (some_end (w ∷ ps) (c ∷ cs)) w ps c cs other took (record { split = refl; free = λ h. h }) in
    record {
      fit = now.fit ∙ rw (other, took) refl;
      later = λ h. on.free (now.later h);
      shorter = let h = now.shorter in omega (arith, h);
      behind_it = let h = now.behind_it in let k = onward_short w cs in omega (arith, h, k);
    }

pub goes_on : (pattern text p t : List ℕ) (w : ℕ) (ps : List ℕ) (c : ℕ) (cs : List ℕ) → p ≡ w ∷ ps → t ≡ c ∷ cs → (w == 37) ≡ false → takes w c ≡ true → Goes pattern text p t → Goes pattern text ps (onward w cs)
goes_on pattern text p t w ps c cs p_is t_is other took now =
    taken_on pattern text w ps c cs other took (subst (λ z. Goes pattern text (w ∷ ps) z) t_is (subst (λ z. Goes pattern text z t) p_is now))

run_covers : (ps t : List ℕ) → some_end (37 ∷ ps) t ≡ true → some_end ps t ≡ true
run_covers ps t h =
    let one = any_from (fits_pattern (37 ∷ ps)) t h in
    let two = any_from (fits_pattern ps) one.0 one.2 in
    any_at (fits_pattern ps) two.0 t (end_trans two.0 one.0 t two.1 one.1) two.2

pub whole_end : (pattern text : List ℕ) → fits_pattern pattern text ≡ true → some_end pattern text ≡ true
whole_end pattern text h = any_at (fits_pattern pattern) text text (end_self text) h

-- a `%` is met
run_met : (pattern text ps t : List ℕ) → Goes pattern text (37 ∷ ps) t → (fits_pattern pattern text ≡ some_end ps t) × (some_end pattern text ≡ some_end ps t) × (length ps < length pattern) × (length t ≤ length text)
run_met pattern text ps t now = (
  now.fit,
  one_truth (some_end pattern text) (some_end ps t) (λ h. run_covers ps t (now.later h)) (λ h. whole_end pattern text (now.fit ∙ h)),
  let h = now.shorter in omega (arith, h),
  now.behind_it,
)

pub goes_to_run : (pattern text p t : List ℕ) (w : ℕ) (ps : List ℕ) → p ≡ w ∷ ps → w ≡ 37 → Goes pattern text p t → (fits_pattern pattern text ≡ some_end ps t) × (some_end pattern text ≡ some_end ps t) × (length ps < length pattern) × (length t ≤ length text)
goes_to_run pattern text p t w ps p_is run now = run_met pattern text ps t (subst (λ z. Goes pattern text (z ∷ ps) t) run (subst (λ z. Goes pattern text z t) p_is now))

-- the pattern is at its end, and the text is, or isn't
pub goes_whole : (pattern text p t : List ℕ) → length p ≡ 0 → true ≡ (length t == 0) → Goes pattern text p t → fits_pattern pattern text ≡ true
goes_whole pattern text [] t none ended now = now.fit ∙ sym ended
goes_whole pattern text (w ∷ ps) t none ended now = absurd (omega (arith, none))

pub goes_more : (pattern text p t : List ℕ) → length p ≡ 0 → false ≡ (length t == 0) → Goes pattern text p t → fits_pattern pattern text ≡ false
goes_more pattern text [] t none more now = now.fit ∙ sym more
goes_more pattern text (w ∷ ps) t none more now = absurd (omega (arith, none))

-- an octet isn't taken
pub goes_apart : (pattern text p t : List ℕ) (w : ℕ) (ps : List ℕ) (c : ℕ) (cs : List ℕ) → p ≡ w ∷ ps → t ≡ c ∷ cs → (w == 37) ≡ false → takes w c ≡ false → Goes pattern text p t → fits_pattern pattern text ≡ false
goes_apart pattern text p t w ps c cs p_is t_is other apart now = now.fit ∙ rw (p_is, t_is) (not_taken w ps c cs other apart)

-- the text is at its end
none_left : (w : ℕ) (ps : List ℕ) → (w == 37) ≡ false → some_end (w ∷ ps) [] ≡ false
none_left w ps other = rw other refl

pub goes_short : (pattern text p t : List ℕ) (w : ℕ) (ps : List ℕ) → p ≡ w ∷ ps → length t ≡ 0 → (w == 37) ≡ false → Goes pattern text p t → some_end pattern text ≡ false
goes_short pattern text p (c ∷ cs) w ps p_is none other now = absurd (omega (arith, none))
goes_short pattern text p [] w ps p_is none other now =
    false_from_ne_true (some_end pattern text) (λ h. false≢true (sym (none_left w ps other) ∙ subst (λ z. some_end z [] ≡ true) p_is (now.later h)))

-- ---- the ends of a text, one after another
pub any_end : (pattern text : List ℕ) → true ≡ (length pattern == 0) → some_end pattern text ≡ true
any_end [] text none = any_at (fits_pattern []) [] text (end_nil text) refl
any_end (w ∷ ps) text none = absurd (omega (arith, eqb-true (length (w ∷ ps)) 0 (sym none)))

pub no_end : (pattern text : List ℕ) → fits_pattern pattern text ≡ false → length text ≡ 0 → some_end pattern text ≡ false
no_end pattern [] apart none = ap (λ z. z || false) apart
no_end pattern (c ∷ cs) apart none = absurd (omega (arith, none))

pub next_end : (pattern text : List ℕ) (c : ℕ) (cs : List ℕ) → text ≡ c ∷ cs → fits_pattern pattern text ≡ false → some_end pattern text ≡ some_end pattern cs
next_end pattern text c cs is apart = ap (some_end pattern) is ∙ ap (λ z. z || some_end pattern cs) (ap (fits_pattern pattern) (sym is) ∙ apart)

pub short_end : (pattern text : List ℕ) → some_end pattern text ≡ false → fits_pattern pattern text ≡ false
short_end pattern text none = false_from_ne_true (fits_pattern pattern text) (λ h. false≢true (sym none ∙ whole_end pattern text h))

-- ---- behind the octets that continue a character
pub behind_next : (text rest : List ℕ) (c : ℕ) (cs : List ℕ) → rest ≡ c ∷ cs → continues c ≡ true → behind text ≡ behind rest → behind text ≡ behind cs
behind_next text rest c cs is inner now = now ∙ ap behind is ∙ behind_inner c cs inner

pub behind_here : (text rest : List ℕ) (c : ℕ) (cs : List ℕ) → rest ≡ c ∷ cs → continues c ≡ false → behind text ≡ behind rest → rest ≡ behind text
behind_here text rest c cs is outer now = is ∙ sym (behind_outer c cs outer) ∙ ap behind (sym is) ∙ sym now

pub behind_none : (text rest : List ℕ) → length rest ≡ 0 → behind text ≡ behind rest → rest ≡ behind text
behind_none text [] none now = sym now
behind_none text (c ∷ cs) none now = absurd (omega (arith, none))
