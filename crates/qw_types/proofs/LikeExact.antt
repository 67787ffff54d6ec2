-- LIKE by octets is LIKE by characters.
use Rattle.std.proofs.Common.{◌≡◌, ◌≢◌, ℕ, ◌<◌, ◌==◌, ◌||◌, ◌&&◌, Bool, true, false, if◌then◌else◌, not, List, [], ◌∷◌, ◌++◌, length, refl, sym, ap, ◌∙◌, subst, ⊎_elim, IsUtf8, chars, arith}
use Rattle.std.specs.List.{list_any}
use Rattle.std.proofs.Math.Utf8.{encode, encodes}
use Rattle.std.proofs.lemmas.Bool.{cases_Bool, eq-eqb, ne_eqb, eqb-true, cases_eq, false_from_ne_true, false≢true}
use Rattle.std.proofs.lemmas.Str.{encode_ascii, cons_from_encodes, encodes-chars}
use Rattle.qw_types.specs.Like.{ends, begins, matches, is_like, continues, onward, fits_pattern}
use Rattle.qw_types.proofs.LikeEnds.{end_self, any_at}
use Rattle.qw_types.proofs.LikeSeeking.{and_both}
use Rattle.qw_types.proofs.LikeSpelling.{AreInner, Spells, spells, encodes_cons, behind_char}

-- ---- octets that are neither `%` nor `_`
abbrev AreTame : List ℕ → Type 0
AreTame [] = Unit {0}
AreTame (x ∷ xs) = ((x == 37) ≡ false) × ((x == 95) ≡ false) × AreTame xs

inner_tame : (xs : List ℕ) → AreInner xs → AreTame xs
inner_tame [] inner = tt
inner_tame (x ∷ xs) inner = (
  ne_eqb x 37 (λ e. false≢true (subst (λ z. continues z ≡ true) e inner.0)),
  ne_eqb x 95 (λ e. false≢true (subst (λ z. continues z ≡ true) e inner.0)),
  inner_tame xs inner.1,
)

lead_apart : (p k : ℕ) → k < 128 → p ≢ k → (w : Spells p) → (w.lead == k) ≡ false
lead_apart p k low apart w = ne_eqb w.lead k (λ e. ⊎_elim (λ same. apart (sym same ∙ e)) (λ high. absurd (omega (arith, e))) w.place)

tame : (p : ℕ) → p ≢ 37 → p ≢ 95 → AreTame (encode p)
tame p other apart = let w = spells p in
    subst AreTame (sym w.spelt) (lead_apart p 37 (omega arith) other w, lead_apart p 95 (omega arith) apart w, inner_tame w.more w.inner)

literal_same : (xs q r : List ℕ) → AreTame xs → fits_pattern (xs ++ q) (xs ++ r) ≡ fits_pattern q r
literal_same [] q r are = refl
literal_same (x ∷ xs) q r are = rw (are.0, are.1, eq-eqb x x refl) (literal_same xs q r are.2)

literal_only : (xs q t : List ℕ) → AreTame xs → fits_pattern (xs ++ q) t ≡ true → (r : List ℕ) × (t ≡ xs ++ r)
literal_only [] q t are h = (t, refl)
literal_only (x ∷ xs) q [] are h = absurd (false≢true (rw (are.0) at h))
literal_only (x ∷ xs) q (d ∷ ds) are h =
    let parts = and_both (x == d) (fits_pattern (xs ++ q) ds) (rw (are.0, are.1) at h) in
    let later = literal_only xs q ds (are.2) parts.1 in
    (later.0, ap (λ z. z ∷ ds) (sym (eqb-true x d parts.0)) ∙ ap (λ zs. x ∷ zs) later.1)

pub none_fits : (x : ℕ) (xs : List ℕ) → fits_pattern [] (x ∷ xs) ≡ false
none_fits x xs = ne_eqb (length (x ∷ xs)) 0 (λ e. omega (arith, e))

none_matches : (x : ℕ) (xs : List ℕ) → matches [] (x ∷ xs) ≡ false
none_matches x xs = ne_eqb (length (x ∷ xs)) 0 (λ e. omega (arith, e))

-- ---- a text doesn't fit from within a character unless it fits_pattern from behind that octet
inner_outer : (p : ℕ) (ps : List ℕ) (x : ℕ) (r : List ℕ) → (p == 37) ≡ false → continues p ≡ false → continues x ≡ true → fits_pattern (p ∷ ps) (x ∷ r) ≡ false
inner_outer p ps x r other outer inner = rw other (ap (λ z. z && fits_pattern ps (onward p r)) (by (p == 95)))
  where
    by : (b : Bool) → (if b then not (continues x) else (p == x)) ≡ false
    by true = rw inner refl
    by false = ne_eqb p x (λ e. false≢true (sym outer ∙ ap continues e ∙ inner))

slides_star : (e : List ℕ) (x : ℕ) (r : List ℕ) → (fits_pattern e (x ∷ r) ≡ true → fits_pattern e r ≡ true) → fits_pattern (37 ∷ e) (x ∷ r) ≡ true → fits_pattern (37 ∷ e) r ≡ true
slides_star e x r slide h = ⊎_elim
    (λ (here : fits_pattern e (x ∷ r) ≡ true). any_at (fits_pattern e) r r (end_self r) (slide here))
    (λ later. rw later at h)
    (cases_Bool (fits_pattern e (x ∷ r)))

star_spelt : (p k : ℕ) (ps : List ℕ) → k < 128 → p ≡ k → encodes (p ∷ ps) ≡ k ∷ encodes ps
star_spelt p k ps low is = ap (λ z. z ++ encodes ps) (ap encode is ∙ encode_ascii k low)

slides : (ps : List ℕ) (x : ℕ) (r : List ℕ) → continues x ≡ true → fits_pattern (encodes ps) (x ∷ r) ≡ true → fits_pattern (encodes ps) r ≡ true
slides [] x r inner h = absurd (false≢true (sym (none_fits x r) ∙ h))
slides (p ∷ ps) x r inner h = ⊎_elim
    (λ (star : p ≡ 37).
    let is : encodes (p ∷ ps) ≡ 37 ∷ encodes ps = star_spelt p 37 ps (omega arith) star in
    subst (λ z. fits_pattern z r ≡ true) (sym is) (slides_star (encodes ps) x r (slides ps x r inner) (subst (λ z. fits_pattern z (x ∷ r) ≡ true) is h)))
    (λ other. let w = spells p in absurd (false≢true (sym (inner_outer w.lead (w.more ++ encodes ps) x r (lead_apart p 37 (omega arith) other w) w.outer inner) ∙ subst (λ z. fits_pattern z (x ∷ r) ≡ true) (encodes_cons p ps w) h)))
    (cases_eq p 37)

module _ (f g : List ℕ → Bool) (slide : (x : ℕ) (r : List ℕ) → continues x ≡ true → f (x ∷ r) ≡ true → f r ≡ true) (same : (ts : List ℕ) → f (encodes ts) ≡ g ts) where
  ends_more : (xs r : List ℕ) → AreInner xs → list_any f (ends (xs ++ r)) ≡ list_any f (ends r)
  ends_more [] r inner = refl
  ends_more (x ∷ xs) r inner =
      absorbed_left (f (x ∷ (xs ++ r))) (list_any f (ends (xs ++ r))) (λ h. any_at f (xs ++ r) (xs ++ r) (end_self (xs ++ r)) (slide x (xs ++ r) inner.0 h)) ∙ ends_more xs r inner.1
    where
      absorbed_left : (a b : Bool) → (a ≡ true → b ≡ true) → (a || b) ≡ b
      absorbed_left true b h = sym (h refl)
      absorbed_left false b h = refl

  any_run : (ts : List ℕ) → list_any f (ends (encodes ts)) ≡ list_any g (ends ts)
  any_run [] = ap (λ z. z || false) (same [])
  any_run (c ∷ cs) = let w = spells c in
      ap (λ z. list_any f (ends z)) (encodes_cons c cs w)
      ∙ ap (λ z. f (w.lead ∷ (w.more ++ encodes cs)) || z) (ends_more w.more (encodes cs) w.inner ∙ any_run cs)
      ∙ ap (λ z. z || list_any g (ends cs)) (ap f (sym (encodes_cons c cs w)) ∙ same (c ∷ cs))

-- one character
single : (ps : List ℕ) → ((ts : List ℕ) → fits_pattern (encodes ps) (encodes ts) ≡ matches ps ts) → (ts : List ℕ) → fits_pattern (95 ∷ encodes ps) (encodes ts) ≡ begins (λ c. (95 == 95) || (95 == c)) (matches ps) ts
single ps same [] = refl
single ps same (c ∷ cs) = let w = spells c in
    ap (fits_pattern (95 ∷ encodes ps)) (encodes_cons c cs w) ∙ rw (w.outer) (ap (fits_pattern (encodes ps)) (behind_char w.more cs w.inner) ∙ same cs)

literal : (p : ℕ) (ps : List ℕ) → p ≢ 37 → p ≢ 95 → ((ts : List ℕ) → fits_pattern (encodes ps) (encodes ts) ≡ matches ps ts) → (ts : List ℕ) →
    fits_pattern (encodes (p ∷ ps)) (encodes ts) ≡ begins (λ c. (p == 95) || (p == c)) (matches ps) ts
literal p ps other apart same [] = let w = spells p in
    ap (λ z. fits_pattern z []) (encodes_cons p ps w) ∙ rw (lead_apart p 37 (omega arith) other w) refl
literal p ps other apart same (c ∷ cs) = rw (ne_eqb p 95 apart) (⊎_elim
    (λ (is : p ≡ c). rw (eq-eqb p c is) (ap (λ z. fits_pattern (encodes (p ∷ ps)) (encode z ++ encodes cs)) (sym is) ∙ literal_same (encode p) (encodes ps) (encodes cs) (tame p other apart) ∙ same cs))
    (λ differ. rw (ne_eqb p c differ) (false_from_ne_true (fits_pattern (encodes (p ∷ ps)) (encodes (c ∷ cs))) (λ h.
    let found = literal_only (encode p) (encodes ps) (encodes (c ∷ cs)) (tame p other apart) h in
    let parts = cons_from_encodes (c ∷ cs) found.0 p found.1 in
    differ (sym (ap (λ z. head_or z) parts.1)))))
    (cases_eq p c))
  where
    head_or : List ℕ → ℕ
    head_or [] = 0
    head_or (x ∷ xs) = x

pub exact : (ps ts : List ℕ) → fits_pattern (encodes ps) (encodes ts) ≡ matches ps ts
exact [] [] = refl
exact [] (c ∷ cs) = let w = spells c in ap (fits_pattern []) (encodes_cons c cs w) ∙ none_fits w.lead (w.more ++ encodes cs) ∙ sym (none_matches c cs)
exact (p ∷ ps) ts = ⊎_elim
    (λ (star : p ≡ 37). rw (eq-eqb p 37 star)
    (ap (λ z. fits_pattern z (encodes ts)) (star_spelt p 37 ps (omega arith) star) ∙ any_run (fits_pattern (encodes ps)) (matches ps) (slides ps) (exact ps) ts))
    (λ other. rw (ne_eqb p 37 other) (⊎_elim
    (λ (one : p ≡ 95). ap (λ z. fits_pattern z (encodes ts)) (star_spelt p 95 ps (omega arith) one) ∙ single ps (exact ps) ts ∙ ap (λ z. begins (λ c. (z == 95) || (z == c)) (matches ps) ts) (sym one))
    (λ apart. literal p ps other apart (exact ps) ts)
    (cases_eq p 95)))
    (cases_eq p 37)

pub octets_decide : (w v : List ℕ) → IsUtf8 w → IsUtf8 v → fits_pattern w v ≡ is_like w v
octets_decide w v utf8_w utf8_v = ap (λ z. fits_pattern z v) (sym (encodes-chars w utf8_w)) ∙ ap (fits_pattern (encodes (chars w))) (sym (encodes-chars v utf8_v)) ∙ exact (chars w) (chars v)
