-- What reading takes is spelled so, and what is spelled so is read; where reading fails it is stuck so, and the other way round.
use Rattle.std.proofs.Common.{◌≡◌, ℕ, zero, suc, ◌<◌, ◌≤◌, Bool, true, false, cond, ltb, List, [], ◌∷◌, ◌++◌, length, take, drop, Result, Ok, Err, refl, sym, ap, subst, ◌∙◌, append_assoc, arith, ◌⊎◌, inl, inr}
use Rattle.std.proofs.lemmas.Bool.{cases_lt, ltb-false, ltb-true, le-ltb, lt-ltb}
use Rattle.std.proofs.lemmas.List.{append-nil, nil_from_length, take_at, drop_at, take-append-drop, length-append, length-take-le}
use Rattle.qw_octet_grammar.specs.declared.fault.BinaryFault.{BinaryFault}
use Rattle.qw_octet_grammar.specs.declared.fault.BinaryFault.TheVariants.{NotModule}
use Rattle.qw_octet_grammar.specs.Grammar.{Next, goes_on, ends, Grammar, is, refuse, octet, octets, after, within, items, Chain, Spells, StuckChain, Stuck}
use Rattle.qw_octet_grammar.specs.Reading.{◌>>=◌, filled, chain, read}

-- the value of a step that didn't fail
pub bind_ok : {A B : Type 0} (r : Result A BinaryFault) (f : A → Result B BinaryFault) (y : B) → (r >>= f) ≡ Ok y → (x : A) × (r ≡ Ok x) × (f x ≡ Ok y)
bind_ok (Ok x) f y e = (x, refl, e)
bind_ok (Err d) f y e = absurd cc

-- either step failed
pub bind_err : {A B : Type 0} (r : Result A BinaryFault) (f : A → Result B BinaryFault) (d : BinaryFault) → (r >>= f) ≡ Err d → (r ≡ Err d) ⊎ ((x : A) × (r ≡ Ok x) × (f x ≡ Err d))
bind_err (Ok x) f d e = inr (x, refl, e)
bind_err (Err c) f d e = inl cc

-- a test that didn't fail
pub guard_ok : {A : Type 0} (b : Bool) (d : BinaryFault) (r : Result A BinaryFault) (y : A) → cond b (Err d) r ≡ Ok y → (b ≡ false) × (r ≡ Ok y)
guard_ok true d r y e = absurd cc
guard_ok false d r y e = (refl, e)

pub guard_err : {A : Type 0} (b : Bool) (c : BinaryFault) (r : Result A BinaryFault) (d : BinaryFault) → cond b (Err c) r ≡ Err d → ((b ≡ true) × (d ≡ c)) ⊎ ((b ≡ false) × (r ≡ Err d))
guard_err true c r d e = inl (refl, cc)
guard_err false c r d e = inr (refl, e)

abbrev done : {A : Type 0} → A → Result A BinaryFault
done x = Ok x

pub ok_is : {A : Type 0} (x y : A) → done x ≡ done y → x ≡ y
ok_is x y e = cc

-- what a grammar took from the front
abbrev pub Takes : {A : Type 0} → Grammar A → A → List ℕ → List ℕ → Type 0
Takes g x bytes rest = (text : List ℕ) × (bytes ≡ text ++ rest) × Spells g x text

joined : (bytes first mid second rest : List ℕ) → bytes ≡ first ++ mid → mid ≡ second ++ rest → bytes ≡ (first ++ second) ++ rest
joined bytes first mid second rest e d = e ∙ ap (λ (t : List ℕ). first ++ t) d ∙ sym (append_assoc first second rest)

-- ---- what is read is spelled

chain_takes : {S A : Type 0} (P : S → ℕ → Next S A → List ℕ → Type 0) (p : S → ℕ → List ℕ → Result (Next S A × List ℕ) BinaryFault)
    → ((s : S) (b : ℕ) (bytes : List ℕ) (r : Next S A) (rest : List ℕ) → p s b bytes ≡ Ok (r, rest) → (text : List ℕ) × (bytes ≡ text ++ rest) × P s b r text)
    → (n : ℕ) (r : Next S A) (bytes : List ℕ) (x : A) (rest : List ℕ) → chain p n r bytes ≡ Ok (x, rest) → (text : List ℕ) × (bytes ≡ text ++ rest) × Chain P n r x text
chain_takes P p h zero (ends y) bytes x rest e = let q = ok_is (y, bytes) (x, rest) e in ([], ap (λ z. z.1) q, (ap (λ z. z.0) q, refl))
chain_takes P p h (suc n) (ends y) bytes x rest e = let q = ok_is (y, bytes) (x, rest) e in ([], ap (λ z. z.1) q, (ap (λ z. z.0) q, refl))
chain_takes P p h zero (goes_on s) bytes x rest e = absurd cc
chain_takes P p h (suc n) (goes_on s) [] x rest e = absurd cc
chain_takes P p h (suc n) (goes_on s) (b ∷ bytes) x rest e =
    let a = bind_ok (p s b bytes) (λ y. chain p n y.0 y.1) (x, rest) e in
    let t = h s b bytes a.0.0 a.0.1 a.1 in
    let u = chain_takes P p h n a.0.0 a.0.1 x rest a.2 in
    (b ∷ t.0 ++ u.0, ap (λ w. b ∷ w) (joined bytes t.0 a.0.1 u.0 rest t.1 u.1), (a.0.0, t.0, u.0, refl, t.2, u.2))

pub takes : {A : Type 0} (g : Grammar A) (bytes : List ℕ) (x : A) (rest : List ℕ) → read g bytes ≡ Ok (x, rest) → Takes g x bytes rest
unfolding read Spells
takes (is a) bytes x rest e = let q = ok_is (a, bytes) (x, rest) e in ([], ap (λ z. z.1) q, (ap (λ z. z.0) q, refl))
takes (refuse f) bytes x rest e = absurd cc
takes (octet k) [] x rest e = absurd cc
takes (octet k) (b ∷ bytes) x rest e = let t = takes (k b) bytes x rest e in (b ∷ t.0, ap (λ w. b ∷ w) t.1, t.2)
takes (octets n k) bytes x rest e =
    let g = guard_ok (ltb (length bytes) n) NotModule (read (k (take n bytes)) (drop n bytes)) (x, rest) e in
    let long : n ≤ length bytes = ltb-false _ _ g.0 in
    let t = takes (k (take n bytes)) (drop n bytes) x rest g.1 in
    let len : length (take n bytes) ≡ n = length-take-le n bytes long in
    let text : List ℕ = take n bytes ++ t.0 in
    let a : take n text ≡ take n bytes = take_at (take n bytes) t.0 n len in
    let b : drop n text ≡ t.0 = drop_at (take n bytes) t.0 n len in (
      text,
      joined bytes (take n bytes) (drop n bytes) t.0 rest (sym (take-append-drop n bytes)) t.1,
      (omega (arith, length-append (take n bytes) t.0, len), rw (a, b) t.2),
    )
takes (after g k) bytes x rest e =
    let a = bind_ok (read g bytes) (λ y. read (k y.0) y.1) (x, rest) e in
    let t = takes g bytes a.0.0 a.0.1 a.1 in
    let u = takes (k a.0.0) a.0.1 x rest a.2 in
    (t.0 ++ u.0, joined bytes t.0 a.0.1 u.0 rest t.1 u.1, (a.0.0, t.0, u.0, refl, t.2, u.2))
takes (within n true g) bytes x rest e =
    let a = bind_ok (read g (take n bytes)) (filled n true bytes) (x, rest) e in
    let t = takes g (take n bytes) a.0.0 a.0.1 a.1 in
    let c = guard_ok (ltb (length bytes) n) NotModule (Ok (a.0.0, drop n bytes)) (x, rest) a.2 in
    let q = ok_is (a.0.0, drop n bytes) (x, rest) c.1 in (
      take n bytes,
      subst (λ w. bytes ≡ take n bytes ++ w) (ap (λ z. z.1) q) (sym (take-append-drop n bytes)),
      (length-take-le n bytes (ltb-false _ _ c.0), t.0, a.0.1, t.1, subst (λ w. Spells g w t.0) (ap (λ z. z.0) q) t.2),
    )
takes (within n false g) bytes x rest e =
    let a = bind_ok (read g (take n bytes)) (filled n false bytes) (x, rest) e in
    let t = takes g (take n bytes) a.0.0 a.0.1 a.1 in
    let c = guard_ok (ltb (length bytes) n) NotModule (cond (ltb 0 (length a.0.1)) (Err NotModule) (Ok (a.0.0, drop n bytes))) (x, rest) a.2 in
    let d = guard_ok (ltb 0 (length a.0.1)) NotModule (Ok (a.0.0, drop n bytes)) (x, rest) c.1 in
    let q = ok_is (a.0.0, drop n bytes) (x, rest) d.1 in
    let short : length a.0.1 ≤ 0 = ltb-false _ _ d.0 in
    let nothing : a.0.1 ≡ [] = nil_from_length a.0.1 (omega (arith, short)) in
    let whole : take n bytes ≡ t.0 = t.1 ∙ ap (λ w. t.0 ++ w) nothing ∙ append-nil t.0 in (
      take n bytes,
      subst (λ w. bytes ≡ take n bytes ++ w) (ap (λ z. z.1) q) (sym (take-append-drop n bytes)),
      (length-take-le n bytes (ltb-false _ _ c.0), subst (λ w. Spells g x w) (sym whole) (subst (λ w. Spells g w t.0) (ap (λ z. z.0) q) t.2)),
    )
takes (items s step) bytes x rest e =
    let t = chain_takes (λ s b r t. Spells (step s b) r t) (λ s b. read (step s b)) (λ s b bytes r rest e. takes (step s b) bytes r rest e) (suc (length bytes)) (goes_on s) bytes x rest e in
    (t.0, t.1, (suc (length bytes), t.2))

-- ---- what is spelled is read

chain_again : {S A : Type 0} (P : S → ℕ → Next S A → List ℕ → Type 0) (p : S → ℕ → List ℕ → Result (Next S A × List ℕ) BinaryFault)
    → ((s : S) (b : ℕ) (r : Next S A) (text rest : List ℕ) → P s b r text → p s b (text ++ rest) ≡ Ok (r, rest))
    → (n : ℕ) (r : Next S A) (x : A) (text rest : List ℕ) (m : ℕ) → Chain P n r x text → length (text ++ rest) < m → chain p m r (text ++ rest) ≡ Ok (x, rest)
chain_again P p h zero (ends y) x text rest zero c lt = let no : ⊥ = omega (arith, lt) in absurd no
chain_again P p h (suc n) (ends y) x text rest zero c lt = let no : ⊥ = omega (arith, lt) in absurd no
chain_again P p h zero (ends y) x text rest (suc m) c lt = rw (c.0, c.1) refl
chain_again P p h (suc n) (ends y) x text rest (suc m) c lt = rw (c.0, c.1) refl
chain_again P p h zero (goes_on s) x text rest m c lt = absurd c
chain_again P p h (suc n) (goes_on s) x [] rest m c lt = absurd c
chain_again P p h (suc n) (goes_on s) x (b ∷ text) rest zero c lt = let no : ⊥ = omega (arith, lt) in absurd no
chain_again P p h (suc n) (goes_on s) x (b ∷ text) rest (suc m) c lt =
    let (r, first, second, e, a, d) = c in
    let regrouped : text ++ rest ≡ first ++ (second ++ rest) = ap (λ w. w ++ rest) e ∙ append_assoc first second rest in
    let one : p s b (text ++ rest) ≡ Ok (r, second ++ rest) = ap (p s b) regrouped ∙ h s b r first (second ++ rest) a in
    let shorter : length (second ++ rest) < m = omega (arith, lt, ap length regrouped, length-append first (second ++ rest)) in
    rw one (chain_again P p h n r x second rest m d shorter)

pub again : {A : Type 0} (g : Grammar A) (x : A) (text rest : List ℕ) → Spells g x text → read g (text ++ rest) ≡ Ok (x, rest)
unfolding read Spells
again (is a) x text rest h = rw (h.0, h.1) refl
again (refuse f) x text rest h = absurd h
again (octet k) x [] rest h = absurd h
again (octet k) x (b ∷ text) rest h = again (k b) x text rest h
again (octets n k) x text rest h =
    let long : n ≤ length (text ++ rest) = omega (arith, length-append text rest, h.0) in
    let parts : text ++ rest ≡ take n text ++ (drop n text ++ rest) = ap (λ w. w ++ rest) (sym (take-append-drop n text)) ∙ append_assoc (take n text) (drop n text) rest in
    let len : length (take n text) ≡ n = length-take-le n text h.0 in
    let a : take n (text ++ rest) ≡ take n text = ap (take n) parts ∙ take_at (take n text) (drop n text ++ rest) n len in
    let b : drop n (text ++ rest) ≡ drop n text ++ rest = ap (drop n) parts ∙ drop_at (take n text) (drop n text ++ rest) n len in
    rw (le-ltb _ _ long, a, b) (again (k (take n text)) x (drop n text) rest h.1)
again (after g k) x text rest h =
    let (y, first, second, e, a, b) = h in
    let regrouped : text ++ rest ≡ first ++ (second ++ rest) = ap (λ w. w ++ rest) e ∙ append_assoc first second rest in
    rw (regrouped, again g y first (second ++ rest) a) (again (k y) x second rest b)
again (within n true g) x text rest h =
    let (len, first, second, e, a) = h in
    let long : n ≤ length (text ++ rest) = omega (arith, length-append text rest, len) in
    rw (take_at text rest n len, e, again g x first second a, ← e, le-ltb _ _ long, drop_at text rest n len) refl
again (within n false g) x text rest h =
    let long : n ≤ length (text ++ rest) = omega (arith, length-append text rest, h.0) in
    let inner : read g text ≡ Ok (x, []) = ap (read g) (sym (append-nil text)) ∙ again g x text [] h.1 in
    rw (take_at text rest n h.0, inner, le-ltb _ _ long, drop_at text rest n h.0) refl
again (items s step) x text rest h =
    chain_again (λ s b r t. Spells (step s b) r t) (λ s b. read (step s b)) (λ s b r text rest e. again (step s b) r text rest e) h.0 (goes_on s) x text rest (suc (length (text ++ rest))) h.1 (omega arith)

-- ---- where reading fails it is stuck

chain_stuck : {S A : Type 0} (P : S → ℕ → Next S A → List ℕ → Type 0) (Q : S → ℕ → List ℕ → BinaryFault → Type 0) (p : S → ℕ → List ℕ → Result (Next S A × List ℕ) BinaryFault)
    → ((s : S) (b : ℕ) (bytes : List ℕ) (r : Next S A) (rest : List ℕ) → p s b bytes ≡ Ok (r, rest) → (text : List ℕ) × (bytes ≡ text ++ rest) × P s b r text)
    → ((s : S) (b : ℕ) (bytes : List ℕ) (f : BinaryFault) → p s b bytes ≡ Err f → Q s b bytes f)
    → (n : ℕ) (r : Next S A) (bytes : List ℕ) (f : BinaryFault) → length bytes < n → chain p n r bytes ≡ Err f → StuckChain P Q n r bytes f
chain_stuck P Q p h j zero r bytes f lt e = let no : ⊥ = omega (arith, lt) in absurd no
chain_stuck P Q p h j (suc n) (ends y) bytes f lt e = absurd cc
chain_stuck P Q p h j (suc n) (goes_on s) [] f lt e = cc
chain_stuck P Q p h j (suc n) (goes_on s) (b ∷ bytes) f lt e =
    elim (bind_err (p s b bytes) (λ y. chain p n y.0 y.1) f e) [
      | inl a ↦ inl (j s b bytes f a)
      | inr a ↦
          let t = h s b bytes a.0.0 a.0.1 a.1 in
          inr (a.0.0, t.0, a.0.1, t.1, t.2, chain_stuck P Q p h j n a.0.0 a.0.1 f (omega (arith, lt, ap length t.1, length-append t.0 a.0.1)) a.2)
    ]

pub stuck_where : {A : Type 0} (g : Grammar A) (bytes : List ℕ) (f : BinaryFault) → read g bytes ≡ Err f → Stuck g bytes f
unfolding read Stuck
stuck_where (is a) bytes f e = absurd cc
stuck_where (refuse d) bytes f e = cc
stuck_where (octet k) [] f e = cc
stuck_where (octet k) (b ∷ bytes) f e = stuck_where (k b) bytes f e
stuck_where (octets n k) bytes f e =
    elim (guard_err (ltb (length bytes) n) NotModule (read (k (take n bytes)) (drop n bytes)) f e) [
      | inl a ↦ inl (ltb-true _ _ a.0, a.1)
      | inr a ↦ inr (ltb-false _ _ a.0, stuck_where (k (take n bytes)) (drop n bytes) f a.1)
    ]
stuck_where (after g k) bytes f e =
    elim (bind_err (read g bytes) (λ y. read (k y.0) y.1) f e) [
      | inl a ↦ inl (stuck_where g bytes f a)
      | inr a ↦ let t = takes g bytes a.0.0 a.0.1 a.1 in inr (a.0.0, t.0, a.0.1, t.1, t.2, stuck_where (k a.0.0) a.0.1 f a.2)
    ]
stuck_where (within n true g) bytes f e =
    elim (bind_err (read g (take n bytes)) (filled n true bytes) f e) [
      | inl a ↦ inl (stuck_where g (take n bytes) f a)
      | inr a ↦
          let t = takes g (take n bytes) a.0.0 a.0.1 a.1 in
          elim (guard_err (ltb (length bytes) n) NotModule (Ok (a.0.0, drop n bytes)) f a.2) [
            | inl c ↦ inr (c.1, a.0.0, t.0, a.0.1, t.1, t.2, inl (ltb-true _ _ c.0))
            | inr c ↦ absurd cc
          ]
    ]
stuck_where (within n false g) bytes f e =
    elim (bind_err (read g (take n bytes)) (filled n false bytes) f e) [
      | inl a ↦ inl (stuck_where g (take n bytes) f a)
      | inr a ↦
          let t = takes g (take n bytes) a.0.0 a.0.1 a.1 in
          elim (guard_err (ltb (length bytes) n) NotModule (cond (ltb 0 (length a.0.1)) (Err NotModule) (Ok (a.0.0, drop n bytes))) f a.2) [
            | inl c ↦ inr (c.1, a.0.0, t.0, a.0.1, t.1, t.2, inl (ltb-true _ _ c.0))
            | inr c ↦ elim (guard_err (ltb 0 (length a.0.1)) NotModule (Ok (a.0.0, drop n bytes)) f c.1) [
              | inl d ↦ inr (d.1, a.0.0, t.0, a.0.1, t.1, t.2, inr (refl, ltb-true _ _ d.0))
              | inr d ↦ absurd cc
            ]
          ]
    ]
stuck_where (items s step) bytes f e =
    (suc (length bytes), chain_stuck (λ s b r t. Spells (step s b) r t) (λ s b t f. Stuck (step s b) t f) (λ s b. read (step s b)) (λ s b bytes r rest e. takes (step s b) bytes r rest e) (λ s b bytes f e. stuck_where (step s b) bytes f e) (suc (length bytes)) (goes_on s) bytes f (omega arith) e)

-- ---- where it is stuck, reading fails

chain_fails : {S A : Type 0} (P : S → ℕ → Next S A → List ℕ → Type 0) (Q : S → ℕ → List ℕ → BinaryFault → Type 0) (p : S → ℕ → List ℕ → Result (Next S A × List ℕ) BinaryFault)
    → ((s : S) (b : ℕ) (r : Next S A) (text rest : List ℕ) → P s b r text → p s b (text ++ rest) ≡ Ok (r, rest))
    → ((s : S) (b : ℕ) (bytes : List ℕ) (f : BinaryFault) → Q s b bytes f → p s b bytes ≡ Err f)
    → (n : ℕ) (r : Next S A) (bytes : List ℕ) (f : BinaryFault) (m : ℕ) → StuckChain P Q n r bytes f → length bytes < m → chain p m r bytes ≡ Err f
chain_fails P Q p h j n r bytes f zero c lt = let no : ⊥ = omega (arith, lt) in absurd no
chain_fails P Q p h j zero (ends y) bytes f (suc m) c lt = absurd c
chain_fails P Q p h j (suc n) (ends y) bytes f (suc m) c lt = absurd c
chain_fails P Q p h j zero (goes_on s) [] f (suc m) c lt = ap Err (sym c)
chain_fails P Q p h j (suc n) (goes_on s) [] f (suc m) c lt = ap Err (sym c)
chain_fails P Q p h j zero (goes_on s) (b ∷ bytes) f (suc m) c lt = rw (j s b bytes f c) refl
chain_fails P Q p h j (suc n) (goes_on s) (b ∷ bytes) f (suc m) c lt =
    elim c [
      | inl a ↦ rw (j s b bytes f a) refl
      | inr a ↦
          let (r, first, second, e, q, d) = a in
          let one : p s b bytes ≡ Ok (r, second) = ap (p s b) e ∙ h s b r first second q in
          rw one (chain_fails P Q p h j n r second f m d (omega (arith, lt, ap length e, length-append first second)))
    ]

pub fails_where : {A : Type 0} (g : Grammar A) (bytes : List ℕ) (f : BinaryFault) → Stuck g bytes f → read g bytes ≡ Err f
unfolding read Stuck
fails_where (is a) bytes f h = absurd h
fails_where (refuse d) bytes f h = ap Err (sym h)
fails_where (octet k) [] f h = ap Err (sym h)
fails_where (octet k) (b ∷ bytes) f h = fails_where (k b) bytes f h
fails_where (octets n k) bytes f h =
    elim h [
      | inl a ↦ rw (lt-ltb _ _ a.0) (ap Err (sym a.1))
      | inr a ↦ rw (le-ltb _ _ a.0) (fails_where (k (take n bytes)) (drop n bytes) f a.1)
    ]
fails_where (after g k) bytes f h =
    elim h [
      | inl a ↦ rw (fails_where g bytes f a) refl
      | inr a ↦ let (y, first, second, e, p, q) = a in rw (e, again g y first second p) (fails_where (k y) second f q)
    ]
fails_where (within n true g) bytes f h =
    elim h [
      | inl a ↦ rw (fails_where g (take n bytes) f a) refl
      | inr a ↦
          let (d, x, first, second, e, p, c) = a in
          elim c [
            | inl short ↦ rw (e, again g x first second p, lt-ltb _ _ short) (ap Err (sym d))
            | inr left ↦ absurd cc
          ]
    ]
fails_where (within n false g) bytes f h =
    elim h [
      | inl a ↦ rw (fails_where g (take n bytes) f a) refl
      | inr a ↦
          let (d, x, first, second, e, p, c) = a in
          elim c [
            | inl short ↦ rw (e, again g x first second p, lt-ltb _ _ short) (ap Err (sym d))
            | inr left ↦ elim (cases_lt (length bytes) n) [
              | inl short ↦ rw (e, again g x first second p, lt-ltb _ _ short) (ap Err (sym d))
              | inr long ↦ rw (e, again g x first second p, le-ltb _ _ long, lt-ltb _ _ left.1) (ap Err (sym d))
            ]
          ]
    ]
fails_where (items s step) bytes f h =
    chain_fails (λ s b r t. Spells (step s b) r t) (λ s b t f. Stuck (step s b) t f) (λ s b. read (step s b)) (λ s b r text rest e. again (step s b) r text rest e) (λ s b bytes f e. fails_where (step s b) bytes f e) h.0 (goes_on s) bytes f (suc (length bytes)) h.1 (omega arith)
