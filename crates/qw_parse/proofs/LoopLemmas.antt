-- Loops of an operator and an operand: they end, go on, and read exactly what a series is.
use Rattle.std.proofs.Common.{◌≡◌, ℕ, zero, suc, ◌+◌, ◌<◌, ◌≤◌, Bool, true, false, cond, List, length, Option, Some, None, refl, sym, ap, subst, ◌∙◌, arith, inl, inr}
use Rattle.std.specs.Prelude.{◌⊎◌}
use Rattle.qw_token.specs.Token.{Lexeme}
use Rattle.qw_ast.specs.ScriptGrammar.{Series, first, more}
use Rattle.qw_parse.specs.Inner.Readers.{◌>>=◌, steps_within, series_step, series_from, series_at}

-- ---- options

pub bind_some : {A B : Type 0} (r : Option A) (f : A → Option B) (y : B) → (r >>= f) ≡ Some y → (x : A) × (r ≡ Some x) × (f x ≡ Some y)
bind_some (Some x) f y e = (x, refl, e)
bind_some None f y e = absurd cc

pub guard_some : {A : Type 0} (b : Bool) (o : Option A) (y : A) → cond b o None ≡ Some y → (b ≡ true) × (o ≡ Some y)
guard_some true o y e = (refl, e)
guard_some false o y e = absurd cc

pub cases_option : {A : Type 0} (o : Option A) → (o ≡ None) ⊎ ((x : A) × (o ≡ Some x))
cases_option None = inl refl
cases_option (Some x) = inr (x, refl)

pub none_not_some : {A : Type 0} (o : Option A) (x : A) → o ≡ None → o ≡ Some x → ⊥
none_not_some o x none some = cc

pub some_same : {A : Type 0} (x y : A) → Some x ≡ Some y → x ≡ y
some_same x y e = cc

-- ---- steps

-- a reader takes a token at least
abbrev pub Shortens : {A : Type 0} → (List Lexeme → Option (A × List Lexeme)) → Type 0
Shortens {A = A} read = (ts : List Lexeme) (x : A × List Lexeme) → read ts ≡ Some x → length x.1 < length ts

module _ {P : Type 0} (step : P → List Lexeme → Option (Option (P × List Lexeme))) where
  within_none : (most : ℕ) (p : P) (ts : List Lexeme) → step p ts ≡ None → steps_within (suc most) step p ts ≡ None
  unfolding steps_within
  within_none most p ts e = rw e refl

  within_end : (most : ℕ) (p : P) (ts : List Lexeme) → step p ts ≡ Some None → steps_within (suc most) step p ts ≡ Some (p, ts)
  unfolding steps_within
  within_end most p ts e = rw e refl

  within_more : (most : ℕ) (p : P) (ts : List Lexeme) (x : P × List Lexeme) → step p ts ≡ Some (Some x) → steps_within (suc most) step p ts ≡ steps_within most step x.0 x.1
  unfolding steps_within
  within_more most p ts x e = rw e refl

  within_zero : (p : P) (ts : List Lexeme) (x : P × List Lexeme) → steps_within zero step p ts ≡ Some x → ⊥
  unfolding steps_within
  within_zero p ts x e = cc

  -- a step takes a token at least
  abbrev pub Steps_shorten : Type 0
  Steps_shorten = (p : P) (ts : List Lexeme) (x : P × List Lexeme) → step p ts ≡ Some (Some x) → length x.1 < length ts

  -- any number that is greater than that of the tokens serves
  pub within_same : Steps_shorten → (m n : ℕ) (p : P) (ts : List Lexeme) → length ts < m → length ts < n → steps_within m step p ts ≡ steps_within n step p ts
  within_same shortens zero n p ts a b = absurd (omega (arith, a))
  within_same shortens (suc m) zero p ts a b = absurd (omega (arith, b))
  within_same shortens (suc m) (suc n) p ts a b =
      elim (cases_option (step p ts)) [
        | inl none ↦ within_none m p ts none ∙ sym (within_none n p ts none)
        | inr some ↦ elim (cases_option some.0) [
          | inl end ↦ (
              let e = some.1 ∙ ap (λ (o : Option (P × List Lexeme)). Some o) end in
              within_end m p ts e ∙ sym (within_end n p ts e))
          | inr found ↦ (
              let e = some.1 ∙ ap (λ (o : Option (P × List Lexeme)). Some o) found.1 in
              let x = found.0 in
              let less = shortens p ts x e in
              within_more m p ts x e ∙ within_same shortens m n x.0 x.1 (omega (arith, less, a)) (omega (arith, less, b)) ∙ sym (within_more n p ts x e))
        ]
      ]

module _ {P O B : Type 0} (link : List Lexeme → Option (O × List Lexeme)) (operand : List Lexeme → Option (B × List Lexeme)) (join : O → P → B → Option P) where
  -- the parts of a step that goes on
  step_parts : (p : P) (ts : List Lexeme) (x : P × List Lexeme) → series_step link operand join p ts ≡ Some (Some x)
      → (o : O × List Lexeme) × (link ts ≡ Some o) × ((b : B × List Lexeme) × (operand o.1 ≡ Some b) × (join o.0 p b.0 ≡ Some x.0) × (b.1 ≡ x.1))
  step_parts p ts x e =
      elim (cases_option (link ts)) [
        | inl none ↦ absurd (none_is_end (rw none at e))
        | inr o ↦ (
            let b = bind_some (operand o.0.1) _ (Some x) (rw o.1 at e) in
            let q = bind_some (join o.0.0 p b.0.0) _ (Some x) b.2 in
            let same = some_same (q.0, b.0.1) x (some_same (Some (q.0, b.0.1)) (Some x) q.2) in
            (o.0, o.1, (b.0, b.1, q.1 ∙ ap (λ (y : P × List Lexeme). Some y.0) same, ap (λ (y : P × List Lexeme). y.1) same)))
      ]
    where
      none_is_end : {P : Type 0} {x : P} → Some None ≡ Some (Some x) → ⊥
      none_is_end e = cc

  pub loop_end : (p : P) (ts : List Lexeme) → link ts ≡ None → series_from link operand join p ts ≡ Some (p, ts)
  loop_end p ts e = within_end (series_step link operand join) (length ts) p ts (rw e refl)

  pub loop_stop : (p : P) (ts : List Lexeme) (o : O × List Lexeme) → link ts ≡ Some o → operand o.1 ≡ None → series_from link operand join p ts ≡ None
  loop_stop p ts o e none = within_none (series_step link operand join) (length ts) p ts (rw (e, none) refl)

  pub loop_clash : (p : P) (ts : List Lexeme) (o : O × List Lexeme) (b : B × List Lexeme) → link ts ≡ Some o → operand o.1 ≡ Some b → join o.0 p b.0 ≡ None → series_from link operand join p ts ≡ None
  loop_clash p ts o b e some none = within_none (series_step link operand join) (length ts) p ts (rw (e, some, none) refl)

  steps_shorten : Shortens link → Shortens operand → Steps_shorten (series_step link operand join)
  steps_shorten less lesser p ts x e =
      let parts = step_parts p ts x e in
      let a = less ts parts.0 parts.1 in
      let b = lesser parts.0.1 parts.2.0 parts.2.1 in
      let c : length parts.2.0.1 ≡ length x.1 = ap length parts.2.3 in
      omega (arith, a, b, c)

  pub loop_more : Shortens link → Shortens operand → (p q : P) (ts : List Lexeme) (o : O × List Lexeme) (b : B × List Lexeme) → link ts ≡ Some o → operand o.1 ≡ Some b → join o.0 p b.0 ≡ Some q
      → series_from link operand join p ts ≡ series_from link operand join q b.1
  loop_more less lesser p q ts o b e some joins =
      let a = less ts o e in
      let c = lesser o.1 b some in
      let step : series_step link operand join p ts ≡ Some (Some (q, b.1)) = rw (e, some, joins) refl in
      within_more (series_step link operand join) (length ts) p ts (q, b.1) step
      ∙ within_same (series_step link operand join) (steps_shorten less lesser) (length ts) (suc (length b.1)) q b.1 (omega (arith, a, c)) (omega arith)

  -- ---- soundness: what holds at the front and is kept by each step holds at the end

  module _ (Holds : P → List Lexeme → List Lexeme → Type 0)
      (kept : (p q : P) (o : O) (b : B) (ts us vs rest : List Lexeme) → Holds p ts us → link us ≡ Some (o, vs) → operand vs ≡ Some (b, rest) → join o p b ≡ Some q → Holds q ts rest) where
    within_holds : (most : ℕ) (p : P) (ts us : List Lexeme) (x : P × List Lexeme) → Holds p ts us → steps_within most (series_step link operand join) p us ≡ Some x → Holds x.0 ts x.1
    within_holds zero p ts us x h e = absurd (within_zero (series_step link operand join) p us x e)
    within_holds (suc most) p ts us x h e =
        let step = series_step link operand join in
        elim (cases_option (step p us)) [
          | inl none ↦ absurd (none_not_some (steps_within (suc most) step p us) x (within_none step most p us none) e)
          | inr some ↦ elim (cases_option some.0) [
            | inl end ↦ (
                let same = some_same (p, us) x (sym (within_end step most p us (some.1 ∙ ap (λ (o : Option (P × List Lexeme)). Some o) end)) ∙ e) in
                subst (λ (y : P × List Lexeme). Holds y.0 ts y.1) same h)
            | inr found ↦ (
                let goes = some.1 ∙ ap (λ (o : Option (P × List Lexeme)). Some o) found.1 in
                let parts = step_parts p us found.0 goes in
                let operand_is = parts.2.1 ∙ ap (λ (rest : List Lexeme). Some (parts.2.0.0, rest)) parts.2.3 in
                within_holds most found.0.0 ts found.0.1 x
                (kept p found.0.0 parts.0.0 parts.2.0.0 ts us parts.0.1 found.0.1 h parts.1 operand_is parts.2.2)
                (sym (within_more step most p us found.0 goes) ∙ e))
          ]
        ]

    pub series_holds : (start : List Lexeme → Option (P × List Lexeme)) → ((ts : List Lexeme) (x : P × List Lexeme) → start ts ≡ Some x → Holds x.0 ts x.1)
        → (ts : List Lexeme) (x : P × List Lexeme) → series_at start link operand join ts ≡ Some x → Holds x.0 ts x.1
    series_holds start holds ts x e =
        let s = bind_some (start ts) _ x e in
        within_holds (suc (length s.0.1)) s.0.0 ts s.0.1 x (holds ts s.0 s.1) s.2

  -- ---- completeness: a series is read as far as it goes

  module _ {A C : Type 0} (inject : A → P) (inject' : C → B) (First : A → List Lexeme → List Lexeme → Type 0) (Between : O → List Lexeme → List Lexeme → Type 0) (Operand : C → List Lexeme → List Lexeme → Type 0) (joined : O → A → C → A) (Stops : List Lexeme → Type 0)
      (joins : (o : O) (a : A) (c : C) → join o (inject a) (inject' c) ≡ Some (inject (joined o a c)))
      (links : (o : O) (ts rest : List Lexeme) → Between o ts rest → link ts ≡ Some (o, rest))
      (operands : (c : C) (ts rest : List Lexeme) → Operand c ts rest → Stops rest → operand ts ≡ Some (inject' c, rest))
      (stops : (o : O) (c : C) (us vs rest : List Lexeme) → Between o us vs → Operand c vs rest → Stops us)
      (less : Shortens link) (lesser : Shortens operand) where
    goes_on : (start : List Lexeme → Option (P × List Lexeme)) → ((a : A) (ts rest : List Lexeme) → First a ts rest → Stops rest → start ts ≡ Some (inject a, rest))
        → (a : A) (ts rest : List Lexeme) → Series First Between Operand joined a ts rest → Stops rest → series_at start link operand join ts ≡ series_from link operand join (inject a) rest
    goes_on start starts _ _ _ (first a ts rest h) ends = rw (starts a ts rest h ends) refl
    goes_on start starts _ _ _ (more a o c ts us vs rest h between h') ends =
        goes_on start starts a ts us h (stops o c us vs rest between h')
        ∙ loop_more less lesser (inject a) (inject (joined o a c)) us (o, vs) (inject' c, rest) (links o us vs between) (operands c vs rest h' ends) (joins o a c)

    pub series_is : (start : List Lexeme → Option (P × List Lexeme)) → ((a : A) (ts rest : List Lexeme) → First a ts rest → Stops rest → start ts ≡ Some (inject a, rest))
        → (a : A) (ts rest : List Lexeme) → Series First Between Operand joined a ts rest → Stops rest → link rest ≡ None → series_at start link operand join ts ≡ Some (inject a, rest)
    series_is start starts a ts rest h ends none = goes_on start starts a ts rest h ends ∙ loop_end (inject a) rest none

-- ---- a series takes no fewer tokens than its first

pub series_shorter : {A O B : Type 0} {First : A → List Lexeme → List Lexeme → Type 0} {Between : O → List Lexeme → List Lexeme → Type 0} {Operand : B → List Lexeme → List Lexeme → Type 0} {joined : O → A → B → A} (k : ℕ)
    → ((a : A) (ts rest : List Lexeme) → First a ts rest → length rest + k ≤ length ts) → ((o : O) (ts rest : List Lexeme) → Between o ts rest → length rest < length ts) → ((b : B) (ts rest : List Lexeme) → Operand b ts rest → length rest < length ts)
    → (a : A) (ts rest : List Lexeme) → Series First Between Operand joined a ts rest → length rest + k ≤ length ts
series_shorter k f l o _ _ _ (first a ts rest h) = f a ts rest h
series_shorter k f l o _ _ _ (more a x b ts us vs rest h between h') =
    let p = series_shorter k f l o a ts us h in
    let q = l x us vs between in
    let r = o b vs rest h' in
    omega (arith, p, q, r)

-- and begins as its first does
pub series_begins : {A O B : Type 0} {First : A → List Lexeme → List Lexeme → Type 0} {Between : O → List Lexeme → List Lexeme → Type 0} {Operand : B → List Lexeme → List Lexeme → Type 0} {joined : O → A → B → A} (Begins : List Lexeme → Type 0)
    → ((a : A) (ts rest : List Lexeme) → First a ts rest → Begins ts) → (a : A) (ts rest : List Lexeme) → Series First Between Operand joined a ts rest → Begins ts
series_begins Begins f _ _ _ (first a ts rest h) = f a ts rest h
series_begins Begins f _ _ _ (more a x b ts us vs rest h between h') = series_begins Begins f a ts us h
