-- A reader reads a form exactly: what it takes is of the form, and what is of the form it takes. One lemma for each way to put
-- readers together.
use Rattle.std.proofs.Common.{◌≡◌, true, List, [], ◌∷◌, ◌++◌, Option, Some, None, refl, sym, ap, subst, ◌∙◌, inl, inr}
use Rattle.std.specs.Prelude.{◌⊎◌}
use Rattle.std.specs.List.{AllZip}
use Rattle.qw_token.specs.Token.{Lexeme}
use Rattle.qw_ast.specs.Grammar.{Terminal, Matches}
use Rattle.qw_schema.specs.Inner.Parser.{terminal_at, token_at, fixed_at, behind_at, before_at, both_at, made_at, optional_at, given, then_at, is_none, all_of}
use Rattle.qw_schema.proofs.TerminalLemmas.{bind_some, guard_some, cases_option, some_same, TakesOne, terminal_exactly, Fronts, fronts_append, fronts_split, fronts_whole, fixed_exactly}

-- The reader reads the form exactly. A w says which words the form has, and tree w is what is read then. What `Stops` says must
-- hold of what follows, so that the reader goes no further.
pub record ReadsExactly {W A : Type 0} (form : W → List Terminal) (tree : W → A) (Stops : List Lexeme → Type 0) (read : List Lexeme → Option (A × List Lexeme)) : Type 0 where
  pub takes : (ts : List Lexeme) (x : A × List Lexeme) → read ts ≡ Some x → (w : W) × (tree w ≡ x.0) × Fronts (form w) ts x.1
  pub is : (w : W) (ts rest : List Lexeme) → Fronts (form w) ts rest → Stops rest → read ts ≡ Some (tree w, rest)

-- whatever follows
abbrev pub Anything : List Lexeme → Type 0
Anything rest = Unit {0}

-- ---- one token

token_takes : {W A : Type 0} (terminal : W → Terminal) (tree : W → A) (find : Lexeme → Option A) → ((t : Lexeme) (a : A) → find t ≡ Some a → (w : W) × (tree w ≡ a) × Matches (terminal w) t) → (ts : List Lexeme) (x : A × List Lexeme) → token_at find ts ≡ Some x → (w : W) × (tree w ≡ x.0) × Fronts (terminal w ∷ []) ts x.1
unfolding token_at
token_takes terminal tree find found [] x e = absurd cc
token_takes {A = A} terminal tree find found (t ∷ ts) x e =
    let a = bind_some (find t) (λ y. Some (y, ts)) x e in
    let same = some_same (a.0, ts) x a.2 in
    let w = found t a.0 a.1 in (
      w.0,
      w.1 ∙ ap (λ (y : A × List Lexeme). y.0) same,
      (ts, record { token = t; parts = refl; matches = w.2 }, ap (λ (y : A × List Lexeme). y.1) same),
    )

token_is : {W A : Type 0} (terminal : W → Terminal) (tree : W → A) (find : Lexeme → Option A) → ((w : W) (t : Lexeme) → Matches (terminal w) t → find t ≡ Some (tree w)) → (w : W) (ts rest : List Lexeme) → TakesOne (Matches (terminal w)) ts rest → token_at find ts ≡ Some (tree w, rest)
unfolding token_at
token_is terminal tree find matched w ts rest one = rw (one.parts, matched w one.token one.matches) refl

-- a terminal for what is found in a token
pub token_exactly : {W A : Type 0} (terminal : W → Terminal) (tree : W → A) (find : Lexeme → Option A) → ((t : Lexeme) (a : A) → find t ≡ Some a → (w : W) × (tree w ≡ a) × Matches (terminal w) t) → ((w : W) (t : Lexeme) → Matches (terminal w) t → find t ≡ Some (tree w)) → ReadsExactly (λ w. terminal w ∷ []) tree Anything (token_at find)
token_exactly {A = A} terminal tree find found matched = record {
  takes = token_takes terminal tree find found;
  is = λ w ts rest h _. token_is terminal tree find matched w ts h.0 h.1 ∙ ap (λ (y : List Lexeme). Some (tree w, y)) h.2;
}

-- ---- sequences

-- one behind the other
pub both_exactly : {V W A B : Type 0} {form : V → List Terminal} {tree : V → A} {Stops : List Lexeme → Type 0} {read : List Lexeme → Option (A × List Lexeme)} {form' : W → List Terminal} {tree' : W → B} {Stops' : List Lexeme → Type 0} {read' : List Lexeme → Option (B × List Lexeme)}
    → ReadsExactly form tree Stops read → ReadsExactly form' tree' Stops' read' → ((w : W) (ts rest : List Lexeme) → Fronts (form' w) ts rest → Stops ts)
    → ReadsExactly (λ (w : V × W). form w.0 ++ form' w.1) (λ (w : V × W). (tree w.0, tree' w.1)) Stops' (both_at read read')
both_exactly {A = A} {B = B} {form = form} {tree = tree} {read = read} {form' = form'} {tree' = tree'} {read' = read'} first second stops = record {
  takes = λ ts x e.
      let a = bind_some (read ts) _ x e in
      let b = bind_some (read' a.0.1) _ x a.2 in
      let same = some_same ((a.0.0, b.0.0), b.0.1) x b.2 in
      let v = first.takes ts a.0 a.1 in
      let w = second.takes a.0.1 b.0 b.1 in (
        (v.0, w.0),
        ap (λ (y : A). (y, tree' w.0)) v.1 ∙ ap (λ (y : B). (a.0.0, y)) w.1 ∙ ap (λ (y : (A × B) × List Lexeme). y.0) same,
        subst (λ (y : (A × B) × List Lexeme). Fronts (form v.0 ++ form' w.0) ts y.1) same (fronts_append (form v.0) (form' w.0) ts a.0.1 b.0.1 v.2 w.2),
      );
  is = λ w ts rest h ends.
      let parts = fronts_split (form w.0) (form' w.1) ts rest h in
      rw (first.is w.0 ts parts.0 parts.1 (stops w.1 parts.0 rest parts.2), second.is w.1 parts.0 rest parts.2 ends) refl;
}

-- behind fixed terminals
pub behind_exactly : {W A : Type 0} {form : W → List Terminal} {tree : W → A} {Stops : List Lexeme → Type 0} {read : List Lexeme → Option (A × List Lexeme)} (terminals : List Terminal)
    → ReadsExactly form tree Stops read → ReadsExactly (λ w. terminals ++ form w) tree Stops (behind_at terminals read)
behind_exactly {form = form} {read = read} terminals first = record {
  takes = λ ts x e.
      let a = bind_some (fixed_at terminals ts) (λ rest. read rest) x e in
      let w = first.takes a.0 x a.2 in
      (w.0, w.1, fronts_append terminals (form w.0) ts a.0 x.1 ((fixed_exactly terminals ts a.0).0 a.1) w.2);
  is = λ w ts rest h ends.
      let parts = fronts_split terminals (form w) ts rest h in
      rw ((fixed_exactly terminals ts parts.0).1 parts.1) (first.is w parts.0 rest parts.2 ends);
}

-- before fixed terminals
pub before_exactly : {W A : Type 0} {form : W → List Terminal} {tree : W → A} {Stops : List Lexeme → Type 0} {read : List Lexeme → Option (A × List Lexeme)} (terminals : List Terminal)
    → ReadsExactly form tree Stops read → ((ts rest : List Lexeme) → Fronts terminals ts rest → Stops ts) → ReadsExactly (λ w. form w ++ terminals) tree Anything (before_at read terminals)
before_exactly {A = A} {form = form} {tree = tree} {read = read} terminals first stops = record {
  takes = λ ts x e.
      let a = bind_some (read ts) _ x e in
      let b = bind_some (fixed_at terminals a.0.1) _ x a.2 in
      let same = some_same (a.0.0, b.0) x b.2 in
      let w = first.takes ts a.0 a.1 in (
        w.0,
        w.1 ∙ ap (λ (y : A × List Lexeme). y.0) same,
        subst (λ (y : A × List Lexeme). Fronts (form w.0 ++ terminals) ts y.1) same
            (fronts_append (form w.0) terminals ts a.0.1 b.0 w.2 ((fixed_exactly terminals a.0.1 b.0).0 b.1)),
      );
  is = λ w ts rest h _.
      let parts = fronts_split (form w) terminals ts rest h in
      rw (first.is w ts parts.0 parts.1 (stops parts.0 rest parts.2), (fixed_exactly terminals parts.0 rest).1 parts.2) refl;
}

-- something made of what is read
pub made_exactly : {W A B : Type 0} {form : W → List Terminal} {tree : W → A} {Stops : List Lexeme → Type 0} {read : List Lexeme → Option (A × List Lexeme)} (make : A → B)
    → ReadsExactly form tree Stops read → ReadsExactly form (λ w. make (tree w)) Stops (made_at make read)
made_exactly {A = A} {B = B} {form = form} {read = read} make first = record {
  takes = λ ts x e.
      let a = bind_some (read ts) _ x e in
      let same = some_same (make a.0.0, a.0.1) x a.2 in
      let w = first.takes ts a.0 a.1 in
      (w.0, ap make w.1 ∙ ap (λ (y : B × List Lexeme). y.0) same, subst (λ (y : B × List Lexeme). Fronts (form w.0) ts y.1) same w.2);
  is = λ w ts rest h ends. rw (first.is w ts rest h ends) refl;
}

-- ---- choices

-- no token
pub given_exactly : {A : Type 0} (x : A) → ReadsExactly (λ (w : Unit {0}). []) (λ (w : Unit {0}). x) Anything (given x)
given_exactly {A = A} x = record {
  takes = λ ts y e.
      let same = some_same (x, ts) y e in
      (tt, ap (λ (z : A × List Lexeme). z.0) same, ap (λ (z : A × List Lexeme). z.1) same);
  is = λ w ts rest h _. ap (λ (y : List Lexeme). Some (x, y)) h;
}

-- one form behind a terminal, or another that never begins with it
abbrev pub either_form : {V W : Type 0} → Terminal → (V → List Terminal) → (W → List Terminal) → V ⊎ W → List Terminal
either_form terminal form form' (inl v) = terminal ∷ form v
either_form terminal form form' (inr w) = form' w

abbrev pub either_tree : {V W A : Type 0} → (V → A) → (W → A) → V ⊎ W → A
either_tree tree tree' (inl v) = tree v
either_tree tree tree' (inr w) = tree' w

module _ {V W A : Type 0} {form : V → List Terminal} {tree : V → A} {form' : W → List Terminal} {tree' : W → A} {Stops : List Lexeme → Type 0} {read read' : List Lexeme → Option (A × List Lexeme)} (terminal : Terminal)
    (behind_it : ReadsExactly form tree Stops read) (alone : ReadsExactly form' tree' Stops read') where
  choice_takes : (ts : List Lexeme) (x : A × List Lexeme) → optional_at terminal read read' ts ≡ Some x → (w : V ⊎ W) × (either_tree tree tree' w ≡ x.0) × Fronts (either_form terminal form form' w) ts x.1
  choice_takes ts x e =
      elim (cases_option (terminal_at terminal ts)) [
        | inl none ↦ (let w = alone.takes ts x (rw none at e) in (inr w.0, w.1, w.2))
        | inr some ↦ (let v = behind_it.takes some.0 x (rw some.1 at e) in (inl v.0, v.1, (some.0, (terminal_exactly terminal ts some.0).0 some.1, v.2)))
      ]

  choice_is : ((w : W) (ts rest : List Lexeme) → Fronts (form' w) ts rest → Stops rest → terminal_at terminal ts ≡ None) → (w : V ⊎ W) (ts rest : List Lexeme) → Fronts (either_form terminal form form' w) ts rest → Stops rest → optional_at terminal read read' ts ≡ Some (either_tree tree tree' w, rest)
  choice_is differs (inl v) ts rest h ends = rw ((terminal_exactly terminal ts h.0).1 h.1) (behind_it.is v h.0 rest h.2 ends)
  choice_is differs (inr w) ts rest h ends = rw (differs w ts rest h ends) (alone.is w ts rest h ends)

pub choice_exactly : {V W A : Type 0} {form : V → List Terminal} {tree : V → A} {form' : W → List Terminal} {tree' : W → A} {Stops : List Lexeme → Type 0} {read read' : List Lexeme → Option (A × List Lexeme)} (terminal : Terminal)
    → ReadsExactly form tree Stops read → ReadsExactly form' tree' Stops read' → ((w : W) (ts rest : List Lexeme) → Fronts (form' w) ts rest → Stops rest → terminal_at terminal ts ≡ None)
    → ReadsExactly (either_form terminal form form') (either_tree tree tree') Stops (optional_at terminal read read')
choice_exactly terminal behind_it alone differs = record {
  takes = choice_takes terminal behind_it alone;
  is = choice_is terminal behind_it alone differs;
}

-- ---- what depends on what was read

-- what the second reads behind what the first read, by that
pub then_exactly : {V A B : Type 0} {W : A → Type 0} {form : V → List Terminal} {tree : V → A} {read : List Lexeme → Option (A × List Lexeme)} {form' : (a : A) → W a → List Terminal} {tree' : (a : A) → W a → B} {read' : A → List Lexeme → Option (B × List Lexeme)}
    → ReadsExactly form tree Anything read → ((a : A) → ReadsExactly (form' a) (tree' a) Anything (read' a))
    → ReadsExactly (λ (w : (v : V) × W (tree v)). form w.0 ++ form' (tree w.0) w.1) (λ (w : (v : V) × W (tree v)). tree' (tree w.0) w.1) Anything (then_at read read')
then_exactly {form = form} {tree = tree} {read = read} {form' = form'} {read' = read'} first second = record {
  takes = λ ts x e.
      let a = bind_some (read ts) _ x e in
      let v = first.takes ts a.0 a.1 in
      let w = (second (tree v.0)).takes a.0.1 x (ap (λ y. read' y a.0.1) v.1 ∙ a.2) in
      ((v.0, w.0), w.1, fronts_append (form v.0) (form' (tree v.0) w.0) ts a.0.1 x.1 v.2 w.2);
  is = λ w ts rest h _.
      let parts = fronts_split (form w.0) (form' (tree w.0) w.1) ts rest h in
      rw (first.is w.0 ts parts.0 parts.1 tt) ((second (tree w.0)).is w.1 parts.0 rest parts.2 tt);
}

-- other words for the same forms
pub words_exactly : {V W A : Type 0} {form : V → List Terminal} {tree : V → A} {form' : W → List Terminal} {tree' : W → A} {Stops : List Lexeme → Type 0} {read : List Lexeme → Option (A × List Lexeme)}
    → ((v : V) → (w : W) × (form v ≡ form' w) × (tree v ≡ tree' w)) → ((w : W) → (v : V) × (form v ≡ form' w) × (tree v ≡ tree' w))
    → ReadsExactly form tree Stops read → ReadsExactly form' tree' Stops read
words_exactly to from reads = record {
  takes = λ ts x e.
      let v = reads.takes ts x e in
      let w = to v.0 in
      (w.0, sym w.2 ∙ v.1, subst (λ f. Fronts f ts x.1) w.1 v.2);
  is = λ w ts rest h ends.
      let v = from w in
      reads.is v.0 ts rest (subst (λ f. Fronts f ts rest) (sym v.1) h) ends ∙ ap (λ y. Some (y, rest)) v.2;
}

-- ---- all tokens

none_left : (ts : List Lexeme) → is_none ts ≡ true → ts ≡ []
none_left [] e = refl
none_left (t ∷ ts) e = absurd cc

-- what is read of all tokens is of the form, and what is of the form is read
pub all_exactly : {W A : Type 0} {form : W → List Terminal} {tree : W → A} {Stops : List Lexeme → Type 0} {read : List Lexeme → Option (A × List Lexeme)}
    → ReadsExactly form tree Stops read → Stops [] → (ts : List Lexeme)
    → ((a : A) → all_of read ts ≡ Some a → (w : W) × (tree w ≡ a) × AllZip Matches (form w) ts) × ((w : W) → AllZip Matches (form w) ts → all_of read ts ≡ Some (tree w))
all_exactly {form = form} {tree = tree} {read = read} reads ends ts = (
  λ a e.
      let x = bind_some (read ts) _ a e in
      let g = guard_some (is_none x.0.1) x.0.0 a x.2 in
      let w = reads.takes ts x.0 x.1 in
      (w.0, w.1 ∙ g.1, (fronts_whole (form w.0) ts).0 (subst (Fronts (form w.0) ts) (none_left x.0.1 g.0) w.2)),
  λ w h. rw (reads.is w ts [] ((fronts_whole (form w) ts).1 h) ends) refl,
)
