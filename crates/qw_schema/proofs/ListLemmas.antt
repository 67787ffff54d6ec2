-- A list of items with a comma between each two is read exactly, where each item is.
use Rattle.std.proofs.Common.{◌≡◌, ℕ, zero, suc, ◌<◌, List, [], ◌∷◌, ◌++◌, length, map, Option, Some, None, refl, sym, ap, subst, ◌∙◌, arith, inl, inr, append_assoc}
use Rattle.std.proofs.lemmas.List.{length-map}
use Rattle.qw_token.specs.declared.token.Token.{Token}
use Rattle.qw_token.specs.Token.{Lexeme, lexeme, lexemes}
use Rattle.qw_ast.specs.Grammar.{Terminal, Matches, behind_commas, separated}
use Rattle.qw_schema.specs.Inner.Parser.{comma, terminal_at, behind, further_within, further, list_at}
use Rattle.qw_schema.proofs.TerminalLemmas.{bind_some, cases_option, none_not_some, some_same, takes_shorter, TakesOne, terminal_exactly, Fronts, fronts_append, fronts_split, fronts_shorter}
use Rattle.qw_schema.proofs.FormLemmas.{ReadsExactly}

pub behind_behind : {A : Type 0} (front more : List A) (o : Option (List A × List Lexeme)) → behind front (behind more o) ≡ behind (front ++ more) o
behind_behind front more None = refl
behind_behind front more (Some read) = ap (λ x. Some (x, read.1)) (sym (append_assoc front more read.0))

behind_some : {A : Type 0} (front : List A) (o : Option (List A × List Lexeme)) (x : List A × List Lexeme) → behind front o ≡ Some x → (more : List A × List Lexeme) × (o ≡ Some more) × ((front ++ more.0, more.1) ≡ x)
behind_some front None x e = absurd cc
behind_some front (Some read) x e = (read, refl, some_same (front ++ read.0, read.1) x e)

comma_shorter : (ts after : List Lexeme) → terminal_at comma ts ≡ Some after → length after < length ts
comma_shorter ts after e = takes_shorter (Matches comma) ts after ((terminal_exactly comma ts after).0 e)

module _ {A : Type 0} (read : List Lexeme → Option (A × List Lexeme)) where
  -- ---- what stands behind commas, step by step

  within_end : (most : ℕ) (ts : List Lexeme) → terminal_at comma ts ≡ None → further_within (suc most) read ts ≡ Some ([], ts)
  unfolding further_within
  within_end most ts e = rw e refl

  within_stop : (most : ℕ) (ts after : List Lexeme) → terminal_at comma ts ≡ Some after → read after ≡ None → further_within (suc most) read ts ≡ None
  unfolding further_within
  within_stop most ts after e none = rw (e, none) refl

  within_more : (most : ℕ) (ts after : List Lexeme) (x : A × List Lexeme) → terminal_at comma ts ≡ Some after → read after ≡ Some x → further_within (suc most) read ts ≡ behind (x.0 ∷ []) (further_within most read x.1)
  unfolding further_within
  within_more most ts after x e some = rw (e, some) refl

  none_within : (ts : List Lexeme) (x : List A × List Lexeme) → further_within zero read ts ≡ Some x → ⊥
  unfolding further_within
  none_within ts x e = cc

  -- the reader takes a token at least
  abbrev pub Shortens : Type 0
  Shortens = (ts : List Lexeme) (x : A × List Lexeme) → read ts ≡ Some x → length x.1 < length ts

  -- any number that is greater than that of the tokens serves
  within_same : Shortens → (m n : ℕ) (ts : List Lexeme) → length ts < m → length ts < n → further_within m read ts ≡ further_within n read ts
  within_same shortens zero n ts a b = absurd (omega (arith, a))
  within_same shortens (suc m) zero ts a b = absurd (omega (arith, b))
  within_same shortens (suc m) (suc n) ts a b =
      elim (cases_option (terminal_at comma ts)) [
        | inl none ↦ within_end m ts none ∙ sym (within_end n ts none)
        | inr found ↦ elim (cases_option (read found.0)) [
          | inl none ↦ within_stop m ts found.0 found.1 none ∙ sym (within_stop n ts found.0 found.1 none)
          | inr some ↦ (
              let less = comma_shorter ts found.0 found.1 in
              let lesser = shortens found.0 some.0 some.1 in
              within_more m ts found.0 some.0 found.1 some.1
              ∙ ap (behind (some.0.0 ∷ [])) (within_same shortens m n some.0.1 (omega (arith, less, lesser, a)) (omega (arith, less, lesser, b)))
              ∙ sym (within_more n ts found.0 some.0 found.1 some.1))
        ]
      ]

  -- ---- the loop

  pub further_end : (ts : List Lexeme) → terminal_at comma ts ≡ None → further read ts ≡ Some ([], ts)
  further_end ts e = within_end (length ts) ts e

  pub further_stop : (ts after : List Lexeme) → terminal_at comma ts ≡ Some after → read after ≡ None → further read ts ≡ None
  further_stop ts after e none = within_stop (length ts) ts after e none

  pub further_more : Shortens → (ts after : List Lexeme) (x : A × List Lexeme) → terminal_at comma ts ≡ Some after → read after ≡ Some x → further read ts ≡ behind (x.0 ∷ []) (further read x.1)
  further_more shortens ts after x e some =
      let less = comma_shorter ts after e in
      let lesser = shortens after x some in
      within_more (length ts) ts after x e some
      ∙ ap (behind (x.0 ∷ [])) (within_same shortens (length ts) (suc (length x.1)) x.1 (omega (arith, less, lesser)) (omega arith))

  -- the list is what was read of it and what is read of the rest
  pub list_begins : (ts : List Lexeme) (x : A × List Lexeme) → read ts ≡ Some x → list_at read ts ≡ behind (x.0 ∷ []) (further read x.1)
  unfolding list_at
  list_begins ts x e = rw e refl

  pub list_none : (ts : List Lexeme) → read ts ≡ None → list_at read ts ≡ None
  unfolding list_at
  list_none ts e = rw e refl

  pub list_smaller : Shortens → (ts after rest : List Token) (a : A) → terminal_at comma (lexemes ts) ≡ Some (lexemes after) → read (lexemes after) ≡ Some (a, lexemes rest) → length rest < length ts
  list_smaller shortens ts after rest a found some =
      omega (
        arith,
        comma_shorter (lexemes ts) (lexemes after) found,
        shortens (lexemes after) (a, lexemes rest) some,
        length-map ts lexeme,
        length-map rest lexeme,
      )

-- ---- exactly

-- an item that is never of no token takes a token at least
pub exactly_shortens : {W A : Type 0} {form : W → List Terminal} {tree : W → A} {Stops : List Lexeme → Type 0} {read : List Lexeme → Option (A × List Lexeme)} → ReadsExactly form tree Stops read → ((w : W) → 0 < length (form w)) → Shortens read
exactly_shortens {form = form} reads some ts x e = let w = reads.takes ts x e in fronts_shorter (form w.0) ts x.1 (some w.0) w.2

-- no comma follows
abbrev pub NoComma : List Lexeme → Type 0
NoComma rest = terminal_at comma rest ≡ None

-- no comma follows, and what follows stops an item
abbrev pub StopsList : (List Lexeme → Type 0) → List Lexeme → Type 0
StopsList Stops rest = NoComma rest × Stops rest

-- a comma stops an item
abbrev pub CommaStops : (List Lexeme → Type 0) → Type 0
CommaStops Stops = (ts rest : List Lexeme) → TakesOne (Matches comma) ts rest → Stops ts

module _ {W A : Type 0} {form : W → List Terminal} {tree : W → A} {Stops : List Lexeme → Type 0} {read : List Lexeme → Option (A × List Lexeme)} (reads : ReadsExactly form tree Stops read) where
  within_takes : (most : ℕ) (ts : List Lexeme) (x : List A × List Lexeme) → further_within most read ts ≡ Some x → (ws : List W) × (map tree ws ≡ x.0) × Fronts (behind_commas (map form ws)) ts x.1
  within_takes zero ts x e = absurd (none_within read ts x e)
  within_takes (suc most) ts x e =
      elim (cases_option (terminal_at comma ts)) [
        | inl none ↦ (
            let same = some_same ([], ts) x (sym (within_end read most ts none) ∙ e) in
            ([], ap (λ (y : List A × List Lexeme). y.0) same, ap (λ (y : List A × List Lexeme). y.1) same))
        | inr found ↦ elim (cases_option (read found.0)) [
          | inl none ↦ absurd (none_not_some (further_within (suc most) read ts) x (within_stop read most ts found.0 found.1 none) e)
          | inr some ↦ (
              let w = reads.takes found.0 some.0 some.1 in
              let more = behind_some (some.0.0 ∷ []) (further_within most read some.0.1) x (sym (within_more read most ts found.0 some.0 found.1 some.1) ∙ e) in
              let ws = within_takes most some.0.1 more.0 more.1 in (
                w.0 ∷ ws.0,
                ap (λ (y : A). y ∷ map tree ws.0) w.1 ∙ ap (λ (y : List A). some.0.0 ∷ y) ws.1 ∙ ap (λ (y : List A × List Lexeme). y.0) more.2,
                subst (λ (y : List A × List Lexeme). Fronts (behind_commas (map form (w.0 ∷ ws.0))) ts y.1) more.2 (
                  found.0,
                  (terminal_exactly comma ts found.0).0 found.1,
                  fronts_append (form w.0) (behind_commas (map form ws.0)) found.0 some.0.1 more.0.1 w.2 ws.2,
                ),
              ))
        ]
      ]

  behind_stops : CommaStops Stops → (ws : List W) (ts rest : List Lexeme) → Fronts (behind_commas (map form ws)) ts rest → Stops rest → Stops ts
  behind_stops stops [] ts rest h ends = subst Stops (sym h) ends
  behind_stops stops (w ∷ ws) ts rest h ends = stops ts h.0 h.1

  further_is : Shortens read → CommaStops Stops → (ws : List W) (ts rest : List Lexeme) → Fronts (behind_commas (map form ws)) ts rest → StopsList Stops rest → further read ts ≡ Some (map tree ws, rest)
  further_is shortens stops [] ts rest h none = ap (further read) h ∙ further_end read rest none.0
  further_is shortens stops (w ∷ ws) ts rest h none =
      let parts = fronts_split (form w) (behind_commas (map form ws)) h.0 rest h.2 in
      further_more read shortens ts h.0 (tree w, parts.0) ((terminal_exactly comma ts h.0).1 h.1) (reads.is w h.0 parts.0 parts.1 (behind_stops stops ws parts.0 rest parts.2 none.1))
      ∙ ap (behind (tree w ∷ [])) (further_is shortens stops ws parts.0 rest parts.2 none)

  -- one item at least
  abbrev Some_of : Type 0
  Some_of = (ws : List W) × (0 < length ws)

  list_takes : (ts : List Lexeme) (x : List A × List Lexeme) → list_at read ts ≡ Some x → (ws : Some_of) × (map tree ws.0 ≡ x.0) × Fronts (separated (map form ws.0)) ts x.1
  unfolding list_at
  list_takes ts x e =
      let first = bind_some (read ts) (λ first. behind (first.0 ∷ []) (further read first.1)) x e in
      let w = reads.takes ts first.0 first.1 in
      let more = behind_some (first.0.0 ∷ []) (further read first.0.1) x first.2 in
      let ws = within_takes (suc (length first.0.1)) first.0.1 more.0 more.1 in (
        (w.0 ∷ ws.0, omega arith),
        ap (λ (y : A). y ∷ map tree ws.0) w.1 ∙ ap (λ (y : List A). first.0.0 ∷ y) ws.1 ∙ ap (λ (y : List A × List Lexeme). y.0) more.2,
        subst (λ (y : List A × List Lexeme). Fronts (separated (map form (w.0 ∷ ws.0))) ts y.1) more.2
            (fronts_append (form w.0) (behind_commas (map form ws.0)) ts first.0.1 more.0.1 w.2 ws.2),
      )

  list_is : Shortens read → CommaStops Stops → (ws : List W) (ts rest : List Lexeme) → 0 < length ws → Fronts (separated (map form ws)) ts rest → StopsList Stops rest → list_at read ts ≡ Some (map tree ws, rest)
  list_is shortens stops [] ts rest some h none = absurd (omega (arith, some))
  list_is shortens stops (w ∷ ws) ts rest some h none =
      let parts = fronts_split (form w) (behind_commas (map form ws)) ts rest h in
      list_begins read ts (tree w, parts.0) (reads.is w ts parts.0 parts.1 (behind_stops stops ws parts.0 rest parts.2 none.1))
      ∙ ap (behind (tree w ∷ [])) (further_is shortens stops ws parts.0 rest parts.2 none)

-- a list of one item at least, where each has a token, and a comma stops each
pub list_exactly : {W A : Type 0} {form : W → List Terminal} {tree : W → A} {Stops : List Lexeme → Type 0} {read : List Lexeme → Option (A × List Lexeme)} → ReadsExactly form tree Stops read → ((w : W) → 0 < length (form w)) → CommaStops Stops
    → ReadsExactly (λ (ws : (ws : List W) × (0 < length ws)). separated (map form ws.0)) (λ (ws : (ws : List W) × (0 < length ws)). map tree ws.0) (StopsList Stops) (list_at read)
list_exactly reads some stops = record {
  takes = list_takes reads;
  is = λ ws ts rest h none. list_is reads (exactly_shortens reads some) stops ws.0 ts rest ws.1 h none;
}
