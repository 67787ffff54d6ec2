-- How deep brackets are nested: the test decides it, and what the loop of `is_too_deep` keeps.
use Rattle.std.proofs.Common.{◌≡◌, ℕ, zero, suc, ◌+◌, ◌<◌, ◌≤◌, true, false, ltb, ◌||◌, List, [], ◌∷◌, length, take, drop, get_or, refl, sym, ap, subst, ◌∙◌, arith, inl, inr, le-ltb}
use Rattle.std.specs.Bool.{Decides}
use Rattle.std.proofs.lemmas.Bool.{cases_Bool, or_cases, or_left, or_right, lt-ltb, ltb-true, ltb-false, false≢true}
use Rattle.std.proofs.lemmas.List.{length-drop}
use Rattle.qw_token.specs.declared.token.Token.{Token}
use Rattle.qw_token.specs.Token.{Lexeme, lexeme, lexemes}
use Rattle.qw_ast.specs.SchemaGrammar.{IsTooDeep, depth_behind, depth_after, exceeds}
use Rattle.qw_ast.proofs.StatementLemmas.{drop_next, is_no_list}

-- ---- the test

exceeds_deep : (depth : ℕ) (ts : List Lexeme) → exceeds depth ts ≡ true → (count : ℕ) × (32 < depth_after depth (take count ts))
unfolding exceeds
exceeds_deep depth [] e = absurd (false≢true e)
exceeds_deep depth (t ∷ ts) e =
    elim (or_cases (ltb 32 (depth_behind depth t)) (exceeds (depth_behind depth t) ts) e) [
      | inl now ↦ (1, ltb-true 32 (depth_behind depth t) now)
      | inr more ↦ (let rest = exceeds_deep (depth_behind depth t) ts more in (suc rest.0, rest.1))
    ]

deep_exceeds : (depth : ℕ) (ts : List Lexeme) (count : ℕ) → depth ≤ 32 → 32 < depth_after depth (take count ts) → exceeds depth ts ≡ true
unfolding exceeds
deep_exceeds depth [] zero le deep = absurd (omega (arith, le, deep))
deep_exceeds depth [] (suc count) le deep = absurd (omega (arith, le, deep))
deep_exceeds depth (t ∷ ts) zero le deep = absurd (omega (arith, le, deep))
deep_exceeds depth (t ∷ ts) (suc count) le deep =
    elim (cases_Bool (ltb 32 (depth_behind depth t))) [
      | inl now ↦ or_left (ltb 32 (depth_behind depth t)) (exceeds (depth_behind depth t) ts) now
      | inr not_yet ↦ or_right (ltb 32 (depth_behind depth t)) (exceeds (depth_behind depth t) ts)
          (deep_exceeds (depth_behind depth t) ts count (ltb-false 32 (depth_behind depth t) not_yet) deep)
    ]

-- whether a statement is too deep
pub deep-Decides : (ts : List Lexeme) → Decides (exceeds 0 ts) (IsTooDeep ts)
deep-Decides ts = (exceeds_deep 0 ts, λ deep. deep_exceeds 0 ts deep.0 (omega arith) deep.1)

pub shallow_test : (ts : List Lexeme) → (IsTooDeep ts → ⊥) → exceeds 0 ts ≡ false
shallow_test ts shallow =
    elim (cases_Bool (exceeds 0 ts)) [
      | inl deep ↦ absurd (shallow ((deep-Decides ts).0 deep))
      | inr e ↦ e
    ]

-- ---- the loop

exceeds_next : (ts : List Token) (i depth : ℕ) (d : Token) → i < length ts → exceeds depth (lexemes (drop i ts)) ≡ (ltb 32 (depth_behind depth (lexeme (get_or ts i d))) || exceeds (depth_behind depth (lexeme (get_or ts i d))) (lexemes (drop (i + 1) ts)))
unfolding exceeds
exceeds_next ts i depth d lt = ap (λ (x : List Token). exceeds depth (lexemes x)) (drop_next ts i d lt)

pub exceeds_ends : (ts : List Token) (i depth next : ℕ) (d : Token) → i < length ts → next ≡ depth_behind depth (lexeme (get_or ts i d)) → 32 < next → exceeds depth (lexemes (drop i ts)) ≡ exceeds 0 (lexemes ts) → true ≡ exceeds 0 (lexemes ts)
exceeds_ends ts i depth next d lt is deep before =
    let test : ltb 32 (depth_behind depth (lexeme (get_or ts i d))) ≡ true = subst (λ x. ltb 32 x ≡ true) is (lt-ltb 32 next deep) in
    sym (ap (λ b. b || exceeds (depth_behind depth (lexeme (get_or ts i d))) (lexemes (drop (i + 1) ts))) test) ∙ sym (exceeds_next ts i depth d lt) ∙ before

pub exceeds_goes_on : (ts : List Token) (i depth next : ℕ) (d : Token) → i < length ts → next ≡ depth_behind depth (lexeme (get_or ts i d)) → next ≤ 32 → exceeds depth (lexemes (drop i ts)) ≡ exceeds 0 (lexemes ts) → exceeds next (lexemes (drop (i + 1) ts)) ≡ exceeds 0 (lexemes ts)
exceeds_goes_on ts i depth next d lt is shallow before =
    let test : ltb 32 (depth_behind depth (lexeme (get_or ts i d))) ≡ false = subst (λ x. ltb 32 x ≡ false) is (le-ltb 32 next shallow) in
    ap (λ k. exceeds k (lexemes (drop (i + 1) ts))) is
    ∙ sym (ap (λ b. b || exceeds (depth_behind depth (lexeme (get_or ts i d))) (lexemes (drop (i + 1) ts))) test)
    ∙ sym (exceeds_next ts i depth d lt) ∙ before

pub exceeds_none : (depth : ℕ) → exceeds depth [] ≡ false
unfolding exceeds
exceeds_none depth = refl

pub exceeds_done : (ts : List Token) (i depth : ℕ) → length ts ≤ i → exceeds depth (lexemes (drop i ts)) ≡ exceeds 0 (lexemes ts) → false ≡ exceeds 0 (lexemes ts)
exceeds_done ts i depth le before =
    let none : drop i ts ≡ [] = is_no_list (drop i ts) (omega (arith, length-drop i ts, le)) in
    sym (ap (λ (x : List Token). exceeds depth (lexemes x)) none ∙ exceeds_none depth) ∙ before
