-- The rest of a predicate, told by which token is next: a comparison, IS, BETWEEN, IN or LIKE, or none of them, and then no NOT.
use Rattle.std.proofs.Common.{◌≡◌, Bool, true, false, List, Option, Some, None, refl, sym, ap, ◌∙◌, inl, inr}
use Rattle.std.specs.Prelude.{codes}
use Rattle.qw_token.specs.Token.{Lexeme}
use Rattle.qw_ast.specs.Syntax.{Expression, Clause, expression}
use Rattle.qw_ast.specs.ScriptGrammar.{comparison_of}
use Rattle.qw_scalar.specs.declared.comparison.Comparison.{Comparison}
use Rattle.qw_parse.specs.Inner.Readers.{token_at, word_at, not_at, between_at, in_at, compare_at, like_at, value_test_at, condition_clause, ranged_at, tail_at}
use Rattle.qw_parse.proofs.LoopLemmas.{cases_option}

not_none : (ts us : List Lexeme) → (false, us) ≡ not_at ts → us ≡ ts
unfolding not_at
not_none ts us e =
    elim (cases_option (word_at (codes "NOT") ts)) [
      | inl none ↦ ap (λ (x : Bool × List Lexeme). x.1) (rw none at e)
      | inr found ↦ absurd (let h : (false, us) ≡ (true, found.0) = rw found.1 at e in let f : false ≡ true = ap (λ (x : Bool × List Lexeme). x.0) h in cc)
    ]

module _ (inner : List Lexeme → Option (Clause × List Lexeme)) (x : Expression) (ts : List Lexeme) where
  pub tail_compare : (op : Comparison) (us : List Lexeme) → token_at comparison_of ts ≡ Some (op, us) → tail_at inner x ts ≡ condition_clause (compare_at inner op x us)
  unfolding tail_at
  tail_compare op us found = rw found refl

  module _ (no_comparison : token_at comparison_of ts ≡ None) (a : List Lexeme) (a_is : a ≡ ts) where
    pub tail_value_test : (us : List Lexeme) → word_at (codes "IS") a ≡ Some us → tail_at inner x ts ≡ condition_clause (value_test_at x us)
    unfolding tail_at
    tail_value_test us found = let is = rw a_is at found in rw (no_comparison, is) refl

    module _ (no_is : word_at (codes "IS") a ≡ None) (b : List Lexeme) (b_is : b ≡ a) (negated : Bool) (c : List Lexeme) (read_not : (negated, c) ≡ not_at b) where
      behind_not : not_at ts ≡ (negated, c)
      behind_not = let same_b : b ≡ ts = b_is ∙ a_is in sym (rw same_b at read_not)

      pub tail_between : (us : List Lexeme) → word_at (codes "BETWEEN") c ≡ Some us → tail_at inner x ts ≡ condition_clause (between_at inner negated x us)
      unfolding tail_at ranged_at
      tail_between us found = let none_is = rw a_is at no_is in rw (no_comparison, none_is, behind_not, found) refl

      module _ (no_between : word_at (codes "BETWEEN") c ≡ None) (d : List Lexeme) (d_is : d ≡ c) where
        pub tail_in : (us : List Lexeme) → word_at (codes "IN") d ≡ Some us → tail_at inner x ts ≡ condition_clause (in_at inner negated x us)
        unfolding tail_at ranged_at
        tail_in us found =
            let none_is = rw a_is at no_is in
            let is_in = rw d_is at found in
            rw (no_comparison, none_is, behind_not, no_between, is_in) refl

        pub tail_like : (no_in : word_at (codes "IN") d ≡ None) (e : List Lexeme) → e ≡ d → (us : List Lexeme) → word_at (codes "LIKE") e ≡ Some us → tail_at inner x ts ≡ condition_clause (like_at negated x us)
        unfolding tail_at ranged_at
        tail_like no_in e e_is us found =
            let none_is = rw a_is at no_is in
            let none_in = rw d_is at no_in in
            let same_e : e ≡ c = e_is ∙ d_is in
            let is_like = rw same_e at found in
            rw (no_comparison, none_is, behind_not, no_between, none_in, is_like) refl

pub tail_alone : (inner : List Lexeme → Option (Clause × List Lexeme)) (x : Expression) (ts a b c d e f : List Lexeme) (negated : Bool)
    → token_at comparison_of ts ≡ None → a ≡ ts → word_at (codes "IS") a ≡ None → b ≡ a → (negated, c) ≡ not_at b → negated ≡ false → word_at (codes "BETWEEN") c ≡ None → d ≡ c → word_at (codes "IN") d ≡ None → e ≡ d
    → word_at (codes "LIKE") e ≡ None → f ≡ e → tail_at inner x ts ≡ Some (expression x, f)
unfolding tail_at ranged_at
tail_alone inner x ts a b c d e f negated no_comparison a_is no_is b_is found false_is no_between d_is no_in e_is no_like f_is =
    let from_b : (false, c) ≡ not_at b = rw false_is at found in
    let same_b : b ≡ ts = b_is ∙ a_is in
    let same_c : c ≡ ts = not_none b c from_b ∙ same_b in
    let same_d : d ≡ ts = d_is ∙ same_c in
    let same_e : e ≡ ts = e_is ∙ same_d in
    let none_is = rw a_is at no_is in
    let not_is : not_at ts ≡ (false, ts) = sym (rw (same_c, same_b) at from_b) in
    let none_between = rw same_c at no_between in
    let none_in = rw same_d at no_in in
    let none_like = rw same_e at no_like in
    rw (no_comparison, none_is, not_is, none_between, none_in, none_like, f_is, same_e) refl
