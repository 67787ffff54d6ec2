-- Operands of one rank with operators between them are read exactly, where the operands are.
use Rattle.std.proofs.Common.{◌≡◌, ◌<◌, ◌≤◌, ◌+◌, List, length, Option, Some, None, sym, subst, arith, inl, inr}
use Rattle.std.specs.Prelude.{◌⊎◌}
use Rattle.qw_token.specs.Token.{Lexeme}
use Rattle.qw_ast.specs.Syntax.{Clause}
use Rattle.qw_ast.specs.ScriptGrammar.{Series, more, IsOperator}
use Rattle.qw_parse.specs.Inner.Readers.{token_at, series_at}
use Rattle.qw_parse.proofs.LoopLemmas.{loop_end, series_holds, series_is, series_shorter, series_begins}
use Rattle.qw_parse.proofs.TokenLemmas.{token_shortens}
use Rattle.qw_parse.proofs.ExactLemmas.{Starts, Exact, exact_shortens, operator_takes, operator_is, operator_shorter}

-- A rank: operands F, of a sort that is put into the clauses by `inject`, with operators between them. R and S tell which clauses
-- the operands and the whole are; such of another sort are no operands of an operator.
pub record Rank {A O : Type 0} (inject : A → Clause) (meaning : Lexeme → Option O) (F : A → List Lexeme → List Lexeme → Type 0) (joined : O → A → A → A) (join : O → Clause → Clause → Option Clause)
    (R S : Clause → List Lexeme → List Lexeme → Type 0) (EndsR EndsS : List Lexeme → Type 0) : Type 0 where
  pub operand : (a : A) (ts rest : List Lexeme) → R (inject a) ts rest → F a ts rest
  pub clause : (a : A) (ts rest : List Lexeme) → F a ts rest → R (inject a) ts rest
  pub alone : (p : Clause) (ts rest : List Lexeme) → R p ts rest → S p ts rest
  pub whole : (a : A) (ts rest : List Lexeme) → Series F (IsOperator meaning) F joined a ts rest → S (inject a) ts rest
  pub series : (a : A) (ts rest : List Lexeme) → S (inject a) ts rest → Series F (IsOperator meaning) F joined a ts rest
  pub sorts : (p : Clause) (ts rest : List Lexeme) → S p ts rest → ((a : A) × (p ≡ inject a) × Series F (IsOperator meaning) F joined a ts rest) ⊎ R p ts rest
  pub joins : (o : O) (a b : A) → join o (inject a) (inject b) ≡ Some (inject (joined o a b))
  pub parts : (o : O) (p q r : Clause) → join o p q ≡ Some r → (a : A) × (b : A) × (p ≡ inject a) × (q ≡ inject b) × (r ≡ inject (joined o a b))
  pub ends : (rest : List Lexeme) → EndsS rest → EndsR rest
  pub none : (rest : List Lexeme) → EndsS rest → token_at meaning rest ≡ None
  pub between : (o : O) (a : A) (us vs rest : List Lexeme) → IsOperator meaning o us vs → F a vs rest → EndsR us

pub rank_exact : {A O : Type 0} (inject : A → Clause) (meaning : Lexeme → Option O) (F : A → List Lexeme → List Lexeme → Type 0) (joined : O → A → A → A) (join : O → Clause → Clause → Option Clause)
    (R S : Clause → List Lexeme → List Lexeme → Type 0) (EndsR EndsS : List Lexeme → Type 0) (read : List Lexeme → Option (Clause × List Lexeme))
    → Rank inject meaning F joined join R S EndsR EndsS → Exact R EndsR read → Exact S EndsS (series_at read (token_at meaning) read join)
rank_exact inject meaning F joined join R S EndsR EndsS read rank reads = record {
  takes =
      series_holds (token_at meaning) read join S
      (λ p q o b ts us vs rest h link operand joins.
      let parts = rank.parts o p b q joins in
      let left = rank.series parts.0 ts us (subst (λ y. S y ts us) parts.2 h) in
      let right = rank.operand parts.1 vs rest (subst (λ y. R y vs rest) parts.3 (reads.takes vs (b, rest) operand)) in
      subst (λ y. S y ts rest) (sym parts.4) (rank.whole (joined o parts.0 parts.1) ts rest (more parts.0 o parts.1 ts us vs rest left (operator_takes meaning us (o, vs) link) right)))
      read
      (λ ts x e. rank.alone x.0 ts x.1 (reads.takes ts x e));
  is = λ p ts rest h ends.
      elim (rank.sorts p ts rest h) [
        | inr alone ↦ rw (reads.is p ts rest alone (rank.ends rest ends)) (loop_end (token_at meaning) read join p rest (rank.none rest ends))
        | inl series ↦ rw series.1
            (series_is (token_at meaning) read join inject inject F (IsOperator meaning) F joined EndsR
            rank.joins
            (operator_is meaning)
            (λ a us vs f ends. reads.is (inject a) us vs (rank.clause a us vs f) ends)
            rank.between
            (token_shortens meaning) (exact_shortens reads)
            read
            (λ a us vs f ends. reads.is (inject a) us vs (rank.clause a us vs f) ends)
            series.0 ts rest series.2 (rank.ends rest ends) (rank.none rest ends))
      ];
  shorter = λ p ts rest h.
      elim (rank.sorts p ts rest h) [
        | inr alone ↦ reads.shorter p ts rest alone
        | inl series ↦ (
            let s = series_shorter 1 (λ a us vs f. at_least us vs (reads.shorter (inject a) us vs (rank.clause a us vs f))) (operator_shorter meaning) (λ a us vs f. reads.shorter (inject a) us vs (rank.clause a us vs f)) series.0 ts rest series.2 in
            omega (arith, s))
      ];
  begins = λ p ts rest h.
      elim (rank.sorts p ts rest h) [
        | inr alone ↦ reads.begins p ts rest alone
        | inl series ↦ series_begins Starts (λ a us vs f. reads.begins (inject a) us vs (rank.clause a us vs f)) series.0 ts rest series.2
      ];
}
  where
    at_least : (us vs : List Lexeme) → length vs < length us → length vs + 1 ≤ length us
    at_least us vs h = omega (arith, h)
