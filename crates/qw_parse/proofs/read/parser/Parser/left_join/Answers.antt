use Rattle.std.proofs.Common.{◌≡◌, true, false, List, [], ◌∷◌, Some, None, refl, arith}
use Rattle.std.specs.Prelude.{codes}
use Rattle.qw_token.specs.Token.{Lexeme, lexeme}
use Rattle.qw_ast.specs.ScriptGrammar.{is_word}
use Rattle.qw_parse.specs.Inner.Readers.{left_join_at, one_at}
use Rattle.qw_parse.specs.Inner.Parser.{behind, first_of, left}
use Rattle.qw_parse.proofs.LoopLemmas.{some_same}
use Rattle.qw_parse.proofs.read.parser.Parser.left_join.Goals as goal

-- LEFT OUTER without JOIN behind it
no_join_behind : (ts : List Lexeme) (a b c : Lexeme) → first_of ts ≡ Some a → first_of (behind ts) ≡ Some b → first_of (behind (behind ts)) ≡ Some c
    → is_word (codes "LEFT") a ≡ true → is_word (codes "JOIN") b ≡ false → is_word (codes "OUTER") b ≡ true → is_word (codes "JOIN") c ≡ false → left_join_at ts ≡ None
unfolding left_join_at one_at
no_join_behind [] a b c e f g p q r s = absurd cc
no_join_behind (t ∷ []) a b c e f g p q r s = absurd cc
no_join_behind (t ∷ u ∷ []) a b c e f g p q r s = absurd cc
no_join_behind (t ∷ u ∷ v ∷ ts) a b c e f g p q r s = rw (some_same t a e, some_same u b f, some_same v c g) (rw (p, q, r, s) refl)

pub returns-then-not-is_word-3-clause-found : goal.returns-then-not-is_word-3-clause-found
returns-then-not-is_word-3-clause-found c =
    no_join_behind (left c.args.self.now) (lexeme c.in-Some-Some.first) (lexeme c.in-Some-Some.second) (lexeme c.in-Some.third)
    (grind arith) (grind arith) (grind arith) (grind arith) (grind arith) (grind arith) (grind arith)
