-- The words of functions: each is in upper case, is neither NOT nor CASE, and begins an expression.
use Rattle.std.proofs.Common.{◌≡◌, ℕ, true, false, List, Some, None, refl}
use Rattle.std.specs.Prelude.{codes, IsTrue}
use Rattle.qw_token.specs.Token.{Lexeme}
use Rattle.qw_token.specs.declared.token.Kind.TheVariants.{Word}
use Rattle.qw_scalar.specs.declared.expression.Function.{Function}
use Rattle.qw_scalar.specs.declared.expression.Function.TheVariants.{Coalesce, NullIf}
use Rattle.qw_ast.specs.ScriptGrammar.{function_of, is_name, is_word}
use Rattle.qw_parse.proofs.TokenLemmas.{told_or, word_is}
use Rattle.qw_parse.proofs.ExactLemmas.{BeginsAs}
use Rattle.qw_parse.proofs.PrimaryLemmas.{name_no_word}

abbrev pub call_word_of : Function → List ℕ
call_word_of Coalesce = codes "COALESCE"
call_word_of NullIf = codes "NULLIF"

pub call_word : (t : Lexeme) (f : Function) → function_of t ≡ Some f → IsTrue (is_word (call_word_of f) t)
call_word t f e =
    let R = λ (g : Function). IsTrue (is_word (call_word_of g) t) in
    told_or R _ Coalesce f _ e (λ h. h) (λ e1.
    told_or R _ NullIf f None e1 (λ h. h) (λ e2. absurd cc))

pub call_begins : (f : Function) → BeginsAs (call_word_of f)
call_begins Coalesce = record { folded_is = refl; no_not = refl; begins = refl }
call_begins NullIf = record { folded_is = refl; no_not = refl; begins = refl }

is_no_case : (f : Function) → is_word (codes "CASE") (record { kind = Word; octets = call_word_of f }) ≡ false
is_no_case Coalesce = refl
is_no_case NullIf = refl

pub call_no_case : (t : Lexeme) (f : Function) → function_of t ≡ Some f → is_word (codes "CASE") t ≡ false
call_no_case t f e = let is = word_is (call_word_of f) t (call_word t f e) in rw (is.0, is.1) (rw ((call_begins f).folded_is) at (is_no_case f))

-- a name is none of them
pub name_no_call : (t : Lexeme) → is_name t ≡ true → function_of t ≡ None
name_no_call t h = rw (name_no_word (codes "COALESCE") t refl refl h, name_no_word (codes "NULLIF") t refl refl h) refl
