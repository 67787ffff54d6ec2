-- Worked cases are read by computing.
use Rattle.std.proofs.Common.{◌≡◌, List, [], Some, None, sym, ◌∙◌}
use Rattle.qw_token.specs.Token.{Lexeme}
use Rattle.qw_ast.specs.Syntax.{Clause}
use Rattle.qw_parse.specs.Inner.Readers.{nested_at}
use Rattle.qw_parse.specs.Worked.{Says}
use Rattle.qw_parse.proofs.TokenLemmas.{stops_none}
use Rattle.qw_parse.proofs.ConditionLemmas.{nested_exact}

-- what is read of all tokens is what they say
pub says_read : (ts : List Lexeme) (c : Clause) → nested_at 33 ts ≡ Some (c, []) → Says ts c
says_read ts c e = (nested_exact 33).takes ts (c, []) e

-- where nothing is read of them they say nothing
pub says_nothing : (ts : List Lexeme) (c : Clause) → nested_at 33 ts ≡ None → Says ts c → ⊥
says_nothing ts c none says = let read = (nested_exact 33).is c ts [] says (stops_none 1) in absurd (let never : None ≡ Some (c, []) = sym none ∙ read in cc)
