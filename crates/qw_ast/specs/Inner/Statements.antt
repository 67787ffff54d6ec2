-- Mirrors the function `cut` of src/statement.rt.
use Rattle.std.specs.Prelude.{List, [], ◌∷◌, if◌then◌else◌}
use Rattle.qw_token.specs.Token.{Lexeme}
use Rattle.qw_ast.specs.SchemaGrammar.{is_semicolon}

-- the first statement, and the tokens behind its `;`
abbrev pub cut : List Lexeme → List Lexeme × List Lexeme
cut [] = ([], [])
cut (t ∷ ts) = if is_semicolon t then ([], ts) else (t ∷ (cut ts).0, (cut ts).1)
