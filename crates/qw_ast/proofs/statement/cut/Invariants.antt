use Rattle.std.proofs.Common.{◌≡◌, ◌++◌, take, drop}
use Rattle.qw_ast.specs.Inner.Statements.{cut}
use Rattle.qw_token.specs.Token.{lexemes}
use Rattle.qw_ast.proofs.statement.cut.Given as goal

abbrev pub invariant-loop-index : goal.invariant-loop-index
invariant-loop-index l =
    cut (lexemes l.tokens) ≡ (lexemes (take l.index l.tokens) ++ (cut (lexemes (drop l.index l.tokens))).0, (cut (lexemes (drop l.index l.tokens))).1)
