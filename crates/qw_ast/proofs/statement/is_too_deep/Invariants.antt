use Rattle.std.proofs.Common.{◌≡◌, ◌≤◌, drop}
use Rattle.qw_ast.specs.SchemaGrammar.{exceeds}
use Rattle.qw_token.specs.Token.{lexemes}
use Rattle.qw_ast.proofs.statement.is_too_deep.Given as goal

abbrev pub invariant-loop-token : goal.invariant-loop-token
invariant-loop-token l =
    (l.depth ≤ 32) × (exceeds l.depth (lexemes (drop l.token-index l.tokens)) ≡ exceeds 0 (lexemes l.tokens))
