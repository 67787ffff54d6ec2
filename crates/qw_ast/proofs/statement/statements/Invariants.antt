use Rattle.std.proofs.Common.{◌≡◌, ◌++◌, map, length}
use Rattle.qw_ast.specs.SchemaGrammar.{statements}
use Rattle.qw_token.specs.Token.{lexemes}
use Rattle.qw_ast.proofs.statement.statements.Given as goal

abbrev pub invariant-loop-rest : goal.invariant-loop-rest
invariant-loop-rest l = map (λ s. lexemes s.now) l.found.items ++ statements (lexemes l.rest) ≡ statements (lexemes l.fn.tokens)

abbrev pub decreases-loop-rest : goal.decreases-loop-rest
decreases-loop-rest l = length l.rest
