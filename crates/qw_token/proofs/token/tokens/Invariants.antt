use Rattle.std.proofs.Common.{length}
use Rattle.qw_token.specs.Token.{lexemes}
use Rattle.qw_token.proofs.TokenRun.{HasRead}
use Rattle.qw_token.proofs.token.tokens.Given as goal

abbrev pub invariant-loop-rest : goal.invariant-loop-rest
invariant-loop-rest l = HasRead l.text (lexemes l.found.items) l.rest

abbrev pub decreases-loop-rest : goal.decreases-loop-rest
decreases-loop-rest l = length l.rest
