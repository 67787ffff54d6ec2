use Rattle.std.proofs.Common.{◌≡◌, length, option_map}
use Rattle.qw_token.specs.Inner.Lexer.{after_quote, or_closed}
use Rattle.qw_token.proofs.token.lexer.after_quote.Given as goal

-- what is found in the rest, and without it what was found before, is what is found in the text
abbrev pub invariant-loop-rest : goal.invariant-loop-rest
invariant-loop-rest l = or_closed (after_quote l.quote l.rest) (option_map (λ x. x.now) l.closed) ≡ after_quote l.quote l.text

abbrev pub decreases-loop-rest : goal.decreases-loop-rest
decreases-loop-rest l = length l.rest
