use Rattle.qw_token.proofs.TokenEnds.{IsAfter-string}
use Rattle.qw_token.proofs.TokenLemmas.{behind_first}
use Rattle.qw_token.proofs.token.lexer.after_string.Goals as goal

pub returns : goal.returns
returns c = rw (c.after_quote.ensures, behind_first c.args.text.now) (IsAfter-string c.args.text.now c.requires)
