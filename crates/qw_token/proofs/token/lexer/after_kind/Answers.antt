use Rattle.std.proofs.Common.{sym, ◌∙◌}
use Rattle.qw_token.proofs.TokenEnds.{IsAfter-word, IsAfter-symbol}
use Rattle.qw_token.proofs.token.lexer.after_kind.Goals as goal

pub returns-in-Word : goal.returns-in-Word
returns-in-Word c = rw (c.in-Word.is, c.after_word.ensures) (IsAfter-word c.args.text.now (sym c.requires ∙ c.in-Word.is))

pub returns-in-Symbol : goal.returns-in-Symbol
returns-in-Symbol c = rw (c.in-Symbol.is, c.after_symbol.ensures) (IsAfter-symbol c.args.text.now (sym c.requires ∙ c.in-Symbol.is))
