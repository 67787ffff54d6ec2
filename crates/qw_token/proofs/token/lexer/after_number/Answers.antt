use Rattle.std.proofs.Common.{sym, ◌∙◌}
use Rattle.std.proofs.lemmas.Bool.{false≢true}
use Rattle.qw_token.specs.Token.{is_word_octet_or_point}
use Rattle.qw_token.proofs.TokenEnds.{IsAfter-number, IsAfter-no_number}
use Rattle.qw_token.proofs.TokenLemmas.{after_run-shorter}
use Rattle.qw_token.proofs.token.lexer.after_number.Goals as goal

pub slice_bounds-is_number-count : goal.slice_bounds-is_number-count
slice_bounds-is_number-count c = rw c.after_word_and_points-after.ensures (after_run-shorter is_word_octet_or_point c.args.text.now)

pub returns-then-is_number : goal.returns-then-is_number
returns-then-is_number c =
    let after = c.after_word_and_points-after in
    IsAfter-number c.args.text.now after.result.now c.requires after.ensures (c.is_number.ensures.0 c.if-is_number.true)

pub returns-else-is_number : goal.returns-else-is_number
returns-else-is_number c =
    let after = c.after_word_and_points-after in
    IsAfter-no_number c.args.text.now after.result.now after.ensures (λ n. false≢true (sym c.if-is_number.false ∙ c.is_number.ensures.1 n))
