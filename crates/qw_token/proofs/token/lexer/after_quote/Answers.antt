use Rattle.std.proofs.Common.{rules, ◌≡◌, ◌-◌, drop, get_or, length, take}
use Rattle.qw_token.proofs.TokenLemmas.{head_rest, pair_passed}
use Rattle.qw_token.proofs.token.lexer.after_quote.Goals as goal

pub loop-rest-preserved : goal.loop-rest-preserved
loop-rest-preserved c =
    let rest = c.loop-rest.rest.now in
    let after = take (length rest - 1) (drop 1 rest) in
    let first : get_or rest 0 0 ≡ c.args.quote = search rules in
    let second : get_or after 0 0 ≡ c.args.quote = search rules in
    pair_passed c.args.quote (get_or rest 0 0) (get_or after 0 0) rest after (take (length after - 1) (drop 1 after)) _ _ (head_rest rest 0 c.in-len1-up.len_at_least) (head_rest after 0 c.in-len1-up-after.len_at_least) first second
    c.loop-rest.invariant
