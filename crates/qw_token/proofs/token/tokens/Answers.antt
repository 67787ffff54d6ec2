use Rattle.std.proofs.Common.{◌≡◌, ◌++◌, ◌∷◌, [], arith, sym}
use Rattle.std.proofs.lemmas.List.{map_push}
use Rattle.qw_token.specs.Token.{IsAfterGap, after_mark, lexeme, lexemes}
use Rattle.qw_token.proofs.TokenGap.{AfterGap-shorter}
use Rattle.qw_token.proofs.TokenRun.{HasRead-none, HasRead-push, Begins-shorter}
use Rattle.qw_token.proofs.token.tokens.Goals as goal

pub loop-rest-init : goal.loop-rest-init
loop-rest-init c =
    let gap : IsAfterGap (after_mark c.args.text.now) c.after_gap-rest.result.now = rw (sym c.after_mark.ensures) c.after_gap-rest.ensures in
    rw c.new-found.ensures.items (HasRead-none c.args.text.now c.after_gap-rest.result.now gap)

pub loop-rest-smaller : goal.loop-rest-smaller
loop-rest-smaller c =
    let after = c.in-Some.after.now in
    let gap = c.after_gap-rest-in-loop-rest in
    omega (arith, AfterGap-shorter after gap.result.now gap.ensures, Begins-shorter c.loop-rest.rest.now (lexeme c.in-Some.token) after c.in-Some.ensures)

pub loop-rest-preserved : goal.loop-rest-preserved
loop-rest-preserved c =
    let found = c.loop-rest.found.items in
    let token = c.in-Some.token in
    let gap = c.after_gap-rest-in-loop-rest in
    let items : c.push.new.self.items ≡ found ++ token ∷ [] = rw (sym c.in_ok-map_err.ensures.variant) at c.push.ensures.items in
    rw (items, map_push lexeme found token)
    (HasRead-push c.args.text.now (lexemes found) (lexeme token) c.loop-rest.rest.now c.in-Some.after.now gap.result.now c.loop-rest.invariant c.in-Some.ensures gap.ensures)
