use Rattle.std.proofs.Common.{◌≡◌, ℕ, suc, ◌<◌, List, Bor, length, Result, Err, vec_len, refl, sym, ap, subst, ◌∙◌, arith, rules}
use Rattle.std.proofs.lemmas.Bool.{eqb-false}
use Rattle.qw_module.specs.Syntax.{code_of}
use Rattle.qw_module.specs.Places.{tokens_of, IsRefusedAt}
use Rattle.qw_scan.specs.declared.body.BodyFault.{BodyFault}
use Rattle.qw_scan.specs.declared.body.BodyFault.TheVariants.{At}
use Rattle.qw_scan.specs.Inner.Tables.{typing_of}
use Rattle.qw_scan.specs.Inner.Walking.{walked_of}
use Rattle.qw_scan.proofs.BodyLemmas.{on_first, on_done, on_more, on_refused}
use Rattle.qw_scan.proofs.body.check_body.Goals as goal

abbrev at_of : {A : Type 0} → Result A BodyFault → ℕ
at_of (Err (At at)) = at
at_of _ = 0

pub loop-at-init : goal.loop-at-init
loop-at-init c = on_first c.args.scope c.args.octets.now c.in-Ok.walk c.in-Ok.ensures.first c.in-Ok.ensures.scope

pub returns-then-is_empty-clause-typable : goal.returns-then-is_empty-clause-typable
returns-then-is_empty-clause-typable c =
    let l = c.loop-at in
    let none : length l.walk.frames.items ≡ 0 = search rules in
    on_done c.args.scope c.args.octets.now l.at l.walk l.rest.now l.invariant none

pub returns-in-Err-IllTyped-clause-refused : goal.returns-in-Err-IllTyped-clause-refused
returns-in-Err-IllTyped-clause-refused c =
    let l = c.loop-at in
    let filled = eqb-false (vec_len l.walk.frames) 0 (sym c.is_empty.ensures ∙ c.if-is_empty.false) in
    let some : 0 < length l.walk.frames.items = omega (arith, l.walk.frames.ok.0, filled) in
    let below : l.at < suc (length c.args.octets.now) = omega (arith, c.loop-at-test.true) in
    λ body behind e at same.
    subst (IsRefusedAt (typing_of c.args.scope) (tokens_of (code_of body))) (ap at_of same)
    (on_refused c.args.scope c.args.octets.now l.at l.walk l.rest.now l.invariant some below c.in-len1-up.len_at_least (λ (rest : Bor (List ℕ)). (walked_of c.step.new.self, rest.now))
    (rw (c.in-Err-IllTyped.field-0-is) at c.in-Err-IllTyped.ensures.stepped) body behind e)

pub loop-at-preserved : goal.loop-at-preserved
loop-at-preserved c =
    let l = c.loop-at in
    let filled = eqb-false (vec_len l.walk.frames) 0 (sym c.is_empty.ensures ∙ c.if-is_empty.false) in
    let some : 0 < length l.walk.frames.items = omega (arith, l.walk.frames.ok.0, filled) in
    let below : l.at < suc (length c.args.octets.now) = omega (arith, c.loop-at-test.true) in
    on_more c.args.scope c.args.octets.now l.at l.walk l.rest.now l.invariant some below c.in-len1-up.len_at_least (λ (rest : Bor (List ℕ)). (walked_of c.step.new.self, rest.now)) c.in-Ok-step.after c.step.new.self c.in-Ok-step.after.now
    c.in-Ok-step.ensures.stepped refl c.in-Ok-step.ensures.scope
