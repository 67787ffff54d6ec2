use Rattle.std.proofs.Common.{List, ℕ, ◌∙◌, subst, sym}
use Rattle.std.proofs.lemmas.Bool.{ne_eqb}
use Rattle.qw_types.proofs.LikeTaking.{Goes, goes_more, goes_on, goes_to_run, goes_whole}
use Rattle.qw_types.proofs.like.take.Goals as goal

pub returns-then-wanted-eq37 : goal.returns-then-wanted-eq37
returns-then-wanted-eq37 c =
    goes_to_run c.args.pattern.now c.args.text.now c.loop-wanted.pattern_left.now c.loop-wanted.text_left.now c.in-Some.wanted.now c.in-Some.rest.now c.in-Some.ensures.cases.0
    c.if-wanted-eq37.true c.loop-wanted.invariant

pub loop-wanted-preserved : goal.loop-wanted-preserved
loop-wanted-preserved c =
    subst (λ (left : List ℕ). Goes c.args.pattern.now c.args.text.now c.in-Some.rest.now left) (sym c.onward-text_left.ensures)
    (goes_on c.args.pattern.now c.args.text.now c.loop-wanted.pattern_left.now c.loop-wanted.text_left.now c.in-Some.wanted.now c.in-Some.rest.now c.in-Some-split_first.octet.now c.in-Some-split_first.left.now
    c.in-Some.ensures.cases.0 c.in-Some-split_first.ensures.cases.0 (ne_eqb _ _ c.if-wanted-eq37.false) (sym c.takes.ensures ∙ c.if-not-takes.false) c.loop-wanted.invariant)

pub returns-then-is_empty : goal.returns-then-is_empty
returns-then-is_empty c =
    goes_whole c.args.pattern.now c.args.text.now c.loop-wanted.pattern_left.now c.loop-wanted.text_left.now c.in_default.ensures.cases c.if-is_empty.ensures c.loop-wanted.invariant

pub returns-else-is_empty : goal.returns-else-is_empty
returns-else-is_empty c =
    goes_more c.args.pattern.now c.args.text.now c.loop-wanted.pattern_left.now c.loop-wanted.text_left.now c.in_default.ensures.cases c.if-is_empty.ensures c.loop-wanted.invariant
