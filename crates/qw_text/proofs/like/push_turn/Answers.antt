use Rattle.std.proofs.Common.{ℕ, ◌+◌, List, [], ◌∷◌, ◌++◌}
use Rattle.qw_low.specs.declared.step.LowStep.{LowStep}
use Rattle.qw_low.specs.declared.step.LowStep.TheVariants as step
use Rattle.qw_low.specs.Syntax.{local}
use Rattle.qw_low.specs.Steps.{expression_steps, steps_of}
use Rattle.qw_low.proofs.Appended.{four}
use Rattle.qw_text.specs.Inner.LikeBlocks.{next, skim_block, step_block}
use Rattle.qw_text.proofs.like.push_turn.Goals as goal

pub returns : goal.returns
returns c =
    let n : ℕ = c.args.free in
    let skim : List LowStep = steps_of (skim_block c.args.text.value c.args.text.length n) in
    let test : List LowStep = expression_steps (local (n + 7)) ++ (step.If ∷ (steps_of (next (n + 1)) ++ (step.Else ∷ []))) in
    let other : List LowStep = steps_of (step_block c.args.text.value c.args.text.length c.args.pattern.value c.args.pattern.length n) in
    four c.args.block.now.code.items c.push_skim.new.block.code.items c.extend_from_slice.new.self.items c.push_step.new.block.code.items c.extend_from_slice-2.new.self.items
    skim test other (step.End ∷ [])
    c.in_ok-push_skim.ensures c.in_ok-extend_from_slice.ensures.items c.in_ok-push_step.ensures c.in_ok-extend_from_slice-2.ensures.items
