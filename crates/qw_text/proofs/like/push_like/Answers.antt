use Rattle.std.proofs.Common.{ℕ, List, [], ◌∷◌, ◌++◌}
use Rattle.qw_low.specs.declared.step.LowStep.{LowStep}
use Rattle.qw_low.specs.declared.step.LowStep.TheVariants as step
use Rattle.qw_low.specs.Steps.{expression_steps, steps_of}
use Rattle.qw_low.proofs.Appended.{four}
use Rattle.qw_text.specs.Inner.LikeBlocks.{is_octet, begin_block, turn_block}
use Rattle.qw_text.proofs.like.push_like.Goals as goal

pub returns : goal.returns
returns c =
    let n : ℕ = c.args.free in
    let test : List LowStep = expression_steps (is_octet n 2) in
    let turn : List LowStep = steps_of (turn_block c.args.text.value c.args.text.length c.args.pattern.value c.args.pattern.length n) in
    four c.args.block.now.code.items c.push_begin.new.block.code.items c.extend_from_slice.new.self.items c.push_turn.new.block.code.items c.extend_from_slice-2.new.self.items
    (steps_of (begin_block n)) (test ++ (step.If ∷ step.Loop ∷ [])) turn (test ++ (step.Again ∷ step.End ∷ step.End ∷ []))
    c.in_ok-push_begin.ensures c.in_ok-extend_from_slice.ensures.items c.in_ok-push_turn.ensures c.in_ok-extend_from_slice-2.ensures.items
