use Rattle.std.proofs.Common.{ℕ, ◌+◌, List, [], ◌∷◌, ◌++◌}
use Rattle.qw_low.specs.declared.step.LowStep.{LowStep}
use Rattle.qw_low.specs.declared.step.LowStep.TheVariants as step
use Rattle.qw_low.specs.Steps.{expression_steps, steps_of}
use Rattle.qw_low.proofs.Appended.{two, four}
use Rattle.qw_text.specs.Inner.LikeBlocks.{same, end_block, octet_block}
use Rattle.qw_text.proofs.like.push_step.Goals as goal

pub returns : goal.returns
returns c =
    let n : ℕ = c.args.free in
    let test : List LowStep = expression_steps (same (n + 2) c.args.pattern.length) ++ (step.If ∷ []) in
    let end : List LowStep = steps_of (end_block c.args.text.length n) in
    let octet : List LowStep = steps_of (octet_block c.args.text.value c.args.text.length c.args.pattern.value n) in
    four c.args.block.now.code.items c.extend_from_slice.new.self.items c.push_end.new.block.code.items c.extend_from_slice-2.new.self.items c.extend_from_slice-3.new.self.items
    test end (step.Else ∷ []) (octet ++ (step.End ∷ []))
    c.in_ok-extend_from_slice.ensures.items c.in_ok-push_end.ensures c.in_ok-extend_from_slice-2.ensures.items
    (two c.extend_from_slice-2.new.self.items c.push_pattern.new.block.code.items c.extend_from_slice-3.new.self.items
    octet (step.End ∷ [])
    c.in_ok-push_pattern.ensures c.in_ok-extend_from_slice-3.ensures.items)
