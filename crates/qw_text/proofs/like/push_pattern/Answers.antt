use Rattle.std.proofs.Common.{ℕ, ◌+◌, List, [], ◌∷◌, ◌++◌, sym, ap, ◌∙◌}
use Rattle.std.proofs.lemmas.List.{append_assoc}
use Rattle.qw_low.specs.declared.step.LowStep.{LowStep}
use Rattle.qw_low.specs.declared.step.LowStep.TheVariants as step
use Rattle.qw_low.specs.Syntax.{assign}
use Rattle.qw_low.specs.Steps.{expression_steps, steps_of}
use Rattle.qw_low.proofs.Appended.{three, four}
use Rattle.qw_text.specs.Inner.Blocks.{i32}
use Rattle.qw_text.specs.Inner.LikeBlocks.{same, is_octet, load_small, star_block, take_block}
use Rattle.qw_text.proofs.like.push_pattern.Goals as goal

pub returns : goal.returns
returns c =
    let n : ℕ = c.args.free in
    let first : List LowStep = steps_of (load_small (n + 5) c.args.pattern (n + 2)) in
    let choice : List LowStep = expression_steps (is_octet (n + 5) 37) ++ (step.If ∷ []) in
    let star : List LowStep = steps_of (star_block n) in
    let other : List LowStep = step.Else ∷ (expression_steps (same (n + 1) c.args.text.length) ++ (step.If ∷ (steps_of (assign n (i32 0)) ++ (step.Else ∷ [])))) in
    let take : List LowStep = steps_of (take_block c.args.text.value n) in
    four c.args.block.now.code.items c.push_octet.new.block.code.items c.extend_from_slice.new.self.items c.push_star.new.block.code.items c.extend_from_slice-3.new.self.items
    first choice star (other ++ (take ++ (step.End ∷ step.End ∷ [])))
    c.in_ok-push_octet.ensures c.in_ok-extend_from_slice.ensures.items c.in_ok-push_star.ensures
    (three c.push_star.new.block.code.items c.extend_from_slice-2.new.self.items c.push_take.new.block.code.items c.extend_from_slice-3.new.self.items
    other take (step.End ∷ step.End ∷ [])
    c.in_ok-extend_from_slice-2.ensures.items c.in_ok-push_take.ensures c.in_ok-extend_from_slice-3.ensures.items)
    ∙ ap (λ (z : List LowStep). c.args.block.now.code.items ++ (first ++ (choice ++ (star ++ (other ++ z))))) (sym (append_assoc take (step.End ∷ []) (step.End ∷ [])))
