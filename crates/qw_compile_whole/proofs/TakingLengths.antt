-- How many steps and locals there are of the pipelines of a query with set functions and no GROUP BY.
use Rattle.std.proofs.Common.{◌≡◌, ℕ, ◌+◌, ◌*◌, ◌≤◌, Option, List, [], ◌++◌, length, length-append, ap, ◌∙◌, arith}
use Rattle.qw_module.specs.declared.instruction.ValType.{ValType}
use Rattle.qw_low.specs.declared.step.LowStep.{LowStep}
use Rattle.qw_low.specs.Size.{size as statement_size}
use Rattle.qw_low.specs.Steps.{steps_of}
use Rattle.qw_feed.specs.Rows.{begin_block, finish_block}
use Rattle.qw_expr.specs.Emits.{extent}
use Rattle.qw_expr.specs.declared.emitter.Emitter.{Emitter}
use Rattle.qw_group.specs.Single.{single_block}
use Rattle.qw_physical.specs.declared.pipeline.Pipeline.{Pipeline}
use Rattle.qw_operator.specs.Span.{sink_span, span}
use Rattle.qw_compile.specs.Statements.{Course, course_block}
use Rattle.qw_compile.proofs.CourseLengths.{course_short}
use Rattle.qw_compile_whole.specs.GroupedLimits.{walk_span}
use Rattle.qw_compile_whole.specs.GuardedStatements.{count_from, stop_at}
use Rattle.qw_compile_whole.proofs.GatheringLengths.{added_short, counted_few}

-- the areas, and the scan, and what counts rows around them
pub taking_short : (guard : Option ℕ) (t : ℕ) (c : Course) (areas d readers spanned : ℕ) (old counted placed scanned new : List LowStep) (own_old own_new : List ValType) (e0 e1 : Emitter) → counted ≡ old ++ steps_of (count_from guard) → placed ≡ counted ++ steps_of (single_block areas d) →
    statement_size c.begins ≤ 13 * readers → scanned ≡ placed ++ steps_of (course_block t c) → new ≡ scanned ++ steps_of (stop_at guard) → e1.block.code.items ≡ steps_of c.row → own_new ≡ own_old ++ e1.own.items → e0.block.code.items ≡ [] → e0.own.items ≡ [] →
    extent e1 ≤ extent e0 + (spanned + 117 * readers + 40) → length new + length own_new + 2 ≤ length old + length own_old + (spanned + 143 * readers + 100)
taking_short guard t c areas d readers spanned old counted placed scanned new own_old own_new e0 e1 counted_is placed_is begins code stopped row own code0 own0 short =
    let course = course_short t c readers spanned placed scanned own_old own_new e0 e1 begins code row own code0 own0 short in
    let one = ap (λ (l : List LowStep). length l) counted_is ∙ length-append old (steps_of (count_from guard)) in
    let two = ap (λ (l : List LowStep). length l) placed_is ∙ length-append counted (steps_of (single_block areas d)) in
    let three = ap (λ (l : List LowStep). length l) stopped ∙ length-append scanned (steps_of (stop_at guard)) in
    let few = counted_few guard in
    omega (arith, course, one, two, three, few)

-- the row of the one group
pub one_short : (functions : ℕ) (behind : Pipeline) (old new : List LowStep) (own_old own_new : List ValType) (e0 e1 : Emitter) → e0.block.code.items ≡ [] → e0.own.items ≡ [] → new ≡ old ++ e1.block.code.items → own_new ≡ own_old ++ e1.own.items →
    extent e1 ≤ extent e0 + (328 * functions + span behind.operators.items (sink_span behind.sink)) → length new + length own_new + 100 ≤ length old + length own_old + walk_span 0 functions behind
one_short functions behind old new own_old own_new e0 e1 code0 own0 code own short =
    let all = added_short old new own_old own_new e0 e1 (328 * functions + span behind.operators.items (sink_span behind.sink)) code0 own0 code own short in
    omega (arith, all)

-- all of them
pub single_short : (builds takes makes : ℕ) (code0 code1 code2 code3 code4 code5 : List LowStep) (own0 own1 own2 own3 : List ValType) → code0 ≡ [] → own0 ≡ [] → length code1 + length own1 ≤ length code0 + length own0 + builds → length code2 + length own2 + 2 ≤ length code1 + length own1 + takes →
    code3 ≡ code2 ++ steps_of begin_block → length code4 + length own3 + 100 ≤ length code3 + length own2 + makes → code5 ≡ code4 ++ steps_of finish_block → length code5 + length own3 ≤ builds + takes + makes
single_short builds takes makes code0 code1 code2 code3 code4 code5 own0 own1 own2 own3 none none_own built taken begun made finished =
    let three = ap (λ (l : List LowStep). length l) begun ∙ length-append code2 (steps_of begin_block) in
    let five = ap (λ (l : List LowStep). length l) finished ∙ length-append code4 (steps_of finish_block) in
    omega (arith, three, five, built, taken, made, ap (λ (l : List LowStep). length l) none, ap (λ (l : List ValType). length l) none_own)
