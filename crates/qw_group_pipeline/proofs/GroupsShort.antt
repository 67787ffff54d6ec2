-- How long what is emitted for the groups of a table may be.
use Rattle.std.proofs.Common.{◌≡◌, ℕ, ◌+◌, ◌*◌, ◌≤◌, List, [], ◌∷◌, ◌++◌, length, length-append, sym, ap, ◌∙◌, subst, arith}
use Rattle.qw_module.specs.declared.instruction.Op.TheVariants as o
use Rattle.qw_module.specs.declared.instruction.Load.TheVariants as loads
use Rattle.qw_module.specs.declared.instruction.ValType.{ValType}
use Rattle.qw_module.specs.declared.instruction.ValType.TheVariants.{I32}
use Rattle.qw_low.specs.declared.step.LowStep.{LowStep}
use Rattle.qw_low.specs.declared.step.LowStep.TheVariants as step
use Rattle.qw_low.specs.Steps.{steps_of}
use Rattle.qw_low.specs.Syntax.{Statement, conditional, load, local, seq, skip}
use Rattle.qw_expr.specs.Computes.{Known}
use Rattle.qw_expr.specs.Emits.{extent}
use Rattle.qw_expr.specs.declared.emitter.Emitter.{Emitter}
use Rattle.qw_feed.specs.Room.{i32}
use Rattle.qw_group.specs.Walks.{groups_walk_block, walk_turn}
use Rattle.qw_physical.specs.declared.pipeline.ReadColumn.{ReadColumn}
use Rattle.qw_operator.specs.Carries.{ReadsEntry, entry_types}
use Rattle.qw_operator.proofs.EntryReads.{entry_many}
use Rattle.qw_operator.proofs.Shortness.{steps_twice}
use Rattle.qw_group_pipeline.specs.Groups.{values_types}
use Rattle.qw_group_pipeline.specs.Inner.Met.{IsMet}
use Rattle.qw_group_pipeline.specs.declared.columns.ValueColumn.{ValueColumn}
use Rattle.qw_group_pipeline.proofs.ValueReads.{value_long, values_many}

-- the steps of the walk, around what is done at a group
walk_long : (d c : ℕ) (found : Statement) → length (steps_of (groups_walk_block d c found)) ≤ length (steps_of found) + 50
walk_long d c found =
    let next : Statement = load (c + 1) (loads.Full I32) 0 (local (c + 1)) in
    let choice : Statement = conditional (i32 1) found skip in
    let one = length-append (steps_of found) (step.Else ∷ step.End ∷ []) in
    let two = length-append (steps_of choice) (steps_of next) in
    let three = length-append (steps_of (seq choice next)) (step.Op (o.LocalGet (c + 1)) ∷ step.Again ∷ step.End ∷ step.End ∷ []) in
    let four = length-append (steps_of (walk_turn d c found)) (step.Op (o.LocalGet c) ∷ step.Again ∷ step.End ∷ step.End ∷ []) in
    omega (arith, one, two, three, four)

key_long : (at entry free : ℕ) (key : List ReadColumn) (a : Statement) → ReadsEntry at entry free key a → length (steps_of a) ≤ 22 * length key
key_long at entry free [] a none = subst (λ (s : Statement). length (steps_of s) ≤ 0) (sym none) (omega arith)
key_long at entry free (c ∷ key) a reads =
    let rest = key_long (at + 16) entry (free + 3) key reads.1 reads.4 in
    let few = reads.3.short in
    let twice = steps_twice reads.0 in
    let all = length-append (steps_of reads.0) (steps_of reads.1) in
    subst (λ (s : Statement). length (steps_of s) ≤ 22 * length (c ∷ key)) (sym reads.2) (omega (arith, rest, few, twice, all))

pub met_long : (literals : List Known) (first : ℕ) (key : List ReadColumn) (values : List ValueColumn) (inner : Emitter) (known : List Known) → IsMet literals first key values inner known → extent inner ≤ 25 * length key + 328 * length values
met_long literals first key values inner known met =
    let code = ap (λ (l : List LowStep). length l) met.code_is ∙ length-append (steps_of met.key_reads) (steps_of met.value_reads) in
    let own = ap (λ (l : List ValType). length l) met.own_is ∙ length-append (entry_types key) (values_types values) in
    let keys = key_long 24 met.entry first key met.key_reads met.key_reading in
    let areas = value_long (24 + 16 * length key) met.entry (first + 3 * length key) values met.value_reads met.value_reading in
    let three = entry_many key in
    let eight = values_many values in
    omega (arith, code, own, keys, areas, three, eight)

pub groups_short : (old mid new inner done : Emitter) (directory count n s : ℕ) (b : Statement) → done.block.code.items ≡ steps_of b → mid.block.code.items ≡ old.block.code.items → mid.own.items ≡ old.own.items ++ (I32 ∷ I32 ∷ []) →
    new.block.code.items ≡ mid.block.code.items ++ steps_of (groups_walk_block directory count b) → new.own.items ≡ mid.own.items ++ done.own.items → extent inner ≤ n → extent done ≤ extent inner + s → extent new ≤ extent old + (n + s + 60)
groups_short old mid new inner done directory count n s b met code own walked joined before within =
    let found = ap (λ (l : List LowStep). length l) met in
    let same = ap (λ (l : List LowStep). length l) code in
    let two = ap (λ (l : List ValType). length l) own ∙ length-append old.own.items (I32 ∷ I32 ∷ []) in
    let all = ap (λ (l : List LowStep). length l) walked ∙ length-append mid.block.code.items (steps_of (groups_walk_block directory count b)) in
    let locals = ap (λ (l : List ValType). length l) joined ∙ length-append mid.own.items done.own.items in
    let walk = walk_long directory count b in
    omega (arith, found, same, two, all, locals, walk, before, within)
