use Rattle.std.proofs.Common.{◌≡◌, ℕ, ◌+◌, ◌*◌, refl, subst, arith}
use Rattle.qw_table.proofs.Continued.{one_further, ended}
use Rattle.qw_group.specs.Groups.{UpdatesAreas}
use Rattle.qw_group.specs.declared.group.Aggregate.{Aggregate}
use Rattle.qw_group.proofs.GroupStepsAdded.{areas_further}
use Rattle.qw_group.proofs.group.push_areas.Goals as goal

pub loop-index-preserved : goal.loop-index-preserved
loop-index-preserved c =
    let made = c.in_ok-emit_aggregate.ensures in
    one_further {A = Aggregate} (λ (i : ℕ). UpdatesAreas c.args.entry (c.args.offset + 32 * i) c.args.own) c.args.aggregates.now c.args.block.now.code.items c.loop-index.index _ c.loop-index.block.code.items c.emit_aggregate.new.block.code.items made.0
    c.loop-index-test.true made.1 (λ rest b split h. areas_further c.args.entry c.args.offset c.args.own c.loop-index.index _ rest made.0 b made.2 h) c.loop-index.invariant

pub returns : goal.returns
returns c =
    let all = ended {A = Aggregate} (λ (i : ℕ). UpdatesAreas c.args.entry (c.args.offset + 32 * i) c.args.own) c.args.aggregates.now c.args.block.now.code.items c.loop-index.index c.loop-index.block.code.items c.loop-index-test.false refl c.loop-index.invariant in
    let none : c.args.offset + 32 * 0 ≡ c.args.offset = omega arith in
    (all.0, all.1, subst (λ (n : ℕ). UpdatesAreas c.args.entry n c.args.own c.args.aggregates.now all.0) none all.2)
