use Rattle.std.specs.Prelude.{ℕ, ◌+◌, ◌*◌}
use Rattle.qw_group.specs.Groups.{UpdatesAreas}
use Rattle.qw_group.specs.declared.group.Aggregate.{Aggregate}
use Rattle.qw_table.proofs.Continued.{Continues}
use Rattle.qw_group.proofs.group.push_areas.Given as goal

abbrev pub invariant-loop-index : goal.invariant-loop-index
invariant-loop-index l = Continues {A = Aggregate} (λ (i : ℕ). UpdatesAreas l.entry (l.offset + 32 * i) l.own) l.aggregates l.initial.block.code.items l.index l.block.code.items
