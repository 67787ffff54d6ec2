-- Pipelines whose expressions can stand for those of others, one for one: they mean the same, are typed where those are, and name no other
-- columns.
use Rattle.std.specs.Prelude.{◌≡◌}
use Rattle.std.specs.List.{AllZip}
use Rattle.qw_fold.specs.Stands.{Follows, FollowsTruth}
use Rattle.qw_physical.specs.Physical.{Build, Operator, Pipeline, Probe, Sink, build, filter, probe, select}

pub record FollowsProbe (p q : Probe) : Type 0 where
  pub table : p.table ≡ q.table
  pub outer : p.outer ≡ q.outer
  pub key : AllZip Follows p.key q.key
  pub kept : p.kept ≡ q.kept
  pub on : AllZip FollowsTruth p.on q.on

abbrev pub FollowsOperator : Operator → Operator → Type 0
FollowsOperator (filter cs) (filter ds) = AllZip FollowsTruth cs ds
FollowsOperator (filter cs) (probe q) = ⊥
FollowsOperator (probe p) (filter ds) = ⊥
FollowsOperator (probe p) (probe q) = FollowsProbe p q

pub record FollowsBuild (b c : Build) : Type 0 where
  pub table : b.table ≡ c.table
  pub key : AllZip Follows b.key c.key
  pub kept : b.kept ≡ c.kept

abbrev pub FollowsSink : Sink → Sink → Type 0
FollowsSink (build b) (build c) = FollowsBuild b c
FollowsSink (build b) (select others) = ⊥
FollowsSink (select items) (build c) = ⊥
FollowsSink (select items) (select others) = AllZip Follows items others

pub record FollowsPipeline (p q : Pipeline) : Type 0 where
  pub entry : p.entry ≡ q.entry
  pub table : p.table ≡ q.table
  pub operators : AllZip FollowsOperator p.operators q.operators
  pub sink : FollowsSink p.sink q.sink
