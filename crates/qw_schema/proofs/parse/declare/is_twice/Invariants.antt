use Rattle.std.proofs.Common.{◌≡◌, drop, map}
use Rattle.qw_schema.specs.Inner.Judges.{is_twice, name_in}
use Rattle.qw_schema.specs.Inner.Tables.{read_of}
use Rattle.qw_schema.proofs.parse.declare.is_twice.Given as goal

abbrev pub invariant-loop-index : goal.invariant-loop-index
invariant-loop-index l = is_twice (map name_in (map read_of (drop l.index l.columns))) ≡ is_twice (map name_in (map read_of l.columns))
