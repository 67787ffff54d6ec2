use Rattle.std.proofs.Common.{◌≡◌, ◌++◌, map, take}
use Rattle.qw_meaning.specs.declared.query.Joined.{Joined}
use Rattle.qw_compile.proofs.used.add_joined.Given as goal

abbrev pub invariant-loop-join : goal.invariant-loop-join
invariant-loop-join l = l.tables.items ≡ l.initial.tables.items ++ map (λ (j : Joined). j.entry.table) (take l.join-index l.joins)
