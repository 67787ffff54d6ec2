use Rattle.std.proofs.Common.{◌≡◌, ◌-◌, ◌++◌}
use Rattle.qw_scan.specs.Inner.Over.{item_over}
use Rattle.qw_scan.specs.Inner.Offsets.{offsets}
use Rattle.qw_scan.proofs.tables.offsets_from.Given as goal

-- those so far, and those to come
abbrev pub invariant-loop : goal.invariant-loop
invariant-loop l = l.found.items ++ offsets (item_over l.item) l.octets (l.count - l.counter) l.at ≡ offsets (item_over l.item) l.octets l.count l.first
