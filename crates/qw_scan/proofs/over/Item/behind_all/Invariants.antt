use Rattle.std.proofs.Common.{◌≡◌, ◌-◌}
use Rattle.qw_octet_grammar.specs.Reading.{read}
use Rattle.qw_scan.specs.Inner.Passing.{all_over}
use Rattle.qw_scan.specs.Inner.Over.{item_over}
use Rattle.qw_scan.proofs.over.Item.behind_all.Given as goal

abbrev pub invariant-loop : goal.invariant-loop
invariant-loop l = read (all_over (l.count - l.counter) (item_over l.self)) l.rest ≡ read (all_over l.count (item_over l.self)) l.octets
