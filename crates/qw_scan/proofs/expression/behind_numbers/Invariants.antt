use Rattle.std.proofs.Common.{◌≡◌, ◌-◌}
use Rattle.qw_octet_grammar.specs.Numbers.{u32}
use Rattle.qw_octet_grammar.specs.Reading.{read}
use Rattle.qw_scan.specs.Inner.Passing.{over, all_over}
use Rattle.qw_scan.proofs.expression.behind_numbers.Given as goal

abbrev pub invariant-loop : goal.invariant-loop
invariant-loop l = read (all_over (l.count - l.counter) (over u32)) l.rest ≡ read (all_over l.count (over u32)) l.octets
