use Rattle.std.proofs.Common.{◌≡◌, ◌-◌}
use Rattle.qw_octet_grammar.specs.Reading.{read}
use Rattle.qw_binary.specs.Types.{val_type}
use Rattle.qw_scan.specs.Inner.Passing.{over, all_over}
use Rattle.qw_scan.proofs.over.behind_val_types.Given as goal

abbrev pub invariant-loop : goal.invariant-loop
invariant-loop l = read (all_over (l.count - l.counter) (over val_type)) l.rest ≡ read (all_over l.count (over val_type)) l.octets
