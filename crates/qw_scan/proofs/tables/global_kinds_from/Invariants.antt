use Rattle.std.proofs.Common.{◌≡◌, ◌-◌, [], map}
use Rattle.qw_octet_grammar.specs.Vectors.{counted, one_more}
use Rattle.qw_octet_grammar.specs.Reading.{read}
use Rattle.qw_scan.specs.Inner.Offsets.{global_kind}
use Rattle.qw_scan.specs.Inner.Tables.{global_of}
use Rattle.qw_scan.proofs.tables.global_kinds_from.Given as goal

abbrev pub invariant-loop : goal.invariant-loop
invariant-loop l = read (counted (l.count - l.counter) (one_more global_kind) (map global_of l.found.items)) l.rest ≡ read (counted l.count (one_more global_kind) []) l.octets
