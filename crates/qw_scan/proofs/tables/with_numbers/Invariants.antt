use Rattle.std.proofs.Common.{◌≡◌, ◌-◌}
use Rattle.qw_octet_grammar.specs.Numbers.{u32}
use Rattle.qw_octet_grammar.specs.Vectors.{counted, one_more}
use Rattle.qw_octet_grammar.specs.Reading.{read}
use Rattle.qw_scan.proofs.tables.with_numbers.Given as goal

abbrev pub invariant-loop : goal.invariant-loop
invariant-loop l = read (counted (l.count - l.counter) (one_more u32) l.found.items) l.rest ≡ read (counted l.count (one_more u32) l.fn.numbers.items) l.octets
