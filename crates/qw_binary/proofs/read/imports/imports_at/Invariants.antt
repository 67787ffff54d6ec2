use Rattle.std.proofs.Common.{◌≡◌, ◌-◌, []}
use Rattle.qw_octet_grammar.specs.Vectors.{counted}
use Rattle.qw_octet_grammar.specs.Reading.{read}
use Rattle.qw_binary.specs.Sections.{next_import}
use Rattle.qw_binary.proofs.read.imports.imports_at.Given as goal

abbrev pub invariant-loop : goal.invariant-loop
invariant-loop l = read (counted (l.count - l.counter) next_import l.found.items) l.rest ≡ read (counted l.count next_import []) l.octets
