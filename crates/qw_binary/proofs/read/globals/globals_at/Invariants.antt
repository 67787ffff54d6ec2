use Rattle.std.proofs.Common.{◌≡◌, ◌-◌, []}
use Rattle.std.specs.Prelude.{map}
use Rattle.qw_binary.specs.Contents.{global_contents}
use Rattle.qw_octet_grammar.specs.Vectors.{counted, one_more}
use Rattle.qw_octet_grammar.specs.Reading.{read}
use Rattle.qw_binary.specs.Sections.{global}
use Rattle.qw_binary.proofs.read.globals.globals_at.Given as goal

abbrev pub invariant-loop : goal.invariant-loop
invariant-loop l = read (counted (l.count - l.counter) (one_more global) (map global_contents l.found.items)) l.rest ≡ read (counted l.count (one_more global) []) l.octets
