use Rattle.std.proofs.Common.{◌≡◌, ◌-◌, []}
use Rattle.std.specs.Prelude.{map}
use Rattle.qw_binary.specs.Contents.{export_contents}
use Rattle.qw_octet_grammar.specs.Vectors.{counted, one_more}
use Rattle.qw_octet_grammar.specs.Reading.{read}
use Rattle.qw_binary.specs.Sections.{export}
use Rattle.qw_binary.proofs.read.exports.exports_at.Given as goal

abbrev pub invariant-loop : goal.invariant-loop
invariant-loop l = read (counted (l.count - l.counter) (one_more export) (map export_contents l.found.items)) l.rest ≡ read (counted l.count (one_more export) []) l.octets
