use Rattle.std.proofs.Common.{◌≡◌, ◌-◌, []}
use Rattle.qw_octet_grammar.specs.Vectors.{counted, one_more}
use Rattle.qw_octet_grammar.specs.Reading.{read}
use Rattle.qw_binary.specs.Types.{val_type}
use Rattle.qw_binary.proofs.read.types.val_types_at.Given as goal

abbrev pub invariant-loop : goal.invariant-loop
invariant-loop l = read (counted (l.count - l.counter) (one_more val_type) l.found.items) l.rest ≡ read (counted l.count (one_more val_type) []) l.octets
