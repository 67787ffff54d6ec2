use Rattle.std.proofs.Common.{◌≡◌, ◌-◌, []}
use Rattle.std.specs.Prelude.{map}
use Rattle.qw_module.specs.Validity.{signature_of}
use Rattle.qw_octet_grammar.specs.Vectors.{counted, one_more}
use Rattle.qw_octet_grammar.specs.Reading.{read}
use Rattle.qw_binary.specs.Types.{func_type}
use Rattle.qw_binary.proofs.read.types.func_types_at.Given as goal

abbrev pub invariant-loop : goal.invariant-loop
invariant-loop l = read (counted (l.count - l.counter) (one_more func_type) (map signature_of l.found.items)) l.rest ≡ read (counted l.count (one_more func_type) []) l.octets
