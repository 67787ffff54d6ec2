use Rattle.std.proofs.Common.{◌≡◌, ◌-◌, [], map, length}
use Rattle.qw_octet_grammar.specs.Vectors.{counted}
use Rattle.qw_octet_grammar.specs.Reading.{read}
use Rattle.qw_binary.specs.Contents.{function_contents}
use Rattle.qw_binary.specs.Sections.{next_function}
use Rattle.qw_binary.proofs.read.functions.codes_at.Given as goal

abbrev pub invariant-loop-type_index : goal.invariant-loop-type_index
invariant-loop-type_index l =
    (length l.found.items ≡ l.type_index-index)
    × (read (counted (length l.type_indices - l.type_index-index) (next_function l.type_indices) (map function_contents l.found.items)) l.rest
    ≡ read (counted (length l.type_indices) (next_function l.type_indices) []) l.octets)
