use Rattle.std.proofs.Common.{◌-◌, length, map, take}
use Rattle.qw_octet_grammar.specs.Numbers.{u32}
use Rattle.qw_octet_grammar.specs.Vectors.{counted, one_more, vector}
use Rattle.qw_octet_grammar.specs.Inner.Awaiting.{Awaits}
use Rattle.qw_binary.specs.Inner.Parts.{type_index_of}
use Rattle.qw_binary.proofs.write.functions.put_type_indices.Given as goal

abbrev pub invariant-loop-function : goal.invariant-loop-function
invariant-loop-function l = Awaits (vector u32) (counted (length l.functions - l.function-index) (one_more u32) (take l.function-index (map type_index_of l.functions))) l.fn.out.items l.out.items
