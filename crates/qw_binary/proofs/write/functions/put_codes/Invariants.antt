use Rattle.std.proofs.Common.{◌-◌, length, map, take}
use Rattle.qw_octet_grammar.specs.Vectors.{counted}
use Rattle.qw_octet_grammar.specs.Inner.Awaiting.{Awaits}
use Rattle.qw_binary.specs.Contents.{function_contents}
use Rattle.qw_binary.specs.Sections.{functions, next_function}
use Rattle.qw_binary.specs.Inner.Parts.{type_index_of}
use Rattle.qw_binary.proofs.write.functions.put_codes.Given as goal

abbrev pub invariant-loop-function : goal.invariant-loop-function
invariant-loop-function l = Awaits (functions (map type_index_of l.functions)) (counted (length l.functions - l.function-index) (next_function (map type_index_of l.functions)) (take l.function-index (map function_contents l.functions))) l.fn.out.items l.out.items
