use Rattle.std.proofs.Common.{◌-◌, length, map, take}
use Rattle.qw_octet_grammar.specs.Vectors.{counted, one_more, vector}
use Rattle.qw_octet_grammar.specs.Inner.Awaiting.{Awaits}
use Rattle.qw_module.specs.Validity.{signature_of}
use Rattle.qw_binary.specs.Types.{func_type}
use Rattle.qw_binary.proofs.write.types.put_func_types.Given as goal

abbrev pub invariant-loop-ty : goal.invariant-loop-ty
invariant-loop-ty l = Awaits (vector func_type) (counted (length l.types - l.ty-index) (one_more func_type) (take l.ty-index (map signature_of l.types))) l.fn.out.items l.out.items
