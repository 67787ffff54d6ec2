use Rattle.std.proofs.Common.{◌-◌, length, take}
use Rattle.qw_octet_grammar.specs.Vectors.{counted, one_more, vector}
use Rattle.qw_octet_grammar.specs.Inner.Awaiting.{Awaits}
use Rattle.qw_binary.specs.Types.{val_type}
use Rattle.qw_binary.proofs.write.types.put_val_types.Given as goal

abbrev pub invariant-loop-ty : goal.invariant-loop-ty
invariant-loop-ty l = Awaits (vector val_type) (counted (length l.types - l.ty-index) (one_more val_type) (take l.ty-index l.types)) l.fn.out.items l.out.items
