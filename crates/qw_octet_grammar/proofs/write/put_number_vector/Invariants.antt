use Rattle.std.proofs.Common.{◌-◌, length, take}
use Rattle.qw_octet_grammar.specs.Numbers.{u32}
use Rattle.qw_octet_grammar.specs.Vectors.{counted, one_more, vector}
use Rattle.qw_octet_grammar.specs.Inner.Awaiting.{Awaits}
use Rattle.qw_octet_grammar.proofs.write.put_number_vector.Given as goal

abbrev pub invariant-loop-number : goal.invariant-loop-number
invariant-loop-number l =
    Awaits (vector u32) (counted (length l.numbers - l.number-index) (one_more u32) (take l.number-index l.numbers)) l.fn.out.items l.out.items
