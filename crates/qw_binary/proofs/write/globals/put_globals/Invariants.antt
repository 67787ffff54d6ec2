use Rattle.std.proofs.Common.{◌-◌, length, map, take}
use Rattle.qw_octet_grammar.specs.Vectors.{counted, one_more, vector}
use Rattle.qw_octet_grammar.specs.Inner.Awaiting.{Awaits}
use Rattle.qw_binary.specs.Contents.{global_contents}
use Rattle.qw_binary.specs.Sections.{global}
use Rattle.qw_binary.proofs.write.globals.put_globals.Given as goal

abbrev pub invariant-loop-global : goal.invariant-loop-global
invariant-loop-global l = Awaits (vector global) (counted (length l.globals - l.global-index) (one_more global) (take l.global-index (map global_contents l.globals))) l.fn.out.items l.out.items
