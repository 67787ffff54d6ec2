use Rattle.std.proofs.Common.{◌-◌, length, map, take}
use Rattle.qw_octet_grammar.specs.Vectors.{counted, one_more, vector}
use Rattle.qw_octet_grammar.specs.Inner.Awaiting.{Awaits}
use Rattle.qw_binary.specs.Contents.{export_contents}
use Rattle.qw_binary.specs.Sections.{export}
use Rattle.qw_binary.proofs.write.exports.put_exports.Given as goal

abbrev pub invariant-loop-export : goal.invariant-loop-export
invariant-loop-export l = Awaits (vector export) (counted (length l.exports - l.export-index) (one_more export) (take l.export-index (map export_contents l.exports))) l.fn.out.items l.out.items
