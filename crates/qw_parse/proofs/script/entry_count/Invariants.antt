use Rattle.std.proofs.Common.{◌≡◌, ◌+◌, ◌<◌, ◌^◌, length, map, drop}
use Rattle.qw_ast.specs.SyntaxTree.{source_of}
use Rattle.qw_ast.specs.Limits.{entries_of}
use Rattle.qw_parse.specs.Inner.Sizes.{counted}
use Rattle.qw_parse.proofs.script.entry_count.Given as goal

abbrev pub invariant-loop-source : goal.invariant-loop-source
invariant-loop-source l = (l.count < 2 ^ 64) × (counted (l.count + length (entries_of (map source_of (drop l.source-index l.sources)))) ≡ counted (length (entries_of (map source_of l.sources))))
