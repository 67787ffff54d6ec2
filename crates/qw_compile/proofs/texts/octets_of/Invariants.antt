use Rattle.std.proofs.Common.{◌≡◌, ◌++◌, drop}
use Rattle.std.specs.List.{concat}
use Rattle.qw_compile.proofs.texts.octets_of.Given as goal

abbrev pub invariant-loop-text : goal.invariant-loop-text
invariant-loop-text l = l.octets.items ++ concat (drop l.text-index l.texts) ≡ concat l.texts
