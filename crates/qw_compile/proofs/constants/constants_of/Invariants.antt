use Rattle.std.proofs.Common.{◌≡◌, ◌+◌, ◌++◌, drop}
use Rattle.qw_compile.specs.Literals.{constants_from}
use Rattle.qw_compile.proofs.constants.constants_of.Given as goal

abbrev pub invariant-loop-word : goal.invariant-loop-word
invariant-loop-word l = (l.constants.items ++ constants_from l.local (drop l.word-index l.words) ≡ constants_from l.first l.words) × (l.local ≡ l.first + l.word-index)
