use Rattle.std.proofs.Common.{◌≡◌, ◌+◌, ◌*◌, ◌++◌, drop, length}
use Rattle.std.specs.List.{concat}
use Rattle.qw_compile.specs.Literals.{literals_from}
use Rattle.qw_compile.proofs.texts.literals_of.Given as goal

abbrev pub invariant-loop-text : goal.invariant-loop-text
invariant-loop-text l =
    (l.literals.items ++ literals_from l.local l.at (drop l.text-index l.texts) ≡ literals_from l.first l.offset l.texts)
    × (l.local ≡ l.first + 2 * l.text-index) × (l.at + length (concat (drop l.text-index l.texts)) ≡ l.offset + length (concat l.texts))
