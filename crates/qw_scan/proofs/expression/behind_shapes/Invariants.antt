use Rattle.std.proofs.Common.{◌≡◌, ◌-◌, suc, length}
use Rattle.qw_octet_grammar.specs.Grammar.{goes_on}
use Rattle.qw_octet_grammar.specs.Reading.{read, chain}
use Rattle.qw_scan.specs.Inner.Shapes.{shape, shapes, turns_in}
use Rattle.qw_scan.proofs.expression.behind_shapes.Given as goal

abbrev pub invariant-loop : goal.invariant-loop
invariant-loop l = chain (λ s b. read (shape s b)) (suc (length l.octets) - l.counter) (goes_on (turns_in l.shape)) l.rest ≡ read shapes l.octets
