use Rattle.std.proofs.Common.{◌≡◌, ◌-◌, suc, length}
use Rattle.qw_octet_grammar.specs.Grammar.{goes_on}
use Rattle.qw_octet_grammar.specs.Reading.{read, chain}
use Rattle.qw_binary.specs.Instructions.{expression, instruction}
use Rattle.qw_binary.specs.Inner.Reader.{progress_of}
use Rattle.qw_binary.proofs.read.expression.expression_at.Given as goal

abbrev pub invariant-loop : goal.invariant-loop
invariant-loop l = chain (λ s b. read (instruction s b)) (suc (length l.octets) - l.counter) (goes_on (progress_of l.reader)) l.rest ≡ read expression l.octets
