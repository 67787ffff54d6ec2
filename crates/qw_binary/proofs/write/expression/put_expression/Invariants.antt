use Rattle.qw_octet_grammar.specs.Grammar.{goes_on}
use Rattle.qw_octet_grammar.specs.Inner.Awaiting.{AwaitsItems}
use Rattle.qw_module.specs.Validity.{sequences_of}
use Rattle.qw_binary.specs.Instructions.{at_first, instruction}
use Rattle.qw_binary.specs.Inner.Writer.{progress_of}
use Rattle.qw_binary.specs.Inner.Followed.{IsAt, Passes}
use Rattle.qw_binary.proofs.write.expression.put_expression.Given as goal

abbrev pub invariant-loop : goal.invariant-loop
invariant-loop l = record {
  awaits : AwaitsItems instruction at_first (goes_on (progress_of (sequences_of l.body) l.writer)) l.fn.out.items l.out.items;
  at : IsAt (sequences_of l.body) l.writer;
  follows : Passes (sequences_of l.body) (goes_on at_first) (goes_on (progress_of (sequences_of l.body) l.writer));
}
