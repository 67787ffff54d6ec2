use Rattle.qw_parse.proofs.AcceptLemmas.{Accepts}
use Rattle.qw_parse.proofs.script.queries.Given as goal

abbrev pub invariant-loop-index : goal.invariant-loop-index
invariant-loop-index l = Accepts l.statements l.queries.items l.index
