use Rattle.qw_raise.proofs.Closing.{closed_magnitude, closed_raises, closed_raises_in}
use Rattle.qw_raise.proofs.raise_laws.filling_in_raises_nothing.Goals as goal

pub returns-clause-magnitude : goal.returns-clause-magnitude
returns-clause-magnitude c = closed_magnitude

pub returns-clause-expression : goal.returns-clause-expression
returns-clause-expression c = closed_raises

pub returns-clause-condition : goal.returns-clause-condition
returns-clause-condition c = closed_raises_in
