use Rattle.qw_low.proofs.CodeSize.{statement_size}
use Rattle.qw_low.proofs.size_laws.code_has_its_size.Goals as goal

pub returns : goal.returns
returns c = statement_size
