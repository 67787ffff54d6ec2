use Rattle.std.proofs.Common.{refl}
use Rattle.std.specs.Fmt.{digits}
use Rattle.qw_typer.proofs.laws.worked_names.Goals as goal

pub returns-clause-first : goal.returns-clause-first
unfolding digits
returns-clause-first c = refl

pub returns-clause-second : goal.returns-clause-second
unfolding digits
returns-clause-second c = refl

pub returns-clause-tenth : goal.returns-clause-tenth
unfolding digits
returns-clause-tenth c = refl

pub returns-clause-list : goal.returns-clause-list
unfolding digits
returns-clause-list c = refl
