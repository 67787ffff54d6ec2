use Rattle.std.proofs.Common.{refl}
use Rattle.qw_generate.specs.Generated.{draw_of, drawn, next, state_after}
use Rattle.qw_generate.proofs.worked_laws.draws_of_zero.Goals as goal

pub returns : goal.returns
unfolding draw_of drawn next state_after
returns c = record { first = refl; second = refl; third = refl; fourth = refl }
