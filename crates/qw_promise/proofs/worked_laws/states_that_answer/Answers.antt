use Rattle.std.proofs.Common.{refl, arith, [], ◌∷◌}
use Rattle.qw_types.specs.declared.code.Code.TheVariants.{OutOfRange}
use Rattle.qw_map.specs.Turns.{Exception, Pages}
use Rattle.qw_promise.proofs.worked_laws.states_that_answer.Goals as goal

pub returns-clause-past_the_limit : goal.returns-clause-past_the_limit
returns-clause-past_the_limit c out layout most descriptor b at refused held limit =
    (Pages b.world.held 1 b.world.limit, rw (at, refused) refl, (refl, refl, omega (arith, held, limit), omega (arith, held)))

pub returns-clause-raised : goal.returns-clause-raised
returns-clause-raised c layout most pages descriptor b at none =
    (Exception 2, rw at refl, (none, (OutOfRange ∷ [], OutOfRange, refl, (0, omega arith, refl), refl)))
