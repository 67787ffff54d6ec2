use Rattle.std.proofs.Common.{◌≡◌, pos, true, false}
use Rattle.qw_types.proofs.DayLemmas.{is_day_of}
use Rattle.qw_scalar.proofs.typing_laws.untyped_expressions.Goals as goal

pub returns-clause-no_day : goal.returns-clause-no_day
returns-clause-no_day c h =
    let is : false ≡ true = is_day_of (pos 19000229) h in
    cc
