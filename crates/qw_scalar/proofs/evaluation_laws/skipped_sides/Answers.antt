use Rattle.qw_scalar.proofs.EvaluationLemmas.{and_skips, or_skips, and_goes_on, or_goes_on}
use Rattle.qw_scalar.proofs.evaluation_laws.skipped_sides.Goals as goal

pub returns : goal.returns
returns c = record { and = and_skips; or = or_skips; and_unknown = and_goes_on; or_unknown = or_goes_on }
