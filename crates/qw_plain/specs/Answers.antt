-- The outcome that an answer of the code is.
use Rattle.qw_meaning.specs.Outcome.{Outcome, Rows, Raises}
use Rattle.qw_plain.specs.declared.outcome.Answer.{Answer}
use Rattle.qw_plain.specs.declared.outcome.Answer.TheVariants as answer

abbrev pub outcome_of : Answer → Outcome
outcome_of (answer.Rows rows) = Rows rows.items
outcome_of (answer.Raises codes) = Raises codes.items
