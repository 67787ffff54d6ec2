use Rattle.qw_grouped.specs.SetFunctions.{not_null}
use Rattle.qw_grouped.proofs.Extremes.{average_given, average_raises, sum_given, sum_raises}
use Rattle.qw_grouped.proofs.set_function_laws.ranges.Goals as goal

pub returns : goal.returns
returns c = record {
  sum = λ values some h. sum_given (not_null values) some h;
  sum_past = λ values h. sum_raises (not_null values) h;
  average = λ values some h. average_given (not_null values) some h;
  average_past = λ values some h. average_raises (not_null values) some h;
}
