use Rattle.std.proofs.Common.{◌<◌, refl, arith}
use Rattle.qw_promise.specs.WorkedQueries.{integers}
use Rattle.qw_promise.proofs.worked_laws.layouts_that_go_with_a_query.Goals as goal

pub returns-clause-goes : goal.returns-clause-goes
returns-clause-goes c = record {
  columns = ((integers 0, (0, omega arith, refl), refl, refl), tt);
  cells = refl;
  small = omega arith;
  literals = λ k d less. absurd (omega (arith, less));
}

pub returns-clause-no_column : goal.returns-clause-no_column
returns-clause-no_column c = record { columns = tt; cells = refl; small = omega arith; literals = λ k d less. absurd (omega (arith, less)) }

pub returns-clause-page_of_texts : goal.returns-clause-page_of_texts
returns-clause-page_of_texts c = λ literals octets many. record { columns = tt; cells = refl; small = omega (arith, many); literals = octets }

pub returns-clause-past_a_page : goal.returns-clause-past_a_page
returns-clause-past_a_page c = λ promise literals cells many goes. let small = goes.small in absurd (omega (arith, many, small))

pub returns-clause-no_octet : goal.returns-clause-no_octet
returns-clause-no_octet c = λ promise cells goes. let octet : 256 < 256 = goes.literals 0 0 (omega arith) in absurd (omega (arith, octet))
