use Rattle.std.proofs.Common.{refl, arith}
use Rattle.qw_types.proofs.worked_laws.dates_of_the_calendar.Goals as goal

pub returns-clause-number : goal.returns-clause-number
returns-clause-number c = record {
  year = 1998;
  month = 9;
  day = 2;
  there = record { first_year = omega arith; last_year = omega arith; first_month = omega arith; last_month = omega arith; first_day = omega arith; last_day = omega arith };
  packed_is = refl;
}
