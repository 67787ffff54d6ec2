use Rattle.std.proofs.Common.{take, drop, arith}
use Rattle.qw_types.specs.DateText.{IsDateForm}
use Rattle.qw_types.proofs.DateLemmas.{below_power, parts_long}
use Rattle.qw_types.proofs.NumeralLemmas.{rest_is}
use Rattle.qw_types.proofs.date_text.parts_of.Goals as goal

pub overflow_cast-result : goal.overflow_cast-result
overflow_cast-result c =
    let text = c.args.text.now in
    let (_, two, _) = parts_long text c.requires in
    let (_, _, short) = c.in_ok-month.ensures in
    let below = below_power c.in_ok-month.month 2 (take 2 (drop 5 text)) two short in
    omega (arith, below)

pub overflow_cast-result-2 : goal.overflow_cast-result-2
overflow_cast-result-2 c =
    let text = c.args.text.now in
    let (_, _, two) = parts_long text c.requires in
    let (_, _, short) = rw (rest_is text 8) at c.in_ok-day.ensures in
    let below = below_power c.in_ok-day.day 2 (drop 8 text) two short in
    omega (arith, below)

pub returns : goal.returns
returns c =
    let text = c.args.text.now in
    let (four, two, last_two) = parts_long text c.requires in
    let (year_digits, year_is, year_short) = c.in_ok-year.ensures in
    let (month_digits, month_is, month_short) = c.in_ok-month.ensures in
    let (day_digits, day_is, day_short) = rw (rest_is text 8) at c.in_ok-day.ensures in
    let form : IsDateForm text = record {
      long = c.requires;
      year = year_digits;
      first_hyphen = c.if-text-ne45.false;
      month = month_digits;
      second_hyphen = c.if-text-ne45-2.false;
      day = day_digits;
    } in (
      form,
      year_is,
      month_is,
      day_is,
      below_power c.in_ok-year.year 4 (take 4 text) four year_short,
      below_power c.in_ok-month.month 2 (take 2 (drop 5 text)) two month_short,
      below_power c.in_ok-day.day 2 (drop 8 text) last_two day_short,
    )
