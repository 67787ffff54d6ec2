-- A date's text in a table file: YYYY-MM-DD, spaces round it (ISO/IEC 9075:1992, 5.3 "date value"; 6.10 passes over the
-- spaces).
use Rattle.std.specs.Prelude.{◌≡◌, ℕ, ℤ, pos, List, length, take, drop, slice_index, true}
use Rattle.std.specs.Char.{is_ascii_digit}
use Rattle.std.specs.List.{list_all}
use Rattle.std.specs.Str.Parse.{digits_value}
use Rattle.qw_types.specs.Calendar.{IsDate, packed}
use Rattle.qw_types.specs.Numeral.{are_spaces, without_spaces}
use Rattle.qw_types.specs.Octets.{minus}

-- ten octets are two hyphens and digits for the rest
pub record IsDateForm (text : List ℕ) : Type 0 where
  pub long : length text ≡ 10
  pub year : list_all is_ascii_digit (take 4 text) ≡ true
  pub first_hyphen : slice_index text 4 ≡ minus
  pub month : list_all is_ascii_digit (take 2 (drop 5 text)) ≡ true
  pub second_hyphen : slice_index text 7 ≡ minus
  pub day : list_all is_ascii_digit (drop 8 text) ≡ true

-- the numbers that such a text shows
abbrev pub year_of : List ℕ → ℕ
year_of text = digits_value 10 (take 4 text)

abbrev pub month_of : List ℕ → ℕ
month_of text = digits_value 10 (take 2 (drop 5 text))

abbrev pub day_of : List ℕ → ℕ
day_of text = digits_value 10 (drop 8 text)

-- the part of a field that is to be a date, and what is to be spaces behind it
abbrev pub date_part : List ℕ → List ℕ
date_part field = take 10 (without_spaces field)

abbrev pub after_date : List ℕ → List ℕ
after_date field = drop 10 (without_spaces field)

-- a field shows a day of the calendar
pub record ShowsDate (field : List ℕ) (number : ℤ) : Type 0 where
  pub form : IsDateForm (date_part field)
  pub spaces : are_spaces (after_date field) ≡ true
  pub there : IsDate (year_of (date_part field)) (month_of (date_part field)) (day_of (date_part field))
  pub packed_is : number ≡ pos (packed (year_of (date_part field)) (month_of (date_part field)) (day_of (date_part field)))
