-- What literals are, by their octets in the text (ISO/IEC 9075:1992, 5.3).
use Rattle.std.specs.Prelude.{ℕ, pos, ◌+◌, ◌-◌, ◌^◌, ◌==◌, nat_le, nat_lt, Bool, not, ◌&&◌, List, [], ◌∷◌, length, take, drop, slice_index, Option, Some, None, position, if◌then◌else◌}
use Rattle.std.specs.Char.{is_ascii_digit}
use Rattle.std.specs.List.{list_all, filter}
use Rattle.std.specs.Option.{option_and_then, option_map, option_map_or}
use Rattle.std.specs.Str.Parse.{digits_value}
use Rattle.qw_types.specs.Calendar.{days_of, packed}
use Rattle.qw_types.specs.DateText.{year_of, month_of, day_of}
use Rattle.qw_types.specs.Digits.{are_digits}
use Rattle.qw_types.specs.Octets.{minus, period}
use Rattle.qw_ast.specs.Quoted.{string_value}
use Rattle.qw_ast.specs.Syntax.{Days}
use Rattle.qw_scalar.specs.Expression.{Expression, number, date}
use Rattle.qw_typer.specs.Days.{Day, moved}

-- ---- numbers

-- the digits of a number without its point
abbrev pub digits_of : List ℕ → List ℕ
digits_of octets = filter (λ b. not (b == period)) octets

-- how many digits stand behind its point
abbrev pub scale_of : List ℕ → ℕ
scale_of octets = option_map_or (λ (place : ℕ). length octets - (place + 1)) (position (λ b. b == period) octets) 0

-- whether a number has at most 18 digits before its point and behind it, but for zeros at its start, and at most 18 behind it
abbrev pub is_short : List ℕ → Bool
is_short octets = are_digits (digits_of octets) && (nat_lt (digits_value 10 (digits_of octets)) (10 ^ 18) && nat_le (scale_of octets) 18)

-- the number that the octets are, if it isn't too long
abbrev pub number_of : List ℕ → Option Expression
number_of octets = if is_short octets then Some (number (pos (digits_value 10 (digits_of octets))) (scale_of octets)) else None

-- ---- dates

-- whether the octets are YYYY-MM-DD
abbrev pub is_date_form : List ℕ → Bool
is_date_form text =
    (length text == 10) && (list_all is_ascii_digit (take 4 text) && ((slice_index text 4 == minus) && (list_all is_ascii_digit (take 2 (drop 5 text))
    && ((slice_index text 7 == minus) && list_all is_ascii_digit (drop 8 text)))))

-- whether the calendar has the day, in the years 1 to 9999
abbrev pub is_day : Day → Bool
is_day d = nat_le 1 d.year && (nat_le d.year 9999 && (nat_le 1 d.month && (nat_le d.month 12 && (nat_le 1 d.day && nat_le d.day (days_of d.year d.month)))))

-- the day that the octets show
abbrev pub shown : List ℕ → Day
shown text = record { year = year_of text; month = month_of text; day = day_of text }

abbrev pub day_shown : List ℕ → Option Day
day_shown text = if is_date_form text && is_day (shown text) then Some (shown text) else None

-- the days of an interval, 1 to 7 digits
abbrev pub interval_days : List ℕ → Option ℕ
interval_days text = if are_digits text && nat_le (length text) 7 then Some (digits_value 10 text) else None

-- the day after each interval in turn; each is a day of the calendar
abbrev pub after_intervals : List Days → Day → Option Day
after_intervals [] d = Some d
after_intervals (i ∷ others) d = option_and_then (after_intervals others) (option_and_then (λ n. moved i.sign n d) (interval_days (string_value i.string)))

-- a day as a date
abbrev pub date_at : Day → Expression
date_at d = date (pos (packed d.year d.month d.day))

-- the date that a date literal and its intervals are, if they are one
abbrev pub date_of : List ℕ → List Days → Option Expression
date_of string intervals = option_map date_at (option_and_then (after_intervals intervals) (day_shown (string_value string)))
