-- Mirrors `number::value_of`, and how `date` sees a day.
use Rattle.std.specs.Prelude.{◌≡◌, ◌/◌, ◌%◌, false, IsTrue, MatchOption, ℕ, pos, ◌-◌, ◌^◌, ◌==◌, nat_lt, ◌&&◌, List, [], ◌∷◌, length, take, drop, Option, Some, None, ℤ, neg_ℤ, unsigned_abs, if◌then◌else◌}
use Rattle.std.specs.Str.Parse.{digits_value}
use Rattle.jiff.specs.Types.{Date}
use Rattle.qw_types.specs.Digits.{are_digits}
use Rattle.qw_ast.specs.declared.script.Sign.{Sign}
use Rattle.qw_ast.specs.declared.script.Sign.TheVariants.{Plus, Minus}
use Rattle.qw_typer.specs.Days.{Day}
use Rattle.qw_typer.specs.Literal.{is_day}

-- the number that digits are, if it has at most 18 digits
abbrev pub value_of : List ℕ → Option ℤ
value_of digits = if are_digits digits && nat_lt (digits_value 10 digits) (10 ^ 18) then Some (pos (digits_value 10 digits)) else None

-- days forward or back
abbrev pub signed_days : Sign → ℕ → ℤ
signed_days Plus n = pos n
signed_days Minus n = neg_ℤ (pos n)

-- the day that a date of the library is
abbrev pub day_of_date : Date → Day
day_of_date d = record { year = unsigned_abs d.year; month = d.month; day = d.day }

-- the day that a number year * 10000 + month * 100 + day shows
abbrev pub unpacked : ℤ → Day
unpacked z = record { year = unsigned_abs z / 10000; month = unsigned_abs z / 100 % 100; day = unsigned_abs z % 100 }

-- the date of that day, where the calendar has it
abbrev pub IsUnpacked : ℤ → Option Date → Type 0
IsUnpacked z result = MatchOption result (is_day (unpacked z) ≡ false) (λ d. (day_of_date d ≡ unpacked z) × IsTrue (is_day (unpacked z)))
