-- The days of the calendar one after another, from 0001-01-01 to 9999-12-31 (ISO/IEC 9075:1992, 4.5, 6.14).
use Rattle.std.specs.Prelude.{ℕ, zero, suc, ◌+◌, ◌-◌, nat_lt, Option, Some, None, if◌then◌else◌}
use Rattle.std.specs.Option.{option_and_then}
use Rattle.qw_types.specs.Calendar.{days_of}
use Rattle.qw_ast.specs.declared.script.Sign.{Sign}
use Rattle.qw_ast.specs.declared.script.Sign.TheVariants.{Plus, Minus}

pub record Day : Type 0 where
  pub year : ℕ
  pub month : ℕ
  pub day : ℕ

-- the next day; none after the last
abbrev pub next : Day → Option Day
next d =
    if nat_lt d.day (days_of d.year d.month) then Some (record { year = d.year; month = d.month; day = d.day + 1 })
    else (if nat_lt d.month 12 then Some (record { year = d.year; month = d.month + 1; day = 1 })
    else (if nat_lt d.year 9999 then Some (record { year = d.year + 1; month = 1; day = 1 }) else None))

-- the day before; none before the first
abbrev pub previous : Day → Option Day
previous d =
    if nat_lt 1 d.day then Some (record { year = d.year; month = d.month; day = d.day - 1 })
    else (if nat_lt 1 d.month then Some (record { year = d.year; month = d.month - 1; day = days_of d.year (d.month - 1) })
    else (if nat_lt 1 d.year then Some (record { year = d.year - 1; month = 12; day = 31 }) else None))

-- the day that is so many days later, or earlier
unfoldable pub later : ℕ → Day → Option Day
later zero d = Some d
later (suc n) d = option_and_then (later n) (next d)

unfoldable pub earlier : ℕ → Day → Option Day
earlier zero d = Some d
earlier (suc n) d = option_and_then (earlier n) (previous d)

abbrev pub moved : Sign → ℕ → Day → Option Day
moved Plus n d = later n d
moved Minus n d = earlier n d
