-- The days one after another are those of consecutive day numbers.
use Rattle.std.proofs.Common.{◌≡◌, ℕ, zero, suc, ◌+◌, ◌-◌, ◌≤◌, ◌<◌, ℤ, pos, neg_ℤ, ◌+ℤ◌, ◌<ℤ◌, nat_lt, Option, Some, None, MatchOption, refl, sym, ap, ◌∙◌, if◌then◌else◌, arith, inl, inr}
use Rattle.std.specs.Option.{option_and_then}
use Rattle.std.proofs.lemmas.Bool.{cases_lt, le-ltb, lt-ltb}
use Rattle.jiff_core.specs.Calendar.{day_count, days_from_civil, days_in_month}
use Rattle.jiff_core.proofs.CalendarLemmas.{days_from_civil-day_count, days_in_month_bounds}
use Rattle.jiff_core.proofs.MarchLemmas.{day_count-early}
use Rattle.jiff_core.proofs.DateLemmas.{days_from_civil-day, days_from_civil-next_month, days_from_civil-next_year, days_from_civil-max}
use Rattle.jiff_core.proofs.SignedLemmas.{signed_arith}
use Rattle.qw_types.specs.Calendar.{days_of}
use Rattle.qw_typer.specs.Days.{Day, earlier, later, next, previous}

-- a day of the years 1 to 9999
pub record IsValid (d : Day) : Type 0 where
  pub first_year : 1 ≤ d.year
  pub last_year : d.year ≤ 9999
  pub first_month : 1 ≤ d.month
  pub last_month : d.month ≤ 12
  pub first_day : 1 ≤ d.day
  pub last_day : d.day ≤ days_of d.year d.month

-- its number among all days
abbrev pub number : Day → ℤ
number d = days_from_civil (pos d.year) d.month d.day

same_length : (y m : ℕ) → days_of y m ≡ days_in_month (pos y) m
same_length y m = refl

month_bounds : (y m : ℕ) → (days_of y m ≤ 31) × (28 ≤ days_of y m)
month_bounds y m = days_in_month_bounds (pos y) m

day_after : (y m d : ℕ) → 1 ≤ d → days_from_civil (pos y) m (d + 1) ≡ days_from_civil (pos y) m d +ℤ pos 1
day_after y m d h = let e = days_from_civil-day (pos y) m d (d + 1) h (omega arith) in omega (arith, signed_arith, e)

month_after : (y m d : ℕ) → 1 ≤ m → d ≡ days_of y m → days_from_civil (pos y) (m + 1) 1 ≡ days_from_civil (pos y) m d +ℤ pos 1
month_after y m d h e = days_from_civil-next_month (pos y) m d h e

year_after : (y : ℕ) → days_from_civil (pos (y + 1)) 1 1 ≡ days_from_civil (pos y) 12 31 +ℤ pos 1
year_after y = days_from_civil-next_year (pos y) (pos (y + 1)) (omega (arith, signed_arith)) (omega (arith, signed_arith))

abbrev pub NextIs : Day → Option Day → Type 0
NextIs d o = MatchOption o (number d ≡ pos 2932896) (λ e. IsValid e × (number e ≡ number d +ℤ pos 1))

abbrev pub PreviousIs : Day → Option Day → Type 0
PreviousIs d o = MatchOption o (number d ≡ neg_ℤ (pos 719162)) (λ e. IsValid e × (number d ≡ number e +ℤ pos 1))

december : (y : ℕ) → days_of y 12 ≡ 31
december y = refl

next_year : (d : Day) → IsValid d → d.day ≡ 31 → d.month ≡ 12 → NextIs d (if nat_lt d.year 9999 then Some (record { year = d.year + 1; month = 1; day = 1 }) else None)
next_year d v e m = elim (cases_lt d.year 9999) [
  | inl lt ↦ rw (lt-ltb d.year 9999 lt)
      (record { first_year = omega arith; last_year = omega arith; first_month = omega arith; last_month = omega arith; first_day = omega arith; last_day = omega arith }, year_after d.year ∙ ap (λ z. z +ℤ pos 1) (sym last))
  | inr le ↦ rw (le-ltb d.year 9999 le) (let y : d.year ≡ 9999 = omega (arith, v.last_year) in last ∙ ap (λ (k : ℕ). days_from_civil (pos k) 12 31) y ∙ days_from_civil-max)
]
  where
    last : number d ≡ days_from_civil (pos d.year) 12 31
    last = ap (days_from_civil (pos d.year) d.month) e ∙ ap (λ (k : ℕ). days_from_civil (pos d.year) k 31) m

next_month : (d : Day) → IsValid d → d.day ≡ days_of d.year d.month
    → NextIs d (if nat_lt d.month 12 then Some (record { year = d.year; month = d.month + 1; day = 1 }) else (if nat_lt d.year 9999 then Some (record { year = d.year + 1; month = 1; day = 1 }) else None))
next_month d v e = elim (cases_lt d.month 12) [
  | inl lt ↦ rw (lt-ltb d.month 12 lt)
      (record { first_year = v.first_year; last_year = v.last_year; first_month = omega arith; last_month = omega arith; first_day = omega arith; last_day = (let b = month_bounds d.year (d.month + 1) in omega arith) }, month_after d.year d.month d.day v.first_month e)
  | inr le ↦ rw (le-ltb d.month 12 le) (let m : d.month ≡ 12 = omega (arith, v.last_month) in next_year d v (e ∙ ap (days_of d.year) m ∙ december d.year) m)
]

pub next_is : (d : Day) → IsValid d → NextIs d (next d)
next_is d v = elim (cases_lt d.day (days_of d.year d.month)) [
  | inl lt ↦ rw (lt-ltb d.day (days_of d.year d.month) lt)
      (record { first_year = v.first_year; last_year = v.last_year; first_month = v.first_month; last_month = v.last_month; first_day = omega arith; last_day = omega arith }, day_after d.year d.month d.day v.first_day)
  | inr le ↦ rw (le-ltb d.day (days_of d.year d.month) le) (next_month d v (let l : d.day ≤ days_of d.year d.month = v.last_day in omega arith))
]

pub first_number : days_from_civil (pos 1) 1 1 ≡ neg_ℤ (pos 719162)
first_number =
    let count : day_count (pos 1) 1 1 ≡ 3652791 = day_count-early (pos 1) 10000 1 1 refl (omega arith) (omega arith) (omega arith) in
    omega (arith, signed_arith, days_from_civil-day_count (pos 1) 1 1, count)

previous_year : (d : Day) → IsValid d → d.day ≡ 1 → d.month ≡ 1 → PreviousIs d (if nat_lt 1 d.year then Some (record { year = d.year - 1; month = 12; day = 31 }) else None)
previous_year d v e m = elim (cases_lt 1 d.year) [
  | inl lt ↦ rw (lt-ltb 1 d.year lt) (
    record { first_year = omega arith; last_year = (let l : d.year ≤ 9999 = v.last_year in omega arith); first_month = omega arith; last_month = omega arith; first_day = omega arith; last_day = omega arith },
    first ∙ ap (λ (k : ℕ). days_from_civil (pos k) 1 1) (same lt) ∙ year_after (d.year - 1),
  )
  | inr le ↦ rw (le-ltb 1 d.year le) (let y : d.year ≡ 1 = (let l : 1 ≤ d.year = v.first_year in omega arith) in first ∙ ap (λ (k : ℕ). days_from_civil (pos k) 1 1) y ∙ first_number)
]
  where
    first : number d ≡ days_from_civil (pos d.year) 1 1
    first = ap (days_from_civil (pos d.year) d.month) e ∙ ap (λ (k : ℕ). days_from_civil (pos d.year) k 1) m

    same : 1 < d.year → d.year ≡ d.year - 1 + 1
    same lt = omega arith

previous_month : (d : Day) → IsValid d → d.day ≡ 1
    → PreviousIs d (if nat_lt 1 d.month then Some (record { year = d.year; month = d.month - 1; day = days_of d.year (d.month - 1) }) else (if nat_lt 1 d.year then Some (record { year = d.year - 1; month = 12; day = 31 }) else None))
previous_month d v e = elim (cases_lt 1 d.month) [
  | inl lt ↦ rw (lt-ltb 1 d.month lt) (
    record { first_year = v.first_year; last_year = v.last_year; first_month = omega arith; last_month = (let l : d.month ≤ 12 = v.last_month in omega arith); first_day = (let b = month_bounds d.year (d.month - 1) in omega arith); last_day = omega arith },
    ap (days_from_civil (pos d.year) d.month) e ∙ ap (λ (k : ℕ). days_from_civil (pos d.year) k 1) (same lt) ∙ month_after d.year (d.month - 1) (days_of d.year (d.month - 1)) (omega arith) refl,
  )
  | inr le ↦ rw (le-ltb 1 d.month le) (previous_year d v e (let l : 1 ≤ d.month = v.first_month in omega arith))
]
  where
    same : 1 < d.month → d.month ≡ d.month - 1 + 1
    same lt = omega arith

pub previous_is : (d : Day) → IsValid d → PreviousIs d (previous d)
previous_is d v = elim (cases_lt 1 d.day) [
  | inl lt ↦ rw (lt-ltb 1 d.day lt) (
    record { first_year = v.first_year; last_year = v.last_year; first_month = v.first_month; last_month = v.last_month; first_day = omega arith; last_day = (let l : d.day ≤ days_of d.year d.month = v.last_day in omega arith) },
    ap (days_from_civil (pos d.year) d.month) (same lt) ∙ day_after d.year d.month (d.day - 1) (omega arith),
  )
  | inr le ↦ rw (le-ltb 1 d.day le) (previous_month d v (let l : 1 ≤ d.day = v.first_day in omega arith))
]
  where
    same : 1 < d.day → d.day ≡ d.day - 1 + 1
    same lt = omega arith

-- ---- many days

abbrev pub LaterIs : ℕ → Day → Option Day → Type 0
LaterIs n d o = MatchOption o (pos 2932896 <ℤ (number d +ℤ pos n)) (λ e. IsValid e × (number e ≡ number d +ℤ pos n))

abbrev pub EarlierIs : ℕ → Day → Option Day → Type 0
EarlierIs n d o = MatchOption o (number d <ℤ (pos n +ℤ neg_ℤ (pos 719162))) (λ e. IsValid e × (number d ≡ number e +ℤ pos n))

later_more : (n : ℕ) (d e : Day) (o : Option Day) → number e ≡ number d +ℤ pos 1 → LaterIs n e o → LaterIs (suc n) d o
later_more n d e None h l = omega (arith, signed_arith, h, l)
later_more n d e (Some f) h l = let k = l.1 in (l.0, omega (arith, signed_arith, h, k))

later_step : (n : ℕ) (d : Day) (o : Option Day) → NextIs d o → ((e : Day) → IsValid e → LaterIs n e (later n e)) → LaterIs (suc n) d (option_and_then (later n) o)
later_step n d None h each = omega (arith, signed_arith, h)
later_step n d (Some e) h each = later_more n d e (later n e) h.1 (each e h.0)

pub later_is : (n : ℕ) (d : Day) → IsValid d → LaterIs n d (later n d)
unfolding later
later_is zero d v = (v, omega (arith, signed_arith))
later_is (suc n) d v = later_step n d (next d) (next_is d v) (λ e ve. later_is n e ve)

earlier_more : (n : ℕ) (d e : Day) (o : Option Day) → number d ≡ number e +ℤ pos 1 → EarlierIs n e o → EarlierIs (suc n) d o
earlier_more n d e None h l = omega (arith, signed_arith, h, l)
earlier_more n d e (Some f) h l = let k = l.1 in (l.0, omega (arith, signed_arith, h, k))

earlier_step : (n : ℕ) (d : Day) (o : Option Day) → PreviousIs d o → ((e : Day) → IsValid e → EarlierIs n e (earlier n e)) → EarlierIs (suc n) d (option_and_then (earlier n) o)
earlier_step n d None h each = omega (arith, signed_arith, h)
earlier_step n d (Some e) h each = earlier_more n d e (earlier n e) h.1 (each e h.0)

pub earlier_is : (n : ℕ) (d : Day) → IsValid d → EarlierIs n d (earlier n d)
unfolding earlier
earlier_is zero d v = (v, omega (arith, signed_arith))
earlier_is (suc n) d v = earlier_step n d (previous d) (previous_is d v) (λ e ve. earlier_is n e ve)
