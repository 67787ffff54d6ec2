-- The library's dates are the days of the definitions, and moving them by days moves those.
use Rattle.std.proofs.Common.{◌≡◌, ℕ, ◌≤◌, ◌<◌, ℤ, pos, negsuc, neg_ℤ, ◌+ℤ◌, ◌≤ℤ◌, ◌<ℤ◌, Option, Some, None, MatchOption, FitsSigned, w64, option_map, refl, sym, ap, ◌∙◌, arith, inl, inr, unsigned_abs}
use Rattle.jiff.specs.Types.{Date}
use Rattle.jiff_core.specs.Calendar.{IsEpochDay, days_from_civil}
use Rattle.jiff_core.specs.Date.{epoch_day}
use Rattle.jiff_core.proofs.DateLemmas.{IsEarlier, cases_date, epoch_day-lt, epoch_day_injective, epoch_day_range, epoch_day_same}
use Rattle.jiff_core.proofs.SignedLemmas.{signed_arith}
use Rattle.qw_ast.specs.declared.script.Sign.{Sign}
use Rattle.qw_ast.specs.declared.script.Sign.TheVariants.{Plus, Minus}
use Rattle.qw_typer.specs.Days.{Day, earlier, later, moved}
use Rattle.qw_typer.specs.Inner.Literals.{day_of_date, signed_days}
use Rattle.qw_typer.proofs.DayLemmas.{EarlierIs, IsValid, LaterIs, earlier_is, first_number, later_is, number}

-- ---- one day in both forms

abbrev pub as_date : (e : Day) → IsValid e → Date
as_date e v = record {
  year = pos e.year;
  month = e.month;
  day = e.day;
  year_in = (let y : e.year ≤ 9999 = v.last_year in (omega (arith, signed_arith), omega (arith, signed_arith)));
  month_in = (v.first_month, v.last_month);
  day_in = (v.first_day, v.last_day);
}

positive : (z : ℤ) → pos 1 ≤ℤ z → pos (unsigned_abs z) ≡ z
positive (pos n) h = refl
positive (negsuc n) h = absurd (omega (arith, signed_arith))

pub date_valid : (d : Date) → pos 1 ≤ℤ d.year → IsValid (day_of_date d)
date_valid d h =
    let same = positive d.year h in
    let low = d.year_in.0 in
    let high = d.year_in.1 in
    record {
      first_year = omega (arith, signed_arith, same, h);
      last_year = omega (arith, signed_arith, same, high);
      first_month = d.month_in.0;
      last_month = d.month_in.1;
      first_day = d.day_in.0;
      last_day = d.day_in.1;
    }

pub number_is : (d : Date) → pos 1 ≤ℤ d.year → number (day_of_date d) ≡ epoch_day d
number_is d h = ap (λ y. days_from_civil y d.month d.day) (positive d.year h)

made : ℕ → ℕ → ℕ → Day
made y m d = record { year = y; month = m; day = d }

pub same_day : (e : Day) → IsValid e → (r : Date) → number e ≡ epoch_day r → e ≡ day_of_date r
unfolding made
same_day e v r h =
    let same = epoch_day_injective (as_date e v) r h in
    ap (λ (y : ℕ). made y e.month e.day) (ap unsigned_abs same.0) ∙ ap (λ (m : ℕ). made (unsigned_abs r.year) m e.day) same.1 ∙ ap (λ (d : ℕ). made (unsigned_abs r.year) r.month d) same.2

pub same_year : (e : Day) → IsValid e → (r : Date) → number e ≡ epoch_day r → pos 1 ≤ℤ r.year
same_year e v r h =
    let year = (epoch_day_injective (as_date e v) r h).0 in
    let first = v.first_year in
    omega (arith, signed_arith, year, first)

-- ---- the first and the last day

first : Date
first = as_date (record { year = 1; month = 1; day = 1 }) (record { first_year = omega arith; last_year = omega arith; first_month = omega arith; last_month = omega arith; first_day = omega arith; last_day = omega arith })

none_before : (r : Date) → pos 1 ≤ℤ r.year → IsEarlier r first → ⊥
unfolding first
none_before r h (inl year) = omega (arith, signed_arith, h, year)
none_before r h (inr (year, inl month)) = let m = r.month_in.0 in omega (arith, m, month)
none_before r h (inr (year, inr day)) = let d = r.day_in.0 in omega (arith, d, day.1)

pub from_first : (r : Date) → pos 1 ≤ℤ r.year → neg_ℤ (pos 719162) ≤ℤ epoch_day r
unfolding first
from_first r h = elim (cases_date first r) [
  | inl lt ↦ omega (arith, signed_arith, epoch_day-lt first r lt, first_number)
  | inr (inl gt) ↦ absurd (none_before r h gt)
  | inr (inr same) ↦ omega (arith, signed_arith, epoch_day_same first r same.0 same.1 same.2, first_number)
]

pub valid_bounds : (e : Day) → IsValid e → (neg_ℤ (pos 719162) ≤ℤ number e) × (number e ≤ℤ pos 2932896)
valid_bounds e v =
    let d = as_date e v in
    (from_first (as_date e v) (let f : 1 ≤ e.year = v.first_year in omega (arith, signed_arith)), (epoch_day_range (as_date e v)).1)

-- ---- moving

-- the day that is so many days on; where there is none, no date of the years from 1 on is
abbrev pub MovedIs : Sign → ℕ → Day → Option Day → Type 0
MovedIs sign n d o = MatchOption o ((r : Date) → pos 1 ≤ℤ r.year → epoch_day r ≡ number d +ℤ signed_days sign n → ⊥) (λ e. IsValid e × (number e ≡ number d +ℤ signed_days sign n))

later_moved : (n : ℕ) (d : Day) (o : Option Day) → LaterIs n d o → MovedIs Plus n d o
later_moved n d None h = λ r first' e. let last = (epoch_day_range r).1 in omega (arith, signed_arith, h, e, last)
later_moved n d (Some f) h = h

earlier_moved : (n : ℕ) (d : Day) (o : Option Day) → EarlierIs n d o → MovedIs Minus n d o
earlier_moved n d None h = λ r first' e. let low = from_first r first' in omega (arith, signed_arith, h, e, low)
earlier_moved n d (Some f) h = let k = h.1 in (h.0, omega (arith, signed_arith, k))

pub moved_is : (sign : Sign) (n : ℕ) (d : Day) → IsValid d → MovedIs sign n d (moved sign n d)
moved_is Plus n d v = later_moved n d (later n d) (later_is n d v)
moved_is Minus n d v = earlier_moved n d (earlier n d) (earlier_is n d v)

found_in : (sign : Sign) (n : ℕ) (d : Day) (o : Option Day) (r : Date) → MovedIs sign n d o → pos 1 ≤ℤ r.year → epoch_day r ≡ number d +ℤ signed_days sign n → Some (day_of_date r) ≡ o
found_in sign n d None r h first' e = absurd (h r first' e)
found_in sign n d (Some f) r h first' e = ap Some (sym (same_day f h.0 r (h.1 ∙ sym e)))

-- where the library has a date there of the years from 1 on, it is that day
pub found : (sign : Sign) (n : ℕ) (d r : Date) → pos 1 ≤ℤ d.year → pos 1 ≤ℤ r.year → epoch_day r ≡ epoch_day d +ℤ signed_days sign n → Some (day_of_date r) ≡ moved sign n (day_of_date d)
found sign n d r hd hr e =
    found_in sign n (day_of_date d) (moved sign n (day_of_date d)) r (moved_is sign n (day_of_date d) (date_valid d hd)) hr (e ∙ ap (λ z. z +ℤ signed_days sign n) (sym (number_is d hd)))

unfound_in : (sign : Sign) (n : ℕ) (d : Day) (o : Option Day) → MovedIs sign n d o → ((e : Day) → IsValid e → number e ≡ number d +ℤ signed_days sign n → ⊥) → None ≡ o
unfound_in sign n d None h none = refl
unfound_in sign n d (Some f) h none = absurd (none f h.0 h.1)

-- where no day of the years 1 to 9999 is there, there is none
pub unfound : (sign : Sign) (n : ℕ) (d : Date) → pos 1 ≤ℤ d.year → ((e : Day) → IsValid e → number e ≡ epoch_day d +ℤ signed_days sign n → ⊥) → None ≡ moved sign n (day_of_date d)
unfound sign n d hd none =
    unfound_in sign n (day_of_date d) (moved sign n (day_of_date d)) (moved_is sign n (day_of_date d) (date_valid d hd))
    (λ e v h. none e v (h ∙ ap (λ z. z +ℤ signed_days sign n) (number_is d hd)))

-- the library has no such date
pub no_date : (sign : Sign) (n : ℕ) (d : Date) → pos 1 ≤ℤ d.year → (IsEpochDay (epoch_day d +ℤ signed_days sign n) → ⊥) → None ≡ moved sign n (day_of_date d)
no_date sign n d hd out = unfound sign n d hd (λ e v h. out (rw (← h) (epoch_day_range (as_date e v))))

-- it has one before the year 1
pub too_early : (sign : Sign) (n : ℕ) (d r : Date) → pos 1 ≤ℤ d.year → r.year <ℤ pos 1 → epoch_day r ≡ epoch_day d +ℤ signed_days sign n → None ≡ moved sign n (day_of_date d)
too_early sign n d r hd early e = unfound sign n d hd (λ f v h. let y = same_year f v r (h ∙ sym e) in omega (arith, signed_arith, y, early))

-- there are fewer days from the first to the last
pub too_many : (sign : Sign) (n : ℕ) (d : Date) → pos 1 ≤ℤ d.year → 4000000 < n → None ≡ moved sign n (day_of_date d)
too_many Plus n d hd many =
    unfound Plus n d hd (λ e v h. let low = from_first d hd in let high = (valid_bounds e v).1 in omega (arith, signed_arith, h, low, high, many))
too_many Minus n d hd many =
    unfound Minus n d hd (λ e v h. let low = (valid_bounds e v).0 in let high = (epoch_day_range d).1 in omega (arith, signed_arith, h, low, high, many))

-- the library's date, where it is of the years from 1 on
pub moved_day : (sign : Sign) (n : ℕ) (d r : Date) (o : Option Date) → pos 1 ≤ℤ d.year → epoch_day r ≡ epoch_day d +ℤ signed_days sign n → MatchOption o (r.year <ℤ pos 1) (λ x. (x ≡ r) × (pos 1 ≤ℤ r.year)) → option_map day_of_date o ≡ moved sign n (day_of_date d)
moved_day sign n d r None hd e h = too_early sign n d r hd h e
moved_day sign n d r (Some x) hd e h = ap (λ (y : Date). Some (day_of_date y)) h.0 ∙ found sign n d r hd h.1 e

pub few : (sign : Sign) (n : ℕ) → n ≤ 4000000 → FitsSigned w64 (signed_days sign n)
few Plus n h = omega (arith, signed_arith)
few Minus n h = omega (arith, signed_arith)
