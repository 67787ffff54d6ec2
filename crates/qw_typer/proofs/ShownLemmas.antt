-- The days that texts show, and the days of intervals.
use Rattle.std.proofs.Common.{◌≡◌, ◌≤◌, ◌<◌, ◌^◌, ◌/◌, ◌%◌, ◌==◌, ℕ, ℤ, pos, true, false, ◌&&◌, nat_le, List, [], ◌∷◌, length, take, drop, slice_index, Option, Some, None, option_map, unsigned_abs, refl, sym, ap, ◌∙◌, inl, inr, arith}
use Rattle.std.specs.Char.{is_ascii_digit}
use Rattle.std.specs.List.{list_all}
use Rattle.std.specs.Str.Parse.{digits_value}
use Rattle.std.proofs.lemmas.Bool.{and_parts, cases_Bool, lt-ltb}
use Rattle.std.proofs.lemmas.Bool.Decides.{nat_tests}
use Rattle.std.proofs.lemmas.List.{drop_all, length-take, take_all}
use Rattle.std.proofs.lemmas.Str.Parse.{digits_value_short}
use Rattle.jiff.specs.Types.{Date}
use Rattle.qw_types.specs.Calendar.{IsDate, days_of, packed}
use Rattle.qw_types.specs.DateText.{IsDateForm, ShowsDate, date_part, day_of, month_of, year_of}
use Rattle.qw_types.specs.Digits.{are_digits}
use Rattle.qw_types.specs.Numeral.{without_spaces}
use Rattle.qw_types.specs.Octets.{minus, space}
use Rattle.qw_types.proofs.DigitLemmas.{all_digits, own}
use Rattle.qw_typer.specs.Days.{Day}
use Rattle.qw_typer.specs.Inner.Literals.{IsUnpacked, day_of_date, unpacked, value_of}
use Rattle.qw_typer.specs.Literal.{day_shown, interval_days, is_date_form, is_day, shown}
use Rattle.qw_typer.proofs.DateLemmas.{day_valid}

-- ---- intervals

small_value : (bs : List ℕ) → length bs ≤ 7 → are_digits bs ≡ true → digits_value 10 bs < 10000000
small_value bs short e = digits_value_short own bs 7 (all_digits bs e) short

pub few_days : (bs : List ℕ) (z : ℤ) → length bs ≤ 7 → Some z ≡ value_of bs → (unsigned_abs z < 10000000) × (Some (unsigned_abs z) ≡ interval_days bs)
few_days bs z short h = elim (cases_Bool (are_digits bs)) [
  | inl e ↦ given e (small_value bs short e)
  | inr e ↦ absurd (none e)
]
  where
    given : are_digits bs ≡ true → digits_value 10 bs < 10000000 → (unsigned_abs z < 10000000) × (Some (unsigned_abs z) ≡ interval_days bs)
    given e small =
        let s : Some z ≡ Some (pos (digits_value 10 bs)) = rw (e, lt-ltb (digits_value 10 bs) (10 ^ 18) (omega arith)) at h in
        let same : z ≡ pos (digits_value 10 bs) = cc in
        let le : nat_le (length bs) 7 ≡ true = grind (arith, nat_tests) in
        rw (same, e, le) (small, refl)

    none : are_digits bs ≡ false → ⊥
    none e = let s : Some z ≡ None = rw e at h in absurd cc

pub no_days : (bs : List ℕ) → length bs ≤ 7 → None ≡ value_of bs → None ≡ interval_days bs
no_days bs short h = elim (cases_Bool (are_digits bs)) [
  | inl e ↦ absurd (none e (small_value bs short e))
  | inr e ↦ rw e refl
]
  where
    none : are_digits bs ≡ true → digits_value 10 bs < 10000000 → ⊥
    none e small = let s : None ≡ Some (pos (digits_value 10 bs)) = rw (e, lt-ltb (digits_value 10 bs) (10 ^ 18) (omega arith)) at h in absurd cc

-- ---- texts without spaces before them

shorter : (t : List ℕ) → length (without_spaces t) ≤ length t
shorter [] = omega arith
shorter (o ∷ os) = elim (cases_Bool (o == space)) [
  | inl e ↦ rw e (let s = shorter os in omega (arith, s))
  | inr e ↦ rw e (omega arith)
]

kept : (t : List ℕ) → length t ≤ length (without_spaces t) → without_spaces t ≡ t
kept [] h = refl
kept (o ∷ os) h = elim (cases_Bool (o == space)) [
  | inl e ↦ absurd (none e)
  | inr e ↦ rw e refl
]
  where
    none : (o == space) ≡ true → ⊥
    none e = let s = shorter os in let l : length (o ∷ os) ≤ length (without_spaces os) = rw e at h in omega (arith, s, l)

same_part : (t : List ℕ) → length t ≡ 10 → length (date_part t) ≡ 10 → date_part t ≡ t
same_part t ten long =
    let l = length-take 10 (without_spaces t) in
    let same : without_spaces t ≡ t = kept t (omega (arith, l, long, ten)) in
    rw same (take_all 10 t (omega (arith, ten)))

digit_no_space : (o : ℕ) → is_ascii_digit o ≡ true → (o == space) ≡ false
digit_no_space o h = grind (arith, nat_tests)

no_spaces : (t : List ℕ) → list_all is_ascii_digit (take 4 t) ≡ true → without_spaces t ≡ t
no_spaces [] h = refl
no_spaces (o ∷ os) h = let first = and_parts (is_ascii_digit o) (list_all is_ascii_digit (take 3 os)) h in rw (digit_no_space o first.0) refl

-- ---- days

true_le : (a b : ℕ) → a ≤ b → nat_le a b ≡ true
true_le a b h = grind (arith, nat_tests)

same_number : (a b : ℕ) → (a == b) ≡ true → a ≡ b
same_number a b h = grind (arith, nat_tests)

day_test : (y m d : ℕ) → IsDate y m d → is_day (record { year = y; month = m; day = d }) ≡ true
day_test y m d v = rw (true_le 1 y v.first_year, true_le y 9999 v.last_year, true_le 1 m v.first_month, true_le m 12 v.last_month, true_le 1 d v.first_day, true_le d (days_of y m) v.last_day) refl

made : ℕ → ℕ → ℕ → Day
made y m d = record { year = y; month = m; day = d }

unpack : (y m d : ℕ) → m < 100 → d < 100 → unpacked (pos (packed y m d)) ≡ record { year = y; month = m; day = d }
unfolding made
unpack y m d hm hd =
    let year : packed y m d / 10000 ≡ y = omega arith in
    let month : packed y m d / 100 % 100 ≡ m = omega arith in
    let day : packed y m d % 100 ≡ d = omega arith in
    ap (λ (k : ℕ). made k (packed y m d / 100 % 100) (packed y m d % 100)) year ∙ ap (λ (k : ℕ). made y k (packed y m d % 100)) month ∙ ap (made y m) day

thirty_one : (y m : ℕ) → days_of y m ≤ 31
thirty_one y m = grind arith

form_tested : (t : List ℕ) → IsDateForm t → is_date_form t ≡ true
form_tested t f = rw (f.long, f.year, f.first_hyphen, f.month, f.second_hyphen, f.day) refl

shown_day : (t : List ℕ) → IsDateForm t → IsDate (year_of t) (month_of t) (day_of t) → day_shown t ≡ Some (shown t)
shown_day t f v = rw (form_tested t f, day_test (year_of t) (month_of t) (day_of t) v) refl

shown_unpacked : (t : List ℕ) (z : ℤ) → IsDate (year_of t) (month_of t) (day_of t) → z ≡ pos (packed (year_of t) (month_of t) (day_of t)) → unpacked z ≡ shown t
shown_unpacked t z v e =
    let m = v.last_month in
    let d = v.last_day in
    let l = thirty_one (year_of t) (month_of t) in
    ap unpacked e ∙ unpack (year_of t) (month_of t) (day_of t) (omega (arith, m)) (omega (arith, d, l))

shown_in : (t : List ℕ) (z : ℤ) (o : Option Date) → IsDateForm t → IsDate (year_of t) (month_of t) (day_of t) → z ≡ pos (packed (year_of t) (month_of t) (day_of t)) → IsUnpacked z o → option_map day_of_date o ≡ day_shown t
shown_in t z None f v e h =
    let test = day_test (year_of t) (month_of t) (day_of t) v in
    let no : is_day (shown t) ≡ false = ap is_day (sym (shown_unpacked t z v e)) ∙ h in
    absurd cc
shown_in t z (Some d) f v e h = ap Some (h.0 ∙ shown_unpacked t z v e) ∙ sym (shown_day t f v)

-- what shows a date, with no space round it, shows its day
pub shown_is : (t : List ℕ) (z : ℤ) (o : Option Date) → length t ≡ 10 → ShowsDate t z → IsUnpacked z o → option_map day_of_date o ≡ day_shown t
shown_is t z o ten s h =
    let same = same_part t ten s.form.long in
    shown_in t z o (rw same at s.form) (rw same at s.there) (rw same at s.packed_is) h

form_from : (t : List ℕ) → is_date_form t ≡ true → IsDateForm t
form_from t h =
    let a = and_parts (length t == 10) _ h in
    let b = and_parts (list_all is_ascii_digit (take 4 t)) _ a.1 in
    let c = and_parts (slice_index t 4 == minus) _ b.1 in
    let d = and_parts (list_all is_ascii_digit (take 2 (drop 5 t))) _ c.1 in
    let e = and_parts (slice_index t 7 == minus) _ d.1 in
    record {
      long = same_number (length t) 10 a.0;
      year = b.0;
      first_hyphen = same_number (slice_index t 4) minus c.0;
      month = d.0;
      second_hyphen = same_number (slice_index t 7) minus e.0;
      day = e.1;
    }

date_from : (t : List ℕ) → is_day (shown t) ≡ true → IsDate (year_of t) (month_of t) (day_of t)
date_from t h =
    let v = day_valid (shown t) h in
    record { first_year = v.first_year; last_year = v.last_year; first_month = v.first_month; last_month = v.last_month; first_day = v.first_day; last_day = v.last_day }

shows : (t : List ℕ) → is_date_form t ≡ true → is_day (shown t) ≡ true → ShowsDate t (pos (packed (year_of t) (month_of t) (day_of t)))
shows t f d =
    let form = form_from t f in
    let same : without_spaces t ≡ t = no_spaces t form.year in
    let long = form.long in
    let part : date_part t ≡ t = rw same (take_all 10 t (omega (arith, long))) in
    let behind : drop 10 t ≡ [] = drop_all 10 t (omega (arith, long)) in
    record { form = rw part form; spaces = rw (same, behind) refl; there = rw part (date_from t d); packed_is = rw part refl }

-- what shows no date shows no day
pub unshown : (t : List ℕ) → ((z : ℤ) → ShowsDate t z → ⊥) → None ≡ day_shown t
unshown t none = elim (cases_Bool (is_date_form t && is_day (shown t))) [
  | inl e ↦ absurd (let (f, d) = and_parts (is_date_form t) (is_day (shown t)) e in none (pos (packed (year_of t) (month_of t) (day_of t))) (shows t f d))
  | inr e ↦ rw e refl
]
