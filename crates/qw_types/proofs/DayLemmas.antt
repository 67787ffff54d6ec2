-- Days of the calendar as numbers.
use Rattle.std.proofs.Common.{◌≡◌, ◌≤◌, ◌+◌, ◌*◌, ◌/◌, ◌%◌, ℕ, ℤ, pos, negsuc, Bool, true, IsTrue, nat_le, ◌&&◌, refl, ap, subst, sym, arith}
use Rattle.std.proofs.lemmas.Int.{ints}
use Rattle.qw_types.specs.Calendar.{IsDate, days_of, packed}
use Rattle.qw_types.specs.Value.{IsDay, is_day}
use Rattle.qw_types.proofs.KindLemmas.{month_short}

-- three ranges
six : (a b c d e f g h i : ℕ) → IsTrue ((nat_le a b && nat_le b c) && ((nat_le d e && nat_le e f) && (nat_le g h && nat_le h i))) →
    ((a ≤ b) × (b ≤ c)) × (((d ≤ e) × (e ≤ f)) × ((g ≤ h) × (h ≤ i)))
six a b c d e f g h i all = grind arith

all_six : (a b c d e f g h i : ℕ) → a ≤ b → b ≤ c → d ≤ e → e ≤ f → g ≤ h → h ≤ i →
    IsTrue ((nat_le a b && nat_le b c) && ((nat_le d e && nat_le e f) && (nat_le g h && nat_le h i)))
all_six a b c d e f g h i ab bc de ef gh hi = grind arith

whole : (n : ℕ) → n ≡ packed (n / 10000) (n / 100 % 100) (n % 100)
whole n = omega arith

pub day_is : (number : ℤ) → IsTrue (is_day number) → IsDay number
day_is (pos n) is =
    let p = six 1 (n / 10000) 9999 1 (n / 100 % 100) 12 1 (n % 100) (days_of (n / 10000) (n / 100 % 100)) is in
    record {
      year = n / 10000;
      month = n / 100 % 100;
      day = n % 100;
      there = record { first_year = p.0.0; last_year = p.0.1; first_month = p.1.0.0; last_month = p.1.0.1; first_day = p.1.1.0; last_day = p.1.1.1 };
      packed_is = ap pos (whole n);
    }
day_is (negsuc n) is = absurd cc

years : (y m d : ℕ) → m ≤ 12 → d ≤ 31 → packed y m d / 10000 ≡ y
years y m d short few = omega arith

months : (y m d : ℕ) → m ≤ 12 → d ≤ 31 → packed y m d / 100 % 100 ≡ m
months y m d short few = omega arith

days : (y m d : ℕ) → m ≤ 12 → d ≤ 31 → packed y m d % 100 ≡ d
days y m d short few = omega arith

pub is_day_of : (number : ℤ) → IsDay number → IsTrue (is_day number)
is_day_of number is =
    let y = is.year in
    let m = is.month in
    let d = is.day in
    let there = is.there in
    let longest = month_short y m in
    let few : d ≤ 31 = omega (arith, there.last_day, longest) in
    let n = packed y m d in
    subst (λ (z : ℤ). IsTrue (is_day z)) (sym is.packed_is)
    (rw (years y m d there.last_month few, months y m d there.last_month few, days y m d there.last_month few)
    (all_six 1 y 9999 1 m 12 1 d (days_of y m) there.first_year there.last_year there.first_month there.last_month there.first_day there.last_day))
