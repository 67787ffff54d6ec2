-- A date with its intervals is a day of the years 1 to 9999.
use Rattle.std.proofs.Common.{◌≡◌, ℕ, ◌≤◌, ◌&&◌, true, false, nat_le, pos, List, [], ◌∷◌, Option, Some, None, IfSome, refl, arith, inl, inr, option_map, is_none, unwrap_or}
use Rattle.std.specs.Option.{option_and_then}
use Rattle.std.proofs.lemmas.Bool.{and_parts, cases_Bool}
use Rattle.std.proofs.lemmas.Bool.Decides.{nat_tests}
use Rattle.qw_types.specs.Calendar.{days_of, packed}
use Rattle.qw_types.specs.Value.{IsDay}
use Rattle.qw_ast.specs.declared.script.Sign.{Sign}
use Rattle.qw_ast.specs.declared.script.Sign.TheVariants.{Plus, Minus}
use Rattle.qw_ast.specs.Syntax.{Days}
use Rattle.qw_scalar.specs.Expression as meaning
use Rattle.qw_scalar.specs.Typing.{IsTyped}
use Rattle.qw_typer.specs.Days.{Day, earlier, later, moved}
use Rattle.qw_ast.specs.Quoted.{string_value}
use Rattle.qw_typer.specs.Literal.{after_intervals, date_at, date_of, day_shown, interval_days, is_date_form, is_day, shown}
use Rattle.qw_typer.proofs.DayLemmas.{EarlierIs, IsValid, LaterIs, earlier_is, later_is}

pub at_most : (a b : ℕ) → nat_le a b ≡ true → a ≤ b
at_most a b h = grind (arith, nat_tests)

pub day_valid : (d : Day) → is_day d ≡ true → IsValid d
day_valid d h =
    let a = and_parts (nat_le 1 d.year) _ h in
    let b = and_parts (nat_le d.year 9999) _ a.1 in
    let c = and_parts (nat_le 1 d.month) _ b.1 in
    let e = and_parts (nat_le d.month 12) _ c.1 in
    let f = and_parts (nat_le 1 d.day) _ e.1 in
    record {
      first_year = at_most 1 d.year a.0;
      last_year = at_most d.year 9999 b.0;
      first_month = at_most 1 d.month c.0;
      last_month = at_most d.month 12 e.0;
      first_day = at_most 1 d.day f.0;
      last_day = at_most d.day (days_of d.year d.month) f.1;
    }

later_valid : (n : ℕ) (d : Day) (o : Option Day) → LaterIs n d o → IfSome o IsValid
later_valid n d None h = tt
later_valid n d (Some e) h = h.0

earlier_valid : (n : ℕ) (d : Day) (o : Option Day) → EarlierIs n d o → IfSome o IsValid
earlier_valid n d None h = tt
earlier_valid n d (Some e) h = h.0

pub moved_valid : (sign : Sign) (n : ℕ) (d : Day) → IsValid d → IfSome (moved sign n d) IsValid
moved_valid Plus n d v = later_valid n d (later n d) (later_is n d v)
moved_valid Minus n d v = earlier_valid n d (earlier n d) (earlier_is n d v)

then_valid : (o : Option Day) (f : Day → Option Day) → IfSome o IsValid → ((e : Day) → IsValid e → IfSome (f e) IsValid) → IfSome (option_and_then f o) IsValid
then_valid None f h each = tt
then_valid (Some d) f h each = each d h

counted_valid : (o : Option ℕ) (sign : Sign) (d : Day) → IsValid d → IfSome (option_and_then (λ n. moved sign n d) o) IsValid
counted_valid None sign d v = tt
counted_valid (Some n) sign d v = moved_valid sign n d v

pub after_valid : (is : List Days) (d : Day) → IsValid d → IfSome (after_intervals is d) IsValid
after_valid [] d v = v
after_valid (i ∷ others) d v =
    then_valid (option_and_then (λ n. moved i.sign n d) (interval_days (string_value i.string))) (after_intervals others) (counted_valid (interval_days (string_value i.string)) i.sign d v) (λ e ve. after_valid others e ve)

pub shown_valid : (text : List ℕ) → IfSome (day_shown text) IsValid
shown_valid text = elim (cases_Bool (is_date_form text && is_day (shown text))) [
  | inl e ↦ rw e (day_valid (shown text) (and_parts (is_date_form text) (is_day (shown text)) e).1)
  | inr e ↦ rw e tt
]

valid_date : (d : Day) → IsValid d → IsDay (pos (packed d.year d.month d.day))
valid_date d v = record {
  year = d.year;
  month = d.month;
  day = d.day;
  there = record {
    first_year = v.first_year;
    last_year = v.last_year;
    first_month = v.first_month;
    last_month = v.last_month;
    first_day = v.first_day;
    last_day = v.last_day;
  };
  packed_is = refl;
}

found_date : (o : Option Day) → IfSome o IsValid → is_none (option_map date_at o) ≡ false → IsTyped (unwrap_or (option_map date_at o) meaning.null)
found_date None h some = tt
found_date (Some d) h some = valid_date d h

pub date_typed : (string : List ℕ) (intervals : List Days) → is_none (date_of string intervals) ≡ false → IsTyped (unwrap_or (date_of string intervals) meaning.null)
date_typed string intervals some =
    found_date (option_and_then (after_intervals intervals) (day_shown (string_value string)))
    (then_valid (day_shown (string_value string)) (after_intervals intervals) (shown_valid (string_value string)) (λ e v. after_valid intervals e v)) some
