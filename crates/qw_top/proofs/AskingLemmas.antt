-- How far files are asked for by one call, and by several one after another.
use Rattle.std.proofs.Common.{◌≡◌, ◌⊎◌, ◌∙◌, ℕ, suc, ◌+◌, ◌-◌, ◌≤◌, Bool, true, false, List, Option, Some, None, inl, inr, refl, sym, ap, subst, length, take, length-take, arith}
use Rattle.std.specs.Prelude.{◌<◌, max, if◌then◌else◌}
use Rattle.std.specs.Option.{option_map, option_map_or}
use Rattle.std.specs.Str.{bytes_eq}
use Rattle.std.proofs.lemmas.Bool.{cases_lt}
use Rattle.std.proofs.lemmas.Slice.Eq.{bytes_eq-Decides}
use Rattle.qw_io.specs.Files.{Watched, watched_after}
use Rattle.qw_top.specs.Asking.{AsksWithin, IsOne}
use Rattle.qw_top.specs.Call.{IsRunLimit, IsTableLimit, IsTextLimit}
use Rattle.qw_top.specs.FileNames.{file_of}
use Rattle.qw_top.specs.Limits.{most_table_octets, most_text_octets}
use Rattle.qw_top.specs.Top.{Names}

-- none
pub asks_none : (limited : List ℕ → ℕ → Type 0) (watched : Option Watched) → AsksWithin limited watched watched
asks_none limited None = refl
asks_none limited (Some w) = (w, refl, refl, inl (omega arith))

-- one, which is within a limit
abbrev further : Watched → ℕ → Watched
further w end = record { name = w.name; asked_to = max w.asked_to end }

further_within : (w : Watched) (name : List ℕ) (end limit : ℕ) → w.name ≡ name → end ≤ suc limit → AsksWithin (IsOne name limit) (Some w) (Some (further w end))
further_within w name end limit same within = (further w end, refl, refl, by_order (cases_lt w.asked_to end))
  where
    by_order : (w.asked_to < end) ⊎ (end ≤ w.asked_to) → (max w.asked_to end ≤ w.asked_to) ⊎ ((most : ℕ) × IsOne name limit w.name most × (max w.asked_to end ≤ suc most))
    by_order (inl long) = inr (limit, (same, refl), omega (arith, long, within))
    by_order (inr short) = inl (omega (arith, short))

pub one_ask : (name : List ℕ) (end limit : ℕ) (old new : Option Watched) → end ≤ suc limit → new ≡ option_map (watched_after name end) old → AsksWithin (IsOne name limit) old new
one_ask name end limit None new within is = is
one_ask name end limit (Some w) new within is = subst (λ (o : Option Watched). AsksWithin (IsOne name limit) (Some w) o) (sym is) (by_name (bytes_eq w.name name) refl)
  where
    by_name : (same : Bool) → bytes_eq w.name name ≡ same → AsksWithin (IsOne name limit) (Some w) (Some (if same then further w end else w))
    by_name true same = further_within w name end limit ((bytes_eq-Decides w.name name).0 same) within
    by_name false same = asks_none (IsOne name limit) (Some w)

-- those of two stages
module _ (limited : List ℕ → ℕ → Type 0) where
  behind : (before w : Watched) (new : Option Watched) → w.name ≡ before.name → (w.asked_to ≤ before.asked_to) ⊎ ((limit : ℕ) × limited before.name limit × (w.asked_to ≤ suc limit)) →
      AsksWithin limited (Some w) new → AsksWithin limited (Some before) new
  behind before w new same (inl first) (after, is, name, inl second) = (after, is, name ∙ same, inl (omega (arith, first, second)))
  behind before w new same (inr (limit, has, first)) (after, is, name, inl second) = (after, is, name ∙ same, inr (limit, has, omega (arith, first, second)))
  behind before w new same far (after, is, name, inr (limit, has, second)) = (after, is, name ∙ same, inr (limit, subst (λ (n : List ℕ). limited n limit) same has, second))

  pub asks_then : (old middle new : Option Watched) → AsksWithin limited old middle → AsksWithin limited middle new → AsksWithin limited old new
  asks_then None middle new first second = subst (λ (o : Option Watched). AsksWithin limited o new) first second
  asks_then (Some before) middle new (w, is, same, far) second = behind before w new same far (subst (λ (o : Option Watched). AsksWithin limited o new) is second)

-- within limits that others allow
pub asks_weaker : (P Q : List ℕ → ℕ → Type 0) (old new : Option Watched) → ((name : List ℕ) (limit : ℕ) → P name limit → Q name limit) → AsksWithin P old new → AsksWithin Q old new
asks_weaker P Q None new weaker is = is
asks_weaker P Q (Some before) new weaker (after, is, same, inl far) = (after, is, same, inl far)
asks_weaker P Q (Some before) new weaker (after, is, same, inr (limit, has, far)) = (after, is, same, inr (limit, weaker before.name limit has, far))

-- one more call behind others
pub asks_more : (name : List ℕ) (end limit : ℕ) (old middle new : Option Watched) → end ≤ suc limit → AsksWithin (IsOne name limit) old middle → new ≡ option_map (watched_after name end) middle →
    AsksWithin (IsOne name limit) old new
asks_more name end limit old middle new within before is = asks_then (IsOne name limit) old middle new before (one_ask name end limit middle new within is)

-- a piece of a file that has room for no more than the limit and one octet leave
pub room_fits : (at limit room : ℕ) (piece : List ℕ) → at ≤ limit → room ≤ limit - at + 1 → at + length (take room piece) ≤ suc limit
room_fits at limit room piece within fits = omega (arith, length-take room piece, within, fits)

-- no further than a limit and one octet
pub past_limit : (name : List ℕ) (limit from to : ℕ) → from < to → suc limit < to → AsksWithin (IsOne name limit) (Some (record { name = name; asked_to = from })) (Some (record { name = name; asked_to = to })) → ⊥
past_limit name limit from to more past (after, is, same, far) = by_reach far
  where
    there : to ≡ after.asked_to
    there = ap (λ (o : Option Watched). option_map_or (λ (w : Watched). w.asked_to) o to) is

    by_reach : (after.asked_to ≤ from) ⊎ ((most : ℕ) × IsOne name limit name most × (after.asked_to ≤ suc most)) → ⊥
    by_reach (inl short) = omega (arith, there, short, more)
    by_reach (inr (most, (one, is_limit), within)) = omega (arith, there, is_limit, within, past)

-- ---- the files of a command

-- a text's file, and then another's
pub text_asked : (schema queries name : List ℕ) (old new : Option Watched) → (name ≡ schema) ⊎ (name ≡ queries) → AsksWithin (IsOne name most_text_octets) old new → AsksWithin (IsTextLimit schema queries) old new
text_asked schema queries name old new which asked =
    asks_weaker (IsOne name most_text_octets) (IsTextLimit schema queries) old new (λ other limit is. (subst (λ (n : List ℕ). (n ≡ schema) ⊎ (n ≡ queries)) (sym is.0) which, is.1)) asked

pub texts_asked : (schema queries : List ℕ) (old middle new : Option Watched) → AsksWithin (IsOne schema most_text_octets) old middle → AsksWithin (IsOne queries most_text_octets) middle new →
    AsksWithin (IsTextLimit schema queries) old new
texts_asked schema queries old middle new first second =
    asks_then (IsTextLimit schema queries) old middle new (text_asked schema queries schema old middle (inl refl) first) (text_asked schema queries queries middle new (inr refl) second)

-- a file of a table
pub table_asked : (names : Names) (table : List ℕ) (part : ℕ) (old new : Option Watched) → AsksWithin (IsOne (file_of names.folder names.parts table part) most_table_octets) old new →
    AsksWithin (IsTableLimit names) old new
table_asked names table part old new asked =
    asks_weaker (IsOne (file_of names.folder names.parts table part) most_table_octets) (IsTableLimit names) old new (λ other limit is. ((table, part, is.0), is.1)) asked

module _ (names : Names) where
  text_of_run : (old new : Option Watched) → AsksWithin (IsTextLimit names.schema names.queries) old new → AsksWithin (IsRunLimit names) old new
  text_of_run old new asked = asks_weaker (IsTextLimit names.schema names.queries) (IsRunLimit names) old new (λ name limit is. inl is) asked

  pub schema_asked : (old new : Option Watched) → AsksWithin (IsOne names.schema most_text_octets) old new → AsksWithin (IsRunLimit names) old new
  schema_asked old new asked = text_of_run old new (text_asked names.schema names.queries names.schema old new (inl refl) asked)

  pub tables_asked : (old middle new : Option Watched) → AsksWithin (IsOne names.schema most_text_octets) old middle → AsksWithin (IsTableLimit names) middle new → AsksWithin (IsRunLimit names) old new
  tables_asked old middle new first second =
      asks_then (IsRunLimit names) old middle new (schema_asked old middle first) (asks_weaker (IsTableLimit names) (IsRunLimit names) middle new (λ name limit is. inr is) second)

  pub queries_asked : (old first second new : Option Watched) → AsksWithin (IsOne names.schema most_text_octets) old first → AsksWithin (IsTableLimit names) first second →
      AsksWithin (IsOne names.queries most_text_octets) second new → AsksWithin (IsRunLimit names) old new
  queries_asked old first second new one two three =
      asks_then (IsRunLimit names) old second new (tables_asked old first second one two) (text_of_run second new (text_asked names.schema names.queries names.queries second new (inr refl) three))
