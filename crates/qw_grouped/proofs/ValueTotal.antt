-- The order of values is total, so the lesser and the greater of several are the same however they are found.
use Rattle.std.proofs.Common.{◌≡◌, ◌∙◌, ℕ, ℤ, pos, Bool, true, false, List, [], if◌then◌else◌, refl, sym, ap}
use Rattle.std.proofs.lemmas.Cmp.{back_total, upto, on_total, then_total, nat_cmp_total, int_cmp_total, nat_list_cmp_total}
use Rattle.std.specs.Cmp.{IsTotalOrder}
use Rattle.std.specs.Ordering.{int_cmp, is_ge, flip_args, is_gt, is_le, nat_cmp, on, ordering_reverse, ordering_then, then_cmp}
use Rattle.std.specs.Cmp.Lexicographic.{slice_cmp}
use Rattle.std.specs.declared.cmp.Ordering.{Ordering}
use Rattle.std.specs.declared.cmp.Ordering.TheVariants.{Less, Equal, Greater}
use Rattle.qw_types.specs.ValueOrder.{value_order}
use Rattle.qw_types.specs.declared.value.Val.{Val}
use Rattle.qw_types.specs.declared.value.Val.TheVariants.{Null, Num, Date, Text}
use Rattle.qw_types.proofs.TextOrderLemmas.{as_slices}
use Rattle.qw_types.proofs.ValueOrderLemmas.{only_same}
use Rattle.qw_grouped.specs.SetFunctions.{greater, lesser}

abbrev rank : Val → ℕ
rank Null = 0
rank (Num v) = 1
rank (Date d) = 2
rank (Text t) = 3

abbrev whole : Val → ℤ
whole Null = pos 0
whole (Num v) = v
whole (Date d) = d
whole (Text t) = pos 0

abbrev octets : Val → List ℕ
octets Null = []
octets (Num v) = []
octets (Date d) = []
octets (Text t) = t

abbrev by_parts : Val → Val → Ordering
by_parts = then_cmp (on rank nat_cmp) (then_cmp (on whole int_cmp) (on octets (slice_cmp nat_cmp)))

then_equal : (r : Ordering) → r ≡ ordering_then r Equal
then_equal Less = refl
then_equal Equal = refl
then_equal Greater = refl

is_by_parts : (a b : Val) → value_order a b ≡ by_parts a b
is_by_parts Null Null = refl
is_by_parts Null (Num b) = refl
is_by_parts Null (Date b) = refl
is_by_parts Null (Text b) = refl
is_by_parts (Num a) Null = refl
is_by_parts (Num a) (Num b) = then_equal (int_cmp a b)
is_by_parts (Num a) (Date b) = refl
is_by_parts (Num a) (Text b) = refl
is_by_parts (Date a) Null = refl
is_by_parts (Date a) (Num b) = refl
is_by_parts (Date a) (Date b) = then_equal (int_cmp a b)
is_by_parts (Date a) (Text b) = refl
is_by_parts (Text a) Null = refl
is_by_parts (Text a) (Num b) = refl
is_by_parts (Text a) (Date b) = refl
is_by_parts (Text a) (Text b) = as_slices a b

parts_total : IsTotalOrder by_parts
parts_total = then_total (on_total rank nat_cmp_total) (then_total (on_total whole int_cmp_total) (on_total octets nat_list_cmp_total))

pub value_total : IsTotalOrder value_order
value_total = record {
  antisymm = λ a b. is_by_parts a b ∙ parts_total.antisymm a b ∙ ap ordering_reverse (sym (is_by_parts b a));
  trans = λ a b c h g. is_by_parts a c ∙ parts_total.trans a b c (sym (is_by_parts a b) ∙ h) (sym (is_by_parts b c) ∙ g);
  congr = λ a b c h. is_by_parts a c ∙ parts_total.congr a b c (sym (is_by_parts a b) ∙ h) ∙ sym (is_by_parts b c);
}

-- ---- the lesser of two, by any total order in which only the same is equal

module _ (R : Val → Val → Ordering) (total : IsTotalOrder R) (only : (a b : Val) → R a b ≡ Equal → a ≡ b) where
  abbrev low : Val → Val → Val
  low v w = if is_le (R v w) then v else w

  low_first : (a b : Val) (r : Ordering) → R a b ≡ r → is_gt r ≡ false → low a b ≡ a
  low_first a b Less e h = rw e refl
  low_first a b Equal e h = rw e refl
  low_first a b Greater e h = absurd cc

  low_second : (a b : Val) (r : Ordering) → R a b ≡ r → is_gt r ≡ true → low a b ≡ b
  low_second a b Less e h = absurd cc
  low_second a b Equal e h = absurd cc
  low_second a b Greater e h = rw e refl

  turn : (a b : Val) (r : Ordering) → R a b ≡ r → R b a ≡ ordering_reverse r
  turn a b r e = total.antisymm b a ∙ ap ordering_reverse e

  either_by : (a b : Val) (r : Ordering) → R a b ≡ r → low a b ≡ low b a
  either_by a b Less e = low_first a b Less e refl ∙ sym (low_second b a Greater (turn a b Less e) refl)
  either_by a b Equal e = low_first a b Equal e refl ∙ only a b e ∙ sym (low_first b a Equal (turn a b Equal e) refl)
  either_by a b Greater e = low_second a b Greater e refl ∙ sym (low_first b a Less (turn a b Greater e) refl)

  pub low_either : (a b : Val) → low a b ≡ low b a
  low_either a b = either_by a b (R a b) refl

  is_greater : (r : Ordering) → is_gt r ≡ true → r ≡ Greater
  is_greater Less h = absurd cc
  is_greater Equal h = absurd cc
  is_greater Greater h = refl

  past : (a b c : Val) → is_gt (R a b) ≡ true → is_gt (R b c) ≡ true → is_gt (R a c) ≡ true
  past a b c h g =
      let below : R c a ≡ Less = total.trans c b a (turn b c Greater (is_greater (R b c) g)) (turn a b Greater (is_greater (R a b) h)) in
      ap is_gt (turn c a Less below)

  any_by : (a b c : Val) (p q : Bool) → is_gt (R a b) ≡ p → is_gt (R b c) ≡ q → low (low a b) c ≡ low a (low b c)
  any_by a b c false false h g =
      ap (λ v. low v c) (low_first a b (R a b) refl h) ∙ low_first a c (R a c) refl (upto total a b c h g)
      ∙ sym (low_first a b (R a b) refl h) ∙ ap (low a) (sym (low_first b c (R b c) refl g))
  any_by a b c false true h g = ap (λ v. low v c) (low_first a b (R a b) refl h) ∙ ap (low a) (sym (low_second b c (R b c) refl g))
  any_by a b c true false h g =
      ap (λ v. low v c) (low_second a b (R a b) refl h) ∙ low_first b c (R b c) refl g
      ∙ sym (low_second a b (R a b) refl h) ∙ ap (low a) (sym (low_first b c (R b c) refl g))
  any_by a b c true true h g =
      ap (λ v. low v c) (low_second a b (R a b) refl h) ∙ low_second b c (R b c) refl g
      ∙ sym (low_second a c (R a c) refl (past a b c h g)) ∙ ap (low a) (sym (low_second b c (R b c) refl g))

  pub low_any : (a b c : Val) → low (low a b) c ≡ low a (low b c)
  low_any a b c = any_by a b c (is_gt (R a b)) (is_gt (R b c)) refl refl

pub lesser_either : (a b : Val) → lesser a b ≡ lesser b a
lesser_either = low_either value_order value_total only_same

pub lesser_any : (a b c : Val) → lesser (lesser a b) c ≡ lesser a (lesser b c)
lesser_any = low_any value_order value_total only_same

-- the greater is the lesser of the order turned round
turned_total : IsTotalOrder (flip_args value_order)
turned_total = back_total value_total

turned_same : (a b : Val) → flip_args value_order a b ≡ Equal → a ≡ b
turned_same a b h = sym (only_same b a h)

is_turned : (a b : Val) (r s : Ordering) → s ≡ ordering_reverse r → (if is_ge r then a else b) ≡ (if is_le s then a else b)
is_turned a b Less s e = rw e refl
is_turned a b Equal s e = rw e refl
is_turned a b Greater s e = rw e refl

greater_low : (a b : Val) → greater a b ≡ low (flip_args value_order) turned_total turned_same a b
greater_low a b = is_turned a b (value_order a b) (value_order b a) (value_total.antisymm b a)

pub greater_either : (a b : Val) → greater a b ≡ greater b a
greater_either a b = greater_low a b ∙ low_either (flip_args value_order) turned_total turned_same a b ∙ sym (greater_low b a)

pub greater_any : (a b c : Val) → greater (greater a b) c ≡ greater a (greater b c)
greater_any a b c =
    ap (λ v. greater v c) (greater_low a b) ∙ greater_low (low (flip_args value_order) turned_total turned_same a b) c
    ∙ low_any (flip_args value_order) turned_total turned_same a b c
    ∙ sym (greater_low a (low (flip_args value_order) turned_total turned_same b c)) ∙ ap (greater a) (sym (greater_low b c))
