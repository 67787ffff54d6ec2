-- The order of values and that of rows by keys are total orders.
use Rattle.std.proofs.Common.{◌≡◌, Bool, true, false, ℕ, ℤ, pos, List, [], ◌∷◌, refl, sym, ap, subst}
use Rattle.std.proofs.lemmas.Cmp.{int_cmp_total, back_total, on_total, then_total}
use Rattle.std.proofs.lemmas.List.MinMax.{ranks_by}
use Rattle.std.specs.Cmp.{IsStrictWeakOrder, IsTotalOrder, nat_cmp_total}
use Rattle.std.specs.Cmp.Lexicographic.{nat_list_cmp_total, slice_cmp}
use Rattle.std.specs.Ordering.{flip_args, int_cmp, is_lt, nat_cmp, on, ordering_then, then_cmp}
use Rattle.std.specs.declared.cmp.Ordering.{Ordering}
use Rattle.std.specs.declared.cmp.Ordering.TheVariants.{Less, Equal, Greater}
use Rattle.qw_types.specs.TextOrder.{text_order}
use Rattle.qw_types.specs.ValueOrder.{value_order}
use Rattle.qw_types.specs.declared.value.Val.{Val}
use Rattle.qw_types.specs.declared.value.Val.TheVariants.{Null, Num, Date, Text}
use Rattle.qw_order.specs.Order.{directed, key_order, key_value}
use Rattle.qw_order.specs.declared.sort_key.SortKey.{SortKey}

-- the same order under another name
moved : {K : Type 0} (R S : K → K → Ordering) → IsTotalOrder R → ((a b : K) → S a b ≡ R a b) → IsTotalOrder S
moved R S total same = subst IsTotalOrder (λ i a b. sym (same a b) i) total

-- a value by its kind, its number and its text
abbrev kind_number : Val → ℕ
kind_number Null = 0
kind_number (Num n) = 1
kind_number (Date d) = 2
kind_number (Text t) = 3

abbrev number_of : Val → ℤ
number_of Null = pos 0
number_of (Num n) = n
number_of (Date d) = d
number_of (Text t) = pos 0

abbrev text_of : Val → List ℕ
text_of Null = []
text_of (Num n) = []
text_of (Date d) = []
text_of (Text t) = t

abbrev by_parts : Val → Val → Ordering
by_parts = then_cmp (on kind_number nat_cmp) (then_cmp (on number_of int_cmp) (on text_of (slice_cmp nat_cmp)))

then_equal : (r : Ordering) → ordering_then r Equal ≡ r
then_equal Less = refl
then_equal Equal = refl
then_equal Greater = refl

as_slices : (left right : List ℕ) → text_order left right ≡ slice_cmp nat_cmp left right
as_slices [] [] = refl
as_slices [] (b ∷ others) = refl
as_slices (a ∷ rest) [] = refl
as_slices (a ∷ rest) (b ∷ others) = ap (ordering_then (nat_cmp a b)) (as_slices rest others)

as_parts : (a b : Val) → value_order a b ≡ by_parts a b
as_parts Null Null = refl
as_parts Null (Num b) = refl
as_parts Null (Date b) = refl
as_parts Null (Text b) = refl
as_parts (Num a) Null = refl
as_parts (Num a) (Num b) = sym (then_equal (int_cmp a b))
as_parts (Num a) (Date b) = refl
as_parts (Num a) (Text b) = refl
as_parts (Date a) Null = refl
as_parts (Date a) (Num b) = refl
as_parts (Date a) (Date b) = sym (then_equal (int_cmp a b))
as_parts (Date a) (Text b) = refl
as_parts (Text a) Null = refl
as_parts (Text a) (Num b) = refl
as_parts (Text a) (Date b) = refl
as_parts (Text a) (Text b) = as_slices a b

pub value_order_total : IsTotalOrder value_order
value_order_total =
    moved by_parts value_order (then_total (on_total kind_number nat_cmp_total) (then_total (on_total number_of int_cmp_total) (on_total text_of nat_list_cmp_total))) as_parts

directed_total : (is_descending : Bool) → IsTotalOrder (λ a b. directed is_descending (value_order a b))
directed_total false = value_order_total
directed_total true = moved (flip_args value_order) (λ a b. directed true (value_order a b)) (back_total value_order_total) (λ a b. sym (value_order_total.antisymm b a))

pub key_order_total : (keys : List SortKey) → IsTotalOrder (key_order keys)
key_order_total [] = record { antisymm = λ a b. refl; trans = λ a b c h k. h; congr = λ a b c h. refl }
key_order_total (key ∷ keys) = then_total (on_total (key_value key) (directed_total key.is_descending)) (key_order_total keys)

pub key_order_ranks : (keys : List SortKey) → IsStrictWeakOrder (λ row other. is_lt (key_order keys row other))
key_order_ranks keys = ranks_by (key_order_total keys) (λ row. row)
