-- Laws of the order of values and of rows.
use Rattle.std.proofs.Common.{◌≡◌, ◌<ℤ◌, ℤ, true, List, [], ◌∷◌, refl, ap}
use Rattle.std.proofs.lemmas.Cmp.{int_cmp_total}
use Rattle.std.specs.Cmp.{int_ranks}
use Rattle.std.specs.Ordering.{MatchOrdering, int_cmp, is_eq, ordering_reverse, ordering_then}
use Rattle.std.specs.declared.cmp.Ordering.{Ordering}
use Rattle.std.specs.declared.cmp.Ordering.TheVariants.{Less, Equal, Greater}
use Rattle.qw_types.specs.ValueOrder.{is_same_row, row_order, value_order}
use Rattle.qw_types.specs.declared.value.Val.{Val}
use Rattle.qw_types.specs.declared.value.Val.TheVariants.{Null, Num, Date, Text}
use Rattle.qw_types.proofs.TextOrderLemmas as text

pub turned : (a b : Val) → value_order b a ≡ ordering_reverse (value_order a b)
turned Null Null = refl
turned Null (Num b) = refl
turned Null (Date b) = refl
turned Null (Text b) = refl
turned (Num a) Null = refl
turned (Num a) (Num b) = int_cmp_total.antisymm b a
turned (Num a) (Date b) = refl
turned (Num a) (Text b) = refl
turned (Date a) Null = refl
turned (Date a) (Num b) = refl
turned (Date a) (Date b) = int_cmp_total.antisymm b a
turned (Date a) (Text b) = refl
turned (Text a) Null = refl
turned (Text a) (Num b) = refl
turned (Text a) (Date b) = refl
turned (Text a) (Text b) = text.turned a b

number_equal : (a b : ℤ) (r : Ordering) → r ≡ Equal → MatchOrdering r (a <ℤ b) (a ≡ b) (b <ℤ a) → a ≡ b
number_equal a b Less h m = absurd cc
number_equal a b Equal h m = m
number_equal a b Greater h m = absurd cc

same_number : (a b : ℤ) → int_cmp a b ≡ Equal → a ≡ b
same_number a b h = number_equal a b (int_cmp a b) h (int_ranks a b)

pub only_same : (a b : Val) → value_order a b ≡ Equal → a ≡ b
only_same Null Null h = refl
only_same Null (Num b) h = absurd cc
only_same Null (Date b) h = absurd cc
only_same Null (Text b) h = absurd cc
only_same (Num a) Null h = absurd cc
only_same (Num a) (Num b) h = ap Num (same_number a b h)
only_same (Num a) (Date b) h = absurd cc
only_same (Num a) (Text b) h = absurd cc
only_same (Date a) Null h = absurd cc
only_same (Date a) (Num b) h = absurd cc
only_same (Date a) (Date b) h = ap Date (same_number a b h)
only_same (Date a) (Text b) h = absurd cc
only_same (Text a) Null h = absurd cc
only_same (Text a) (Num b) h = absurd cc
only_same (Text a) (Date b) h = absurd cc
only_same (Text a) (Text b) h = ap Text (text.only_same a b h)

pub same : (a : Val) → value_order a a ≡ Equal
same a = text.self_equal (value_order a a) (turned a a)

first_equal : (r s : Ordering) → is_eq (ordering_then r s) ≡ true → (r ≡ Equal) × (is_eq s ≡ true)
first_equal Less s h = absurd cc
first_equal Equal s h = (refl, h)
first_equal Greater s h = absurd cc

pub rows : (row other : List Val) → is_same_row row other ≡ true → row ≡ other
rows [] [] h = refl
rows [] (b ∷ others) h = absurd cc
rows (a ∷ rest) [] h = absurd cc
rows (a ∷ rest) (b ∷ others) h =
    let parts = first_equal (value_order a b) (row_order rest others) h in
    rw (only_same a b parts.0, rows rest others parts.1) refl

pub same_row : (row : List Val) → is_same_row row row ≡ true
same_row [] = refl
same_row (a ∷ rest) = rw (same a) (same_row rest)
