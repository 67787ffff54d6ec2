-- Rows compared value by value.
use Rattle.std.proofs.Common.{◌≡◌, ◌≤◌, [], ◌∷◌, true, false, length, List, refl, arith}
use Rattle.std.specs.Ordering.{is_eq, ordering_then}
use Rattle.std.specs.declared.cmp.Ordering.{Ordering}
use Rattle.std.specs.declared.cmp.Ordering.TheVariants.{Less, Equal, Greater}
use Rattle.qw_types.specs.ValueOrder.{is_same_row, row_order, value_order}
use Rattle.qw_types.specs.declared.value.Val.{Val}

then_equal : (r s : Ordering) → is_eq r ≡ true → is_eq (ordering_then r s) ≡ is_eq s
then_equal Less s h = absurd cc
then_equal Equal s h = refl
then_equal Greater s h = absurd cc

then_other : (r s : Ordering) → is_eq r ≡ false → is_eq (ordering_then r s) ≡ false
then_other Less s h = refl
then_other Equal s h = absurd cc
then_other Greater s h = refl

pub first_same : (v w : Val) (row others : List Val) → is_eq (value_order v w) ≡ true → is_same_row (v ∷ row) (w ∷ others) ≡ is_same_row row others
first_same v w row others h = then_equal (value_order v w) (row_order row others) h

pub first_differs : (v w : Val) (row others : List Val) → is_eq (value_order v w) ≡ false → is_same_row (v ∷ row) (w ∷ others) ≡ false
first_differs v w row others h = then_other (value_order v w) (row_order row others) h

pub shorter : (row others : List Val) → 1 ≤ length row → length others ≡ 0 → is_same_row row others ≡ false
shorter [] others h g = absurd (omega (arith, h))
shorter (v ∷ row) [] h g = refl
shorter (v ∷ row) (w ∷ others) h g = absurd (omega (arith, g))
