-- A value of a column is that of its row; and what lies behind the words of the result in the first page.
use Rattle.std.proofs.Common.{◌≡◌, ℕ, zero, suc, ◌+◌, ◌≤◌, nat_le, ◌&&◌, true, Some, List, [], ◌∷◌, slice_get, ap, ◌∙◌, arith, All}
use Rattle.std.specs.List.{AllByRecursion}
use Rattle.std.proofs.lemmas.Bool.{and_from, and_parts, le-leb, leb-true}
use Rattle.std.proofs.lemmas.Option.{same_Some, get_or_from_slice_get}
use Rattle.qw_types.specs.declared.value.Val.{Val}
use Rattle.qw_map.specs.Columns.{column_values}
use Rattle.qw_types.specs.declared.value.Val.TheVariants as val

-- behind the words of the result, and below where free space begins
pub inside_of : (base a b : ℕ) → (nat_le 24 a && nat_le (a + b) base) ≡ true → (24 ≤ a) × (a + b ≤ base)
inside_of base a b tested = let tests = and_parts (nat_le 24 a) (nat_le (a + b) base) tested in (leb-true 24 a tests.0, leb-true (a + b) base tests.1)

pub inside_from : (base a b : ℕ) → 24 ≤ a → a + b ≤ base → (nat_le 24 a && nat_le (a + b) base) ≡ true
inside_from base a b low high = and_from (nat_le 24 a) (nat_le (a + b) base) (le-leb 24 a low) (le-leb (a + b) base high)

pub column_at : (rows : List (List Val)) (i c : ℕ) (row : List Val) (v : Val) → slice_get rows i ≡ Some row → slice_get row c ≡ Some v → slice_get (column_values rows c) i ≡ Some v
column_at [] i c row v there held = absurd cc
column_at (r ∷ rows) zero c row v there held = ap Some (get_or_from_slice_get r c v val.Null (ap (λ (x : List Val). slice_get x c) (same_Some r row there) ∙ held))
column_at (r ∷ rows) (suc i) c row v there held = column_at rows i c row v there held

-- what holds of each, by recursion and by index
pub all_index : {X : Type 0} (P : X → Type 0) (xs : List X) → AllByRecursion P xs → All P xs
all_index P [] all k d less = absurd (omega arith)
all_index P (x ∷ xs) all zero d less = all.0
all_index P (x ∷ xs) all (suc k) d less = all_index P xs all.1 k d (omega (arith, less))
