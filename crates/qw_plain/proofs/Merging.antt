-- Rows put together.
use Rattle.std.proofs.Common.{◌≡◌, List, [], ◌∷◌, length, refl, arith}
use Rattle.qw_types.specs.declared.value.Val.{Val}
use Rattle.qw_meaning.specs.From.{merged}

pub merged_nothing : (row others : List Val) → length others ≡ 0 → merged row others ≡ row
merged_nothing [] [] none = refl
merged_nothing [] (w ∷ others) none = absurd (omega (arith, none))
merged_nothing (v ∷ row) [] none = refl
merged_nothing (v ∷ row) (w ∷ others) none = absurd (omega (arith, none))
