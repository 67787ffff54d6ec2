-- What holds of each element of a list holds of one of them.
use Rattle.std.proofs.Common.{◌≡◌, ℕ, zero, suc, List, [], ◌∷◌, Some, subst, arith}
use Rattle.std.specs.Prelude.{Contains, slice_get}
use Rattle.std.specs.List.{AllByRecursion}
use Rattle.std.proofs.lemmas.Option.{none-some}

-- of the one at a place
pub all_at : {A : Type 0} (P : A → Type 0) (xs : List A) (i : ℕ) (x : A) → AllByRecursion P xs → slice_get xs i ≡ Some x → P x
all_at P [] i x all found = absurd (none-some x found)
all_at P (y ∷ xs) zero x all found = let same : y ≡ x = cc in subst P same all.0
all_at P (y ∷ xs) (suc i) x all found = all_at P xs i x all.1 found

-- of one among them
pub all_contains : {A : Type 0} (P : A → Type 0) (xs : List A) (x : A) → AllByRecursion P xs → Contains xs x → P x
all_contains P [] x all among = absurd (omega (arith, among.1))
all_contains P (y ∷ xs) x all (zero, within, is) = subst P is all.0
all_contains P (y ∷ xs) x all (suc k, within, is) = all_contains P xs x all.1 (k, omega (arith, within), is)
