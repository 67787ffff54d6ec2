-- Columns that are read in parts: how many at a stage, and where the locals of a part are.
use Rattle.std.proofs.Common.{◌≡◌, ℕ, zero, suc, List, [], ◌∷◌, length, take, refl, ap}
use Rattle.qw_operator.specs.Emitted.{last_end}

-- ---- how many are read at a stage, which is the number of conjuncts that are decided
abbrev pub read_at : (done : ℕ) → (ends : List ℕ) → (all stage : ℕ) → ℕ
read_at done ends all zero = done
read_at done [] all (suc k) = all
read_at done (e ∷ ends) all (suc k) = read_at e ends all k

pub read_last : (done : ℕ) (ends : List ℕ) (all : ℕ) → read_at done ends all (length ends) ≡ last_end done ends
read_last done [] all = refl
read_last done (e ∷ ends) all = read_last e ends all

-- ---- lists
pub take_all : {X : Type 0} (xs : List X) → take (length xs) xs ≡ xs
take_all [] = refl
take_all (x ∷ xs) = ap (λ (l : _). x ∷ l) (take_all xs)

pub take_none : {X : Type 0} (n : ℕ) → take {A = X} n [] ≡ []
take_none zero = refl
take_none (suc n) = refl
