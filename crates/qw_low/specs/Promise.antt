-- What a block of Low promises.
use Rattle.std.specs.Prelude.{◌≡◌, ℕ, suc, ◌≤◌, ◌⊎◌, Option, Some}
use Rattle.qw_low.specs.State.{Part, Value, Number, Address, LowState}
use Rattle.qw_low.specs.Meaning.{Outcome, Completed, Exited, Stopped, Wrong, Unfinished}

-- Within `most` instructions it is completed and `post` holds, or it ends the run and `exits` holds, or it raises a code of which
-- `raises` holds. It does not go wrong.
abbrev pub Ends : (most : ℕ) → (post exits : LowState → Type 0) → (raises : ℕ → Type 0) → Outcome → Type 0
Ends most post exits raises (Completed n s) = (n ≤ most) × post s
Ends most post exits raises (Exited n s) = (n ≤ most) × exits s
Ends most post exits raises (Stopped code n s) = (n ≤ most) × raises code
Ends most post exits raises Wrong = ⊥
Ends most post exits raises Unfinished = ⊥

-- a value that leads a choice to its first statement: a number above 0, or an address
abbrev pub IsSet : Option Value → Type 0
IsSet found = ((n : ℕ) × (found ≡ Some (Number (suc n)))) ⊎ ((p : Part) × (offset : ℕ) × (found ≡ Some (Address p offset)))
