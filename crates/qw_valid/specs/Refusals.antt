-- What a test or a computation answers where there may be no memory left: that there is such a value or that there is none.
use Rattle.std.specs.Prelude.{◌≡◌, Bool, true, false, Option, Some, None, Result, Ok, Err}
use Rattle.qw_valid.specs.declared.operands.Refusal.{Refusal}
use Rattle.qw_valid.specs.declared.operands.Refusal.TheVariants.{IllTyped, NoMemory}

-- the answer tells whether there is such a value, and which
abbrev pub Finds : {A B : Type 0} → Result A Refusal → Option B → (A → B) → Type 0
Finds (Ok value) found view = found ≡ Some (view value)
Finds (Err IllTyped) found view = found ≡ None
Finds (Err NoMemory) found view = Unit {0}

-- the answer tells whether the test holds
abbrev pub Decides : {A : Type 0} → Result A Refusal → Bool → Type 0
Decides (Ok value) test = test ≡ true
Decides (Err IllTyped) test = test ≡ false
Decides (Err NoMemory) test = Unit {0}
