-- Mirrors `Walk::step` and what it calls: an answer to what octets say next.
use Rattle.std.specs.Prelude.{◌≡◌, ℕ, List, Option, Some, None, Result, Ok, Err}
use Rattle.std.specs.Option.{option_map}
use Rattle.qw_octet_grammar.specs.declared.fault.BinaryFault.{BinaryFault}
use Rattle.qw_valid.specs.declared.operands.Refusal.{Refusal}
use Rattle.qw_valid.specs.declared.operands.Refusal.TheVariants.{IllTyped, NoMemory}

-- The answer tells whether there is such a value of what reading gives, and which, with what follows. It says nothing where reading gives
-- nothing.
abbrev pub Steps : {A B X : Type 0} → (A → Option B) → (X → B × List ℕ) → Result X Refusal → Result (A × List ℕ) BinaryFault → Type 0
Steps step view (Ok x) (Ok found) = option_map (λ b. (b, found.1)) (step found.0) ≡ Some (view x)
Steps step view (Err IllTyped) (Ok found) = step found.0 ≡ None
Steps step view (Err NoMemory) (Ok found) = Unit {0}
Steps step view result (Err fault) = Unit {0}
