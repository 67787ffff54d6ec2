-- Mirrors `memories.rt`, `globals.rt` and `exports.rt`: what a test of what octets say answers. It says nothing where reading gives nothing.
use Rattle.std.specs.Borrow.{Bor}
use Rattle.std.specs.Prelude.{◌≡◌, ℕ, ◌↔◌, List, All, IsTrue, Bool, Option, Some, None, Result, Ok, Err}
use Rattle.qw_octet_grammar.specs.declared.fault.BinaryFault.{BinaryFault}
use Rattle.qw_valid.specs.declared.operands.Refusal.{Refusal}
use Rattle.qw_valid.specs.declared.operands.Refusal.TheVariants.{IllTyped, NoMemory}

-- one thing is so, and what follows it; or it isn't
abbrev pub Tells : {A : Type 0} → (A → Type 0) → Result (Bor (List ℕ)) Refusal → Result (A × List ℕ) BinaryFault → Type 0
Tells IsSo (Ok rest) (Ok found) = IsSo found.0 × (rest.now ≡ found.1)
Tells IsSo (Err IllTyped) (Ok found) = ¬ IsSo found.0
Tells IsSo (Err NoMemory) (Ok found) = Unit {0}
Tells IsSo result (Err fault) = Unit {0}

-- whether all are so, or want of memory
abbrev pub TellsAll : {A : Type 0} → (A → Type 0) → Option Bool → Result (List A × List ℕ) BinaryFault → Type 0
TellsAll IsSo (Some are) (Ok found) = IsTrue are ↔ All IsSo found.0
TellsAll IsSo None (Ok found) = Unit {0}
TellsAll IsSo result (Err fault) = Unit {0}
