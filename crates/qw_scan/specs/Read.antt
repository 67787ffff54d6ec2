-- What was read, seen by less than all of it.
use Rattle.std.specs.Prelude.{◌≡◌, ℕ, List, Result, Ok, Err}
use Rattle.qw_octet_grammar.specs.declared.fault.BinaryFault.{BinaryFault}

-- the value by a view of it, and what follows; or the first construct that no rule allows
abbrev pub mapped : {A B : Type 0} → (A → B) → Result (A × List ℕ) BinaryFault → Result (B × List ℕ) BinaryFault
mapped f (Ok x) = Ok (f x.0, x.1)
mapped f (Err fault) = Err fault

-- nothing but what follows
abbrev pub passed_over : {A : Type 0} → A → Unit {0}
passed_over x = tt

-- this value was read, whatever follows
abbrev pub HasRead : {A : Type 0} → A → Result (A × List ℕ) BinaryFault → Type 0
HasRead x found = (rest : List ℕ) × (found ≡ Ok (x, rest))
