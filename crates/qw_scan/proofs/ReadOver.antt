-- What was passed over was read.
use Rattle.std.proofs.Common.{◌≡◌, ℕ, List, Result, Ok, Err, ap}
use Rattle.qw_octet_grammar.specs.declared.fault.BinaryFault.{BinaryFault}
use Rattle.qw_octet_grammar.specs.declared.fault.BinaryFault.TheVariants.{NotModule, NoMemory, OutOfProfile}
use Rattle.qw_octet_grammar.specs.Reading.{Fails}
use Rattle.qw_octet_grammar.proofs.GrammarLaws.{ok_is}
use Rattle.qw_scan.specs.Read.{mapped, passed_over}

abbrev passed : List ℕ → Result (Unit {0} × List ℕ) BinaryFault
passed rest = Ok (tt, rest)

abbrev read_as : {A : Type 0} → A → List ℕ → Result (A × List ℕ) BinaryFault
read_as x rest = Ok (x, rest)

pub was_read : {A : Type 0} (r : Result (A × List ℕ) BinaryFault) (rest : List ℕ) → mapped passed_over r ≡ passed rest → (x : A) × (r ≡ read_as x rest)
was_read (Ok y) rest e = (y.0, ap (λ (bs : List ℕ). read_as y.0 bs) (ap (λ z. z.1) (ok_is (tt, y.1) (tt, rest) e)))
was_read (Err fault) rest e = absurd cc

pub was_stuck : {A : Type 0} (e : BinaryFault) (r : Result (A × List ℕ) BinaryFault) → Fails e (mapped passed_over r) → Fails e r
was_stuck NoMemory r h = tt
was_stuck NotModule (Ok y) h = absurd cc
was_stuck NotModule (Err fault) h = cc
was_stuck (OutOfProfile what) (Ok y) h = absurd cc
was_stuck (OutOfProfile what) (Err fault) h = cc
