-- Loads and stores: where they lie in the memory, and what a store keeps.
use Rattle.std.proofs.Common.{◌≡◌, ℕ, ◌+◌, ◌<◌, ◌≤◌, List, length, Some, ⊎_elim, refl}
use Rattle.std.proofs.lemmas.Bool.{cases_lt, le-leb, lt-leb}
use Rattle.qw_linear.proofs.MemoryFacts.{AreOctets-with_number, length-with_number}
use Rattle.qw_linear.specs.Memory.{number_at, with_number, loaded, stored, AreOctets}

-- a load whose octets lie in the memory
pub loaded-inside : (octets : List ℕ) (at width : ℕ) → at + width ≤ length octets → loaded octets at width ≡ Some (number_at octets at width)
loaded-inside octets at width room = rw (le-leb (at + width) (length octets) room) refl

-- a store whose octets lie in the memory
pub stored-inside : (octets : List ℕ) (at width number : ℕ) → at + width ≤ length octets → stored octets at width number ≡ with_number octets at width number
stored-inside octets at width number room = rw (le-leb (at + width) (length octets) room) refl

-- and one whose octets don't
pub stored-outside : (octets : List ℕ) (at width number : ℕ) → length octets < at + width → stored octets at width number ≡ octets
stored-outside octets at width number past = rw (lt-leb (at + width) (length octets) past) refl

-- a store keeps the length
pub length-stored : (octets : List ℕ) (at width number : ℕ) → length (stored octets at width number) ≡ length octets
length-stored octets at width number = ⊎_elim
    (λ past. rw (stored-outside octets at width number past) refl)
    (λ room. rw (stored-inside octets at width number room) (length-with_number octets at width number))
    (cases_lt (length octets) (at + width))

-- octets stay octets
pub AreOctets-stored : (octets : List ℕ) → AreOctets octets → (at width number : ℕ) → AreOctets (stored octets at width number)
AreOctets-stored octets are at width number = ⊎_elim
    (λ past. rw (stored-outside octets at width number past) are)
    (λ room. rw (stored-inside octets at width number room) (AreOctets-with_number octets are at width number))
    (cases_lt (length octets) (at + width))
