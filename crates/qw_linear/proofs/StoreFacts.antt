-- What the octets that a load reads stand for, and what a write of a number's octets leaves.
use Rattle.std.proofs.Common.{append_assoc, ◌≡◌, ℕ, suc, ◌+◌, ◌-◌, ◌≤◌, ◌↔◌, List, ◌++◌, length, take, drop, Option, Some, None, IsSome, OnSome, IfNone, ⊎_elim, refl, sym, arith}
use Rattle.std.proofs.lemmas.Bool.{cases_lt}
use Rattle.std.specs.Int.{Width, bytes_low_first, byte_len, from_le_bytes}
use Rattle.qw_linear.proofs.AccessFacts.{loaded-inside, stored-inside, stored-outside}
use Rattle.qw_linear.proofs.MemoryFacts.{number_at-taken, with_number-octets}
use Rattle.qw_linear.specs.Linear.{Octets}
use Rattle.qw_linear.specs.Memory.{number_at, loaded, stored}

-- the octets that a load reads stand for the number there
pub loaded-octets : (w : Width) (octets chunk : List ℕ) (at k number : ℕ) → byte_len w ≡ suc k → at + suc k ≤ length octets →
    chunk ≡ take (suc k) (drop at octets) → number ≡ from_le_bytes w chunk → Some number ≡ loaded octets at (suc k)
loaded-octets w octets chunk at k number width room same is =
    let last : byte_len w - 1 ≡ k = omega arith in
    let reads : number ≡ number_at octets at (suc k) = rw (is, same, last) (sym (number_at-taken octets at (suc k) k (omega arith))) in
    rw reads (sym (loaded-inside octets at (suc k) room))

-- a write of the low octets of a number, where they all lie in the memory and else nothing, is a store
pub stored-octets : (old new : Octets) (answer : Option (Unit {0})) (at width number : ℕ) (bytes : List ℕ) →
    bytes ≡ bytes_low_first 0 width number → (IsSome answer ↔ (at + width ≤ length old.octets)) →
    OnSome answer (new ≡ record { octets = take at old.octets ++ bytes ++ drop (at + width) old.octets; reserved = old.reserved }) →
    IfNone answer (new ≡ old) → new ≡ record { octets = stored old.octets at width number; reserved = old.reserved }
stored-octets old new None at width number bytes low inside put unchanged =
    ⊎_elim (λ past. rw (stored-outside old.octets at width number past) unchanged) (λ room. absurd (cc (inside.1 room))) (cases_lt (length old.octets) (at + width))
stored-octets old new (Some _) at width number bytes low inside put unchanged =
    let room : at + width ≤ length old.octets = inside.0 refl in
    rw (
      stored-inside old.octets at width number room,
      with_number-octets old.octets at width number room,
      ← low,
      ← append_assoc (take at old.octets) bytes (drop (at + width) old.octets),
    ) put
