-- What a shelf and a sink make of the answers of a system's calls. Each call is given by a relation: whether it may answer so, and leave the file so.
use Rattle.std.specs.Prelude.{◌≢◌, ◌⊎◌, ℕ, ◌+◌, List, Result, Ok, Err}
use Rattle.std.specs.IoError.{error_kind}
use Rattle.std.specs.declared.io.Error.{Error}
use Rattle.std.specs.declared.io.ErrorKind.TheVariants.{OutOfMemory}

-- An open file stands at this offset: it was opened now, at its front; or a seek led there; or a read gave the octets before it.
pub data StandsAt {F : Type 0} (opens : Result F Error → Type 0) (seeks : F → ℕ → Result ℕ Error → F → Type 0) (reads : F → Result ℕ Error → List ℕ → F → Type 0) : ℕ → F → Type 0 where
  opened : (file : F) → opens (Ok file) → StandsAt opens seeks reads 0 file
  sought : (before after : F) (from at place : ℕ) → StandsAt opens seeks reads from before → seeks before at (Ok place) after → StandsAt opens seeks reads at after
  read : (before after : F) (at n : ℕ) (octets : List ℕ) → StandsAt opens seeks reads at before → reads before (Ok n) octets after → StandsAt opens seeks reads (at + n) after

-- it stands there, whichever calls led there
abbrev pub Stands : {F : Type 0} → (opens : Result F Error → Type 0) → (seeks : F → ℕ → Result ℕ Error → F → Type 0) → (reads : F → Result ℕ Error → List ℕ → F → Type 0) → (at : ℕ) → F → Type 0
Stands opens seeks reads at file = ∥ StandsAt opens seeks reads at file ∥₁

-- a read at this offset of the file gave n octets, which are the first of these
abbrev pub Gives : {F : Type 0} → (opens : Result F Error → Type 0) → (seeks : F → ℕ → Result ℕ Error → F → Type 0) → (reads : F → Result ℕ Error → List ℕ → F → Type 0) → (at n : ℕ) → (octets : List ℕ) → Type 0
Gives {F} opens seeks reads at n octets = (before : F) × (after : F) × Stands opens seeks reads at before × reads before (Ok n) octets after

-- opening the file, seeking this offset of it or reading there gave this error
abbrev pub Fails : {F : Type 0} → (opens : Result F Error → Type 0) → (seeks : F → ℕ → Result ℕ Error → F → Type 0) → (reads : F → Result ℕ Error → List ℕ → F → Type 0) → (at : ℕ) → Error → Type 0
Fails {F} opens seeks reads at error = opens (Err error)
    ⊎ ((from : ℕ) × (before : F) × (after : F) × Stands opens seeks reads from before × seeks before at (Err error) after)
    ⊎ ((before : F) × (after : F) × (octets : List ℕ) × Stands opens seeks reads at before × reads before (Err error) octets after)

-- such an error of another kind than want of memory
abbrev pub FailsOutside : {F : Type 0} → (opens : Result F Error → Type 0) → (seeks : F → ℕ → Result ℕ Error → F → Type 0) → (reads : F → Result ℕ Error → List ℕ → F → Type 0) → (at : ℕ) → Type 0
FailsOutside opens seeks reads at = (error : Error) × Fails opens seeks reads at error × (error_kind error ≢ OutOfMemory)

-- a write of the piece took no octet, or gave an error
abbrev pub TakesNone : {W : Type 0} → (writes : W → List ℕ → Result ℕ Error → W → Type 0) → (before : W) → (piece : List ℕ) → (after : W) → Type 0
TakesNone writes before piece after = writes before piece (Ok 0) after ⊎ ((error : Error) × writes before piece (Err error) after)
