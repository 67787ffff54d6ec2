-- Mirrors `opened_file::OpenedFile::read_at`.
use Rattle.std.specs.Prelude.{◌≡◌, ◌⊎◌, ℕ, List, Result, Ok, Err}
use Rattle.std.specs.declared.io.Error.{Error}

-- the file as it is read at an offset: it stands there, or was led there
abbrev pub IsLed : {F : Type 0} → (seeks : F → ℕ → Result ℕ Error → F → Type 0) → (from at : ℕ) → (before after : F) → Type 0
IsLed seeks from at before after = ((from ≡ at) × (after ≡ before)) ⊎ ((place : ℕ) × seeks before at (Ok place) after)

-- how a reading at an offset ended: by its read, or before that by an error of its seek
abbrev pub ReadsAt : {F : Type 0} → (seeks : F → ℕ → Result ℕ Error → F → Type 0) → (reads : F → Result ℕ Error → List ℕ → F → Type 0) → (from at : ℕ) → (before after : F) → Result ℕ Error → (octets : List ℕ) → Type 0
ReadsAt {F} seeks reads from at before after (Ok n) octets = (led : F) × IsLed seeks from at before led × reads led (Ok n) octets after
ReadsAt {F} seeks reads from at before after (Err error) octets = seeks before at (Err error) after
    ⊎ ((led : F) × IsLed seeks from at before led × reads led (Err error) octets after)
