-- Where an open file stands after a call.
use Rattle.std.proofs.Common.{ℕ, ◌+◌, List, Result, Ok, Err, subst, sym, inl, inr}
use Rattle.std.proofs.Math.Logic.{∥∥₁_map}
use Rattle.std.specs.declared.io.Error.{Error}
use Rattle.qw_io.specs.Calls.{Fails, Gives, Stands, opened, sought, read}
use Rattle.qw_io.specs.Inner.Opened.{IsLed, ReadsAt}

-- a file that was led to an offset stands there
pub led : {F : Type 0} (opens : Result F Error → Type 0) (seeks : F → ℕ → Result ℕ Error → F → Type 0) (reads : F → Result ℕ Error → List ℕ → F → Type 0) (from at : ℕ) (before after : F) → Stands opens seeks reads from before → IsLed seeks from at before after → Stands opens seeks reads at after
led opens seeks reads from at before after stands (inl same) = subst (Stands opens seeks reads at) (sym same.1) (subst (λ n. Stands opens seeks reads n before) same.0 stands)
led opens seeks reads from at before after stands (inr way) = ∥∥₁_map stands (λ s. sought before after from at way.0 s way.1)

-- one that was opened stands at its front
pub at_front : {F : Type 0} (opens : Result F Error → Type 0) (seeks : F → ℕ → Result ℕ Error → F → Type 0) (reads : F → Result ℕ Error → List ℕ → F → Type 0) (file : F) → opens (Ok file) → Stands opens seeks reads 0 file
at_front opens seeks reads file is = ∣ opened file is ∣₁

-- one that was read stands behind what was read
pub behind : {F : Type 0} (opens : Result F Error → Type 0) (seeks : F → ℕ → Result ℕ Error → F → Type 0) (reads : F → Result ℕ Error → List ℕ → F → Type 0) (at n : ℕ) (octets : List ℕ) (before after : F) → Stands opens seeks reads at before → reads before (Ok n) octets after → Stands opens seeks reads (at + n) after
behind opens seeks reads at n octets before after stands is = ∥∥₁_map stands (λ s. read before after at n octets s is)

-- ---- a reading at an offset

pub read_on : {F : Type 0} (opens : Result F Error → Type 0) (seeks : F → ℕ → Result ℕ Error → F → Type 0) (reads : F → Result ℕ Error → List ℕ → F → Type 0) (from at n : ℕ) (octets : List ℕ) (before after : F) →
    Stands opens seeks reads from before → ReadsAt seeks reads from at before after (Ok n) octets → Stands opens seeks reads (at + n) after
read_on opens seeks reads from at n octets before after stands is = behind opens seeks reads at n octets is.0 after (led opens seeks reads from at before is.0 stands is.1) is.2

pub gave : {F : Type 0} (opens : Result F Error → Type 0) (seeks : F → ℕ → Result ℕ Error → F → Type 0) (reads : F → Result ℕ Error → List ℕ → F → Type 0) (from at n : ℕ) (octets : List ℕ) (before after : F) →
    Stands opens seeks reads from before → ReadsAt seeks reads from at before after (Ok n) octets → Gives opens seeks reads at n octets
gave opens seeks reads from at n octets before after stands is = (is.0, after, led opens seeks reads from at before is.0 stands is.1, is.2)

pub failed : {F : Type 0} (opens : Result F Error → Type 0) (seeks : F → ℕ → Result ℕ Error → F → Type 0) (reads : F → Result ℕ Error → List ℕ → F → Type 0) (from at : ℕ) (error : Error) (octets : List ℕ) (before after : F) →
    Stands opens seeks reads from before → ReadsAt seeks reads from at before after (Err error) octets → Fails opens seeks reads at error
failed opens seeks reads from at error octets before after stands (inl way) = inr (inl (from, before, after, stands, way))
failed opens seeks reads from at error octets before after stands (inr is) = inr (inr (is.0, after, octets, led opens seeks reads from at before is.0 stands is.1, is.2))
