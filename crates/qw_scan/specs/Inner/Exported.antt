-- Mirrors `exports.rt`: what is exported, by how many things of each kind there are; and where a name stands in a module's octets.
use Rattle.std.specs.Prelude.{ℕ, ◌<◌, ◌≢◌, List, take, drop}
use Rattle.qw_module.specs.declared.module.ExportKind.{ExportKind}
use Rattle.qw_module.specs.declared.module.ExportKind.TheVariants as kind
use Rattle.qw_binary.specs.Contents.{ExportContents}
use Rattle.qw_scan.specs.declared.exports.Counts.{Counts}
use Rattle.qw_scan.specs.declared.exports.NamePlace.{NamePlace}

-- what is exported is among so many
abbrev pub IsKindAmong : Counts → ExportKind → Type 0
IsKindAmong counts (kind.Function index) = index < counts.functions
IsKindAmong counts (kind.Memory index) = index < counts.memories
IsKindAmong counts (kind.Global index) = index < counts.globals

abbrev pub IsAmong : Counts → ExportContents → Type 0
IsAmong counts export = IsKindAmong counts export.kind

-- the octets of a name
abbrev pub name_in : List ℕ → NamePlace → List ℕ
name_in octets place = take place.count (drop place.start octets)

-- two things have other names
abbrev pub AreApart : {A : Type 0} → (A → List ℕ) → A → A → Type 0
AreApart name one other = name one ≢ name other

abbrev pub AreNamedApart : ExportContents → ExportContents → Type 0
AreNamedApart = AreApart (λ (e : ExportContents). e.name)
