-- Mirrors `tables.rt`: exports where a module's octets have them.
use Rattle.std.specs.Prelude.{◌≡◌, ℕ, List, [], drop, Result, Ok, Err}
use Rattle.qw_octet_grammar.specs.declared.fault.BinaryFault.{BinaryFault}
use Rattle.qw_octet_grammar.specs.Reading.{read}
use Rattle.qw_module.specs.declared.module.ExportKind.TheVariants as kind
use Rattle.qw_binary.specs.Contents.{ExportContents}
use Rattle.qw_binary.specs.Sections.{export}

abbrev pub no_export : ExportContents
no_export = record { name = []; kind = kind.Function 0 }

-- the export that octets begin with
abbrev pub export_by : Result (ExportContents × List ℕ) BinaryFault → ExportContents
export_by (Ok x) = x.0
export_by (Err fault) = no_export

unfoldable pub export_at : List ℕ → (offset : ℕ) → ExportContents
export_at octets offset = export_by (read export (drop offset octets))

-- the octets begin with an export
unfoldable pub IsExportAt : List ℕ → (offset : ℕ) → Type 0
IsExportAt octets offset = (e : ExportContents) × (rest : List ℕ) × (read export (drop offset octets) ≡ Ok (e, rest))
