-- Mirrors `parts.rt`: what the parts of a module are tested for, bodies apart.
use Rattle.std.specs.Prelude.{◌≡◌, ℕ, ◌<◌, ◌≤◌, ◌↔◌, List, length, Bool, true, false, IsTrue, Option, Some, None, IfSome, Result, Ok, Err}
use Rattle.qw_module.specs.declared.module.Import.{Import}
use Rattle.qw_module.specs.declared.module.Import.TheVariants as import
use Rattle.qw_module.specs.declared.module.Module.{Module}
use Rattle.qw_module.specs.Typing.{Signature}
use Rattle.qw_module.specs.Validity.{IsValidMemory}
use Rattle.qw_binary.specs.Contents.{contents_of}
use Rattle.qw_binary.specs.Modules.{SpellsModule}
use Rattle.qw_valid.specs.declared.valid.Part.{Part}
use Rattle.qw_valid.specs.declared.valid.ValidFault.{ValidFault}
use Rattle.qw_valid.specs.declared.valid.ValidFault.TheVariants as fault
use Rattle.qw_valid.specs.ValidFaults.{PartHolds}
use Rattle.qw_scan.specs.declared.outline.Outline.{Outline}
use Rattle.qw_scan.specs.declared.tables.Tables.{Tables}
use Rattle.qw_scan.specs.Inner.Outlines.{indices_in, contents_in, IsOutline}
use Rattle.qw_scan.specs.Inner.Tabled.{IsTabled}

-- a function has at most one result (3.2.2)
abbrev pub HasOneResult : Signature → Type 0
HasOneResult signature = length signature.results ≤ 1

-- `IsValidImport` of a module with so many types
abbrev pub IsImportOf : (types : ℕ) → Import → Type 0
IsImportOf types (import.Memory limits) = IsValidMemory limits
IsImportOf types (import.Raise type) = type < types
IsImportOf types (import.Pages type) = type < types

-- the outline and the tables of octets that spell a module
pub record Describes (whole : List ℕ) (o : Outline) (t : Tables) : Type 0 where
  pub outlined : IsOutline whole o
  pub tabled : IsTabled whole o t
  pub spelled : SpellsModule (contents_in whole o) whole
  pub complete : length (indices_in whole o) ≡ length (contents_in whole o).functions

-- the answer tells whether a part is valid, of each module that holds what the octets spell; or it is want of memory
abbrev pub TestsPart : (whole : List ℕ) → Outline → Part → Option Bool → Type 0
TestsPart whole o part answer = (m : Module) → contents_of m ≡ contents_in whole o → IfSome answer (λ holds. IsTrue holds ↔ PartHolds m part)

-- by the test of a part
abbrev pub decided : Part → Option Bool → Result (Unit {0}) ValidFault
decided part (Some true) = Ok tt
decided part (Some false) = Err (fault.Part part)
decided part None = Err fault.NoMemory
