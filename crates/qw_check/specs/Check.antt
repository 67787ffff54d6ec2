-- Octets that are a valid module, and octets that aren't (WebAssembly Core Specification 1.0, 3.4 and 5.5.15).
use Rattle.std.specs.Prelude.{ℕ, List}
use Rattle.qw_octet_grammar.specs.declared.fault.BinaryFault.TheVariants as reading
use Rattle.qw_module.specs.declared.module.Module.{Module}
use Rattle.qw_module.specs.Validity.{IsValid}
use Rattle.qw_binary.specs.Contents.{contents_of}
use Rattle.qw_binary.specs.Modules.{FirstStuck, SpellsModule}
use Rattle.qw_valid.specs.declared.valid.ValidFault.{ValidFault}
use Rattle.qw_valid.specs.declared.valid.ValidFault.TheVariants as validation
use Rattle.qw_valid.specs.ValidFaults.{IsFault}
use Rattle.qw_check.specs.declared.check.CheckFault.{CheckFault}
use Rattle.qw_check.specs.declared.check.CheckFault.TheVariants as check

-- the octets spell a valid module
pub record SpellsValid (text : List ℕ) : Type 0 where
  pub m : Module
  pub spelled : SpellsModule (contents_of m) text
  pub valid : IsValid m

-- the octets spell a module that has the fault
pub record SpellsFaulty (text : List ℕ) (fault : ValidFault) : Type 0 where
  pub m : Module
  pub spelled : SpellsModule (contents_of m) text
  pub faulty : IsFault fault m

-- The octets have the fault: it is the first construct from the left that no rule allows, which isn't the standard's or out of the
-- profile; or they spell a module whose first part that isn't valid it is, or the first place of the first body that isn't typed.
-- Want of memory says nothing.
abbrev pub HasFault : List ℕ → CheckFault → Type 0
HasFault text check.NotModule = FirstStuck text reading.NotModule
HasFault text (check.OutOfProfile what) = FirstStuck text (reading.OutOfProfile what)
HasFault text (check.Part part) = SpellsFaulty text (validation.Part part)
HasFault text (check.Body func at) = SpellsFaulty text (validation.Body func at)
HasFault text check.NoMemory = Unit {0}
