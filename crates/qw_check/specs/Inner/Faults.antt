-- Mirrors `check::CheckFault::from` and `check::check_module`.
use Rattle.qw_octet_grammar.specs.declared.fault.BinaryFault.{BinaryFault}
use Rattle.qw_octet_grammar.specs.declared.fault.BinaryFault.TheVariants as reading
use Rattle.qw_binary.specs.Contents.{Contents}
use Rattle.qw_valid.specs.declared.valid.ValidFault.{ValidFault}
use Rattle.qw_valid.specs.declared.valid.ValidFault.TheVariants as validation
use Rattle.qw_scan.specs.Held.{HeldByFaulty}
use Rattle.qw_check.specs.declared.check.CheckFault.{CheckFault}
use Rattle.qw_check.specs.declared.check.CheckFault.TheVariants as check

abbrev pub fault_of_reading : BinaryFault → CheckFault
fault_of_reading reading.NotModule = check.NotModule
fault_of_reading (reading.OutOfProfile what) = check.OutOfProfile what
fault_of_reading reading.NoMemory = check.NoMemory

abbrev pub fault_of_validation : ValidFault → CheckFault
fault_of_validation (validation.Part part) = check.Part part
fault_of_validation (validation.Body func at) = check.Body func at
fault_of_validation validation.NoMemory = check.NoMemory

-- a fault is one of a module that holds these, want of memory apart
abbrev pub IsModuleFault : Contents → CheckFault → Type 0
IsModuleFault c (check.Part part) = HeldByFaulty c (validation.Part part)
IsModuleFault c (check.Body func at) = HeldByFaulty c (validation.Body func at)
IsModuleFault c check.NoMemory = Unit {0}
IsModuleFault c _ = ⊥
