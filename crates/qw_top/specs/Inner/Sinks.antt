-- What writing a text whole leaves of a sink's count of faults, and how a run ends then.
use Rattle.std.specs.Prelude.{◌≡◌, ℕ, Result, Ok, Err}
use Rattle.qw_io.specs.Faults.{IsCounted}
use Rattle.qw_io.specs.declared.fault.IoFault.{IoFault}
use Rattle.qw_io.specs.declared.fault.IoFault.TheVariants.{Failed, NoMemory}
use Rattle.qw_top.specs.declared.status.Status.{Status}
use Rattle.qw_top.specs.declared.status.Status.TheVariants.{WriteFailed, NoMemory as NoMemoryLeft}

-- a write that failed is counted, and no other answer is
abbrev pub CountsWrite : {T : Type 0} → Result T IoFault → ℕ → ℕ → Type 0
CountsWrite (Ok _) before after = after ≡ before
CountsWrite (Err Failed) before after = IsCounted before after
CountsWrite (Err NoMemory) before after = after ≡ before

-- a fault of a sink as the end of a run
abbrev pub write_fault_of : IoFault → Status
write_fault_of Failed = WriteFailed
write_fault_of NoMemory = NoMemoryLeft
