-- Mirrors `Indexed::with`.
use Rattle.std.specs.Prelude.{ℕ}
use Rattle.qw_module.specs.declared.instruction.Op.TheVariants as o
use Rattle.qw_module.specs.declared.instruction.Instr.{Instr}
use Rattle.qw_module.specs.declared.instruction.Instr.TheVariants as i
use Rattle.qw_binary.specs.declared.read.instruction.Indexed.{Indexed}
use Rattle.qw_binary.specs.declared.read.instruction.Indexed.TheVariants as indexed

-- an instruction with this index
abbrev pub with_index : Indexed → ℕ → Instr
with_index indexed.Br index = i.Br index
with_index indexed.BrIf index = i.BrIf index
with_index indexed.Call index = i.Call index
with_index indexed.LocalGet index = i.Op (o.LocalGet index)
with_index indexed.LocalSet index = i.Op (o.LocalSet index)
with_index indexed.LocalTee index = i.Op (o.LocalTee index)
with_index indexed.GlobalGet index = i.Op (o.GlobalGet index)
with_index indexed.GlobalSet index = i.Op (o.GlobalSet index)
