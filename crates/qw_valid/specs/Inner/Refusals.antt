-- Mirrors `fault_in` of valid.rt: the fault of a module by that of a body.
use Rattle.std.specs.Prelude.{ℕ}
use Rattle.qw_valid.specs.declared.walk.BodyFault.{BodyFault}
use Rattle.qw_valid.specs.declared.walk.BodyFault.TheVariants as body
use Rattle.qw_valid.specs.declared.valid.ValidFault.{ValidFault}
use Rattle.qw_valid.specs.declared.valid.ValidFault.TheVariants as refusal

-- the fault of a module whose function of an index has this fault of its body
abbrev pub fault_in : ℕ → BodyFault → ValidFault
fault_in func (body.At at) = refusal.Body func at
fault_in func body.NoMemory = refusal.NoMemory
