-- Types of operands where any may be there, and what a branch takes (WebAssembly Core Specification 1.0, 3.3.5, appendix "Validation
-- Algorithm"). None is an operand whose type isn't known, or no result.
use Rattle.std.specs.Prelude.{Bool, true, false, if◌then◌else◌, List, [], Option, Some, None}
use Rattle.qw_module.specs.declared.instruction.ValType.{ValType}
use Rattle.qw_module.specs.declared.instruction.ValType.TheVariants.{I32, I64}
use Rattle.qw_module.specs.Typing.{types_of}
use Rattle.qw_valid.specs.declared.walk.Opener.{Opener}
use Rattle.qw_valid.specs.declared.walk.Opener.TheVariants.{Loop}

abbrev pub is_same : ValType → ValType → Bool
is_same I32 I32 = true
is_same I64 I64 = true
is_same I32 I64 = false
is_same I64 I32 = false

-- a kind fits a type

-- the kind of what fits both
abbrev pub joined : Option ValType → Option ValType → Option (Option ValType)
joined None kind = Some kind
joined (Some type) None = Some (Some type)
joined (Some type) (Some other) = if is_same type other then Some (Some type) else None

-- what a branch to its label takes
abbrev pub taken_by : Opener → Option ValType → List ValType
taken_by Loop result = []
taken_by _ result = types_of result
