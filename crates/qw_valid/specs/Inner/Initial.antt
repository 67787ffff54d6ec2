-- Mirrors `constant_alone`: the constant that a sequence is, where it is that alone.
use Rattle.std.specs.Prelude.{List, [], ◌∷◌, Option, Some, None}
use Rattle.qw_module.specs.declared.instruction.Const.{Const}
use Rattle.qw_module.specs.declared.instruction.Op.{Op}
use Rattle.qw_module.specs.declared.instruction.Op.TheVariants as o
use Rattle.qw_module.specs.declared.instruction.Instr.{Instr}
use Rattle.qw_module.specs.declared.instruction.Instr.TheVariants as i

abbrev pub constant_operator : Op → Option Const
constant_operator (o.Const value) = Some value
constant_operator _ = None

abbrev pub constant_instruction : Instr → Option Const
constant_instruction (i.Op operator) = constant_operator operator
constant_instruction _ = None

abbrev pub constant_in : List Instr → Option Const
constant_in [] = None
constant_in (instruction ∷ []) = constant_instruction instruction
constant_in (instruction ∷ next ∷ rest) = None
