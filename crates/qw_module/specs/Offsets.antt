-- The offsets of a code's accesses have 32 bits (2.4.4, 5.4.4), which typing leaves open.
use Rattle.std.specs.Prelude.{◌^◌, ◌<◌}
use Rattle.qw_module.specs.declared.instruction.Op.{Op}
use Rattle.qw_module.specs.declared.instruction.Op.TheVariants as o
use Rattle.qw_module.specs.Syntax.{Code, done, op, unreachable, block, loop, if_then, if_else, br, br_if, br_table, return, call}

-- that of an access
abbrev pub FitsOffset : Op → Type 0
FitsOffset (o.Load load arg) = arg.offset < 2 ^ 32
FitsOffset (o.Store store arg) = arg.offset < 2 ^ 32
FitsOffset _ = Unit {0}

-- those of all accesses of a code
abbrev pub FitOffsets : Code → Type 0
FitOffsets done = Unit {0}
FitOffsets (op o rest) = FitsOffset o × FitOffsets rest
FitOffsets (unreachable rest) = FitOffsets rest
FitOffsets (block result inner rest) = FitOffsets inner × FitOffsets rest
FitOffsets (loop result inner rest) = FitOffsets inner × FitOffsets rest
FitOffsets (if_then result inner rest) = FitOffsets inner × FitOffsets rest
FitOffsets (if_else result inner other rest) = FitOffsets inner × FitOffsets other × FitOffsets rest
FitOffsets (br label rest) = FitOffsets rest
FitOffsets (br_if label rest) = FitOffsets rest
FitOffsets (br_table labels default rest) = FitOffsets rest
FitOffsets (return rest) = FitOffsets rest
FitOffsets (call index rest) = FitOffsets rest
