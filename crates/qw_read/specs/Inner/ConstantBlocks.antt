-- Mirrors `src/constant.rt`: the statements whose steps its functions add.
use Rattle.std.specs.Prelude.{List}
use Rattle.std.specs.Int.{w64, cast_unsigned}
use Rattle.qw_module.specs.declared.instruction.Const.TheVariants as const
use Rattle.qw_low.specs.Syntax.{Statement, assign, constant_of}
use Rattle.qw_read.specs.Constants.{word_value}
use Rattle.qw_read.specs.declared.constant.Constant.{Constant}
use Rattle.qw_read.specs.Inner.Blocks.{each_block}

abbrev pub constant_block : Constant → Statement
constant_block c = assign c.local (constant_of (const.I64 (cast_unsigned w64 (word_value c.word))))

abbrev pub constants_block : List Constant → Statement
constants_block constants = each_block constant_block constants
