-- Mirrors `src/literal.rt`: the statements whose steps its functions add.
use Rattle.std.specs.Prelude.{List}
use Rattle.qw_low.specs.Syntax.{Statement, local, advance, seq, assign}
use Rattle.qw_read.specs.declared.literal.Literal.{Literal}
use Rattle.qw_read.specs.Inner.Blocks.{i32, each_block}

abbrev pub literal_block : Literal → Statement
literal_block l = seq (assign l.cell.value (advance (local 0) (i32 l.at))) (assign l.cell.length (i32 l.count))

abbrev pub literals_block : List Literal → Statement
literals_block literals = each_block literal_block literals
