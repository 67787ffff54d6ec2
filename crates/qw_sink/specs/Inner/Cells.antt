-- Mirrors `cells::Cell`: a value of a cell whose text is lent.
use Rattle.std.specs.Prelude.{IsUtf8}
use Rattle.qw_types.specs.declared.value.Val.{Val}
use Rattle.qw_types.specs.declared.value.Val.TheVariants as val
use Rattle.qw_sink.specs.declared.cells.Cell.{Cell}
use Rattle.qw_sink.specs.declared.cells.Cell.TheVariants as cell

-- the value that it is
abbrev pub val_of : Cell → Val
val_of cell.Null = val.Null
val_of (cell.Number number) = val.Num number
val_of (cell.Date day) = val.Date day
val_of (cell.Text octets) = val.Text octets.now

-- its octets are a text, where it is one
abbrev pub HasText : Cell → Type 0
HasText (cell.Text octets) = IsUtf8 octets.now
HasText _ = Unit {0}
