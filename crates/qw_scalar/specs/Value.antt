-- The value that an expression's value is (ISO/IEC 9075:1992, 6.11): a text that is lent is a text.
use Rattle.std.specs.Prelude.{Result, Ok, Err}
use Rattle.qw_types.specs.declared.code.Code.{Code}
use Rattle.qw_types.specs.declared.value.Val.{Val}
use Rattle.qw_types.specs.declared.value.Val.TheVariants as val
use Rattle.qw_scalar.specs.declared.value.Value.{Value}
use Rattle.qw_scalar.specs.declared.value.Value.TheVariants as value

abbrev pub val_of : Value → Val
val_of value.Null = val.Null
val_of (value.Number number) = val.Num number
val_of (value.Date day) = val.Date day
val_of (value.Text text) = val.Text text.now

abbrev pub valued : Result Value Code → Result Val Code
valued (Ok value) = Ok (val_of value)
valued (Err code) = Err code
