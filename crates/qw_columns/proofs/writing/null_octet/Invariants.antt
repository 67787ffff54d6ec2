use Rattle.std.proofs.Common.{◌≡◌, ◌+◌, ◌*◌, ◌-◌}
use Rattle.qw_columns.specs.Inner.Writing.{flags_from}
use Rattle.qw_columns.proofs.writing.null_octet.Given as goal

abbrev pub invariant-loop-bit : goal.invariant-loop-bit
invariant-loop-bit l = l.octet ≡ flags_from l.column.values (8 * l.group + 8 - l.bit) l.bit
