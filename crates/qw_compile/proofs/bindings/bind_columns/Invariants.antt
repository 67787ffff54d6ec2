use Rattle.std.proofs.Common.{◌≡◌, ◌++◌, map, take}
use Rattle.qw_expr.specs.Bindings as bindings
use Rattle.qw_read.specs.Reading.{known_of}
use Rattle.qw_compile.proofs.bindings.bind_columns.Given as goal

abbrev pub invariant-loop-reader : goal.invariant-loop-reader
invariant-loop-reader l = bindings.known_of l.made.items ≡ bindings.known_of l.initial.made.items ++ map known_of (take l.reader-index l.readers)
