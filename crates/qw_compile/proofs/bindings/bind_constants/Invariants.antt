use Rattle.std.proofs.Common.{◌≡◌, ◌++◌, map, take}
use Rattle.qw_expr.specs.Bindings as bindings
use Rattle.qw_read.specs.Constants.{known_constant}
use Rattle.qw_compile.proofs.bindings.bind_constants.Given as goal

abbrev pub invariant-loop-constant : goal.invariant-loop-constant
invariant-loop-constant l = bindings.known_of l.made.items ≡ bindings.known_of l.initial.made.items ++ map known_constant (take l.constant-index l.constants)
