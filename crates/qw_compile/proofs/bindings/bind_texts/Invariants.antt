use Rattle.std.proofs.Common.{◌≡◌, ◌++◌, drop}
use Rattle.qw_expr.specs.Bindings as bindings
use Rattle.qw_read.specs.Texts.{known_texts}
use Rattle.qw_compile.proofs.bindings.bind_texts.Given as goal

abbrev pub invariant-loop-index : goal.invariant-loop-index
invariant-loop-index l =
    bindings.known_of l.made.items ++ known_texts (drop l.index l.literals) (drop l.index l.texts) ≡ bindings.known_of l.initial.made.items ++ known_texts l.literals l.texts
