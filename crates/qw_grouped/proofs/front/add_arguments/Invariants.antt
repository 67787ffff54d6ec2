use Rattle.std.proofs.Common.{◌≡◌, ◌++◌, map, take}
use Rattle.qw_scalar.specs.Tree.{expression_of}
use Rattle.qw_grouped.specs.Grouped.{arguments_of}
use Rattle.qw_grouped.specs.Query.{function_of}
use Rattle.qw_grouped.proofs.front.add_arguments.Given as goal

abbrev pub invariant-loop-function : goal.invariant-loop-function
invariant-loop-function l =
    map expression_of l.items.items ≡ map expression_of l.initial.items.items ++ arguments_of (map function_of (take l.function-index l.functions))
