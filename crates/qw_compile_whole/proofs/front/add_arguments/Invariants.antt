use Rattle.std.proofs.Common.{◌≡◌, ◌+◌, ◌++◌, map, sum_by, take}
use Rattle.std.specs.List.{flat_map}
use Rattle.qw_scalar.specs.Texts.{texts_in}
use Rattle.qw_scalar.specs.Nodes.{nodes}
use Rattle.qw_scalar.specs.Tree.{expression_of}
use Rattle.qw_grouped.specs.Grouped.{arguments_of}
use Rattle.qw_grouped.specs.Query.{function_of}
use Rattle.qw_grouped.specs.declared.set_function.SetFunction.{SetFunction}
use Rattle.qw_compile_whole.specs.WholeTexts.{argument_texts}
use Rattle.qw_compile_whole.proofs.front.add_arguments.Given as goal

abbrev pub invariant-loop-function : goal.invariant-loop-function
invariant-loop-function l = record {
  same : map expression_of l.items.items ≡ map expression_of l.initial.items.items ++ arguments_of (map function_of (take l.function-index l.functions));
  nodes : sum_by nodes l.items.items ≡ sum_by nodes l.initial.items.items + sum_by (λ (f : SetFunction). nodes f.argument) (take l.function-index l.functions);
  texts : flat_map texts_in l.items.items ≡ flat_map texts_in l.initial.items.items ++ argument_texts (take l.function-index l.functions);
}
