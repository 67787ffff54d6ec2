use Rattle.std.proofs.Common.{◌+◌, ◌++◌, List, map, length}
use Rattle.std.specs.List.{AllByRecursion}
use Rattle.qw_ast.specs.Limits.{IsQuery}
use Rattle.qw_ast.specs.SyntaxTree.{select_of, selects_of}
use Rattle.qw_typer.specs.declared.fault.TypeFault.{TypeFault}
use Rattle.qw_typer.specs.declared.query.TypedQuery.{TypedQuery}
use Rattle.qw_typer.specs.Meanings.{AreMeant}
use Rattle.qw_typer.specs.Sizes.{AreSmall}
use Rattle.qw_typer.specs.Typed.{HasFirstFault}
use Rattle.qw_typer.proofs.script.type_script.Given as goal

abbrev pub invariant-loop-rest : goal.invariant-loop-rest
invariant-loop-rest l = record {
  queries : AllByRecursion IsQuery (map select_of l.rest);
  meant : (ts : List TypedQuery) → AreMeant l.fn.schema (map select_of l.rest) ts → AreMeant l.fn.schema (selects_of l.fn.script) (l.made.items ++ ts);
  first : (fault : TypeFault) → HasFirstFault l.fn.schema (length l.made.items + 1) (map select_of l.rest) fault → HasFirstFault l.fn.schema 1 (selects_of l.fn.script) fault;
  small : AreSmall l.made.items;
}

abbrev pub decreases-loop-rest : goal.decreases-loop-rest
decreases-loop-rest l = length l.rest
