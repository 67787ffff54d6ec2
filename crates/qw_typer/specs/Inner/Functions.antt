-- Mirrors src/functions.rt: the set functions that the code keeps.
use Rattle.std.specs.Prelude.{List, map}
use Rattle.qw_ast.specs.SyntaxTree as syntax
use Rattle.qw_typer.specs.Functions.{Written, counted, applied}
use Rattle.qw_typer.specs.declared.functions.Written as coded_written
use Rattle.qw_typer.specs.declared.functions.Written.TheVariants as coded

abbrev pub written_of : coded_written.Written → Written
written_of (coded.Rows place) = counted place
written_of (coded.Applied place f argument) = applied place f (syntax.expression_of argument.now)

abbrev pub all_written : List coded_written.Written → List Written
all_written found = map written_of found
