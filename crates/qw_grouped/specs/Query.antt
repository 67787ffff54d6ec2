-- The grouped query that the parts of one in the code make.
use Rattle.std.specs.Prelude.{List, map}
use Rattle.qw_scalar.specs.declared.expression.Expr.{Expr}
use Rattle.qw_scalar.specs.declared.expression.Cond.{Cond}
use Rattle.qw_scalar.specs.Tree.{condition_of, expression_of}
use Rattle.qw_meaning.specs.Query.{source_of}
use Rattle.qw_meaning.specs.declared.query.Source as coded_source
use Rattle.qw_grouped.specs.Grouped.{Grouped, SetFunction}
use Rattle.qw_grouped.specs.declared.query.GroupedColumn.{GroupedColumn}
use Rattle.qw_grouped.specs.declared.set_function.SetFunction as coded_function

abbrev pub function_of : coded_function.SetFunction → SetFunction
function_of f = record { kind = f.kind; argument = expression_of f.argument }

pub record GroupedParts : Type 0 where
  pub sources : List coded_source.Source
  pub conjuncts : List Cond
  pub columns : List GroupedColumn
  pub functions : List coded_function.SetFunction
  pub having : List Cond
  pub items : List Expr

abbrev pub grouped_of : GroupedParts → Grouped
grouped_of parts = record {
  sources = map source_of parts.sources;
  conjuncts = map condition_of parts.conjuncts;
  columns = parts.columns;
  functions = map function_of parts.functions;
  having = map condition_of parts.having;
  items = map expression_of parts.items;
}
