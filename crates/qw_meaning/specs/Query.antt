-- The specification that the parts of a query in the code make.
use Rattle.std.specs.Prelude.{List, map}
use Rattle.qw_scalar.specs.declared.expression.Expr.{Expr}
use Rattle.qw_scalar.specs.declared.expression.Cond.{Cond}
use Rattle.qw_scalar.specs.Tree.{condition_of, expression_of}
use Rattle.qw_meaning.specs.declared.query.Entry as coded_entry
use Rattle.qw_meaning.specs.declared.query.Joined as coded_join
use Rattle.qw_meaning.specs.declared.query.Source as coded_source
use Rattle.qw_meaning.specs.Select.{Entry, Joined, Source, Specification}

abbrev pub entry_of : coded_entry.Entry → Entry
entry_of entry = record { table = entry.table; columns = entry.columns.items }

abbrev pub joined_of : coded_join.Joined → Joined
joined_of j = record { entry = entry_of j.entry; outer = j.outer; on = map condition_of j.on.items }

abbrev pub source_of : coded_source.Source → Source
source_of source = record { first = entry_of source.first; joins = map joined_of source.joins.items }

pub record QueryParts : Type 0 where
  pub sources : List coded_source.Source
  pub conjuncts : List Cond
  pub items : List Expr

abbrev pub query_of : QueryParts → Specification
query_of parts = record {
  sources = map source_of parts.sources;
  conjuncts = map condition_of parts.conjuncts;
  items = map expression_of parts.items;
}
