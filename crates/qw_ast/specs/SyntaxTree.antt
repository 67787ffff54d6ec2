-- What a tree of the code says. A tree is held together by addresses, here `_`, which mean nothing.
use Rattle.std.specs.Prelude.{ℕ, List, Option, map, option_map}
use Rattle.std.specs.Borrow.{Bor}
use Rattle.qw_ast.specs.declared.script.Interval.{Interval}
use Rattle.qw_ast.specs.declared.script.Expr.{Expr}
use Rattle.qw_ast.specs.declared.script.Cond.{Cond}
use Rattle.qw_ast.specs.declared.script.Phrase.{Phrase}
use Rattle.qw_ast.specs.declared.script.Exprs.{Exprs}
use Rattle.qw_ast.specs.declared.script.Branches.{Branches}
use Rattle.qw_ast.specs.declared.script.Entry as coded_entry
use Rattle.qw_ast.specs.declared.script.Item.{Item}
use Rattle.qw_ast.specs.declared.script.Joined as coded_join
use Rattle.qw_ast.specs.declared.script.Source as coded_source
use Rattle.qw_ast.specs.declared.script.Reference as coded_reference
use Rattle.qw_ast.specs.declared.script.Key as coded_key
use Rattle.qw_ast.specs.declared.script.Key.TheVariants.{Ordinal}
use Rattle.qw_ast.specs.declared.script.Key.TheVariants as coded_keys
use Rattle.qw_ast.specs.declared.script.SortSpecification as coded_sort
use Rattle.qw_ast.specs.declared.script.SelectList.{SelectList}
use Rattle.qw_ast.specs.declared.script.SelectList.TheVariants.{All, Items}
use Rattle.qw_ast.specs.declared.script.Statement.{Statement}
use Rattle.qw_ast.specs.declared.script.Expr.TheVariants.{Null, Number, Text, Date, Column, Signed', Arithmetic', Extract', Case', Match', Call', CountRows, SetFunction'}
use Rattle.qw_ast.specs.declared.script.Cond.TheVariants.{Compare', Between', In', Predicate', And', Or', Not', Is', Bracketed'}
use Rattle.qw_ast.specs.Syntax.{Days, Expression, null, number, text, date, column, signed, arithmetic, extract, searched_case, simple_case, call, count_rows, set_function, Condition, comparison, between, among, predicate, both, either, negation_of, is, bracketed, Clause, condition, expression, Expressions, last, further, Branching, otherwise, when, SelectItem, Selected, all_columns, items, Entry, Joined, Source, Reference, Key, ordinal, result_column, SortSpecification, Select}

-- octets that may be there
abbrev pub octets_of : Option (Bor (List ℕ)) → Option (List ℕ)
octets_of name = option_map (λ x. x.now) name

abbrev pub days_of : Interval → Days
days_of i = record { sign = i.sign; string = i.days.now }

abbrev mutual
  pub expression_of : Expr → Expression
  expression_of Null = null
  expression_of (Number n) = number n.now
  expression_of (Text t) = text t.now
  expression_of (Date d intervals) = date d.now (map days_of intervals.items)
  expression_of (Column qualifier name) = column (octets_of qualifier) name.now
  expression_of (Signed' sign _ a) = signed sign (expression_of a)
  expression_of (Arithmetic' operator _ a _ b) = arithmetic operator (expression_of a) (expression_of b)
  expression_of (Extract' field _ a) = extract field (expression_of a)
  expression_of (Case' _ branches) = searched_case (branching_of branches)
  expression_of (Match' _ x _ branches) = simple_case (expression_of x) (branching_of branches)
  expression_of (Call' function _ arguments) = call function (expressions_of arguments)
  expression_of (CountRows place) = count_rows place
  expression_of (SetFunction' place f _ a) = set_function place f (expression_of a)

  pub condition_of : Cond → Condition
  condition_of (Compare' op _ a _ b) = comparison op (expression_of a) (expression_of b)
  condition_of (Between' negated _ x _ a _ b) = between negated (expression_of x) (expression_of a) (expression_of b)
  condition_of (In' negated _ x _ values) = among negated (expression_of x) (expressions_of values)
  condition_of (Predicate' p negated _ a) = predicate p negated (expression_of a)
  condition_of (And' _ c _ d) = both (condition_of c) (condition_of d)
  condition_of (Or' _ c _ d) = either (condition_of c) (condition_of d)
  condition_of (Not' _ c) = negation_of (condition_of c)
  condition_of (Is' negated _ c t) = is negated (condition_of c) t
  condition_of (Bracketed' _ c) = bracketed (condition_of c)

  pub clause_of : Phrase → Clause
  clause_of (Phrase.Condition c) = condition (condition_of c)
  clause_of (Phrase.Expression e) = expression (expression_of e)

  pub expressions_of : Exprs → Expressions
  expressions_of (Exprs.Last' _ e) = last (expression_of e)
  expressions_of (Exprs.More' _ e _ es) = further (expression_of e) (expressions_of es)

  pub branching_of : Branches → Branching
  branching_of (Branches.Else' _ e) = otherwise (expression_of e)
  branching_of (Branches.When' _ p _ e _ rest) = when (clause_of p) (expression_of e) (branching_of rest)

abbrev pub item_of : Item → SelectItem
item_of i = record { value = expression_of i.expression; name = octets_of i.name }

abbrev pub selected_of : SelectList → Selected
selected_of All = all_columns
selected_of (Items items') = items (map item_of items'.items)

abbrev pub entry_of : coded_entry.Entry → Entry
entry_of e = record { table = e.table.now; alias = octets_of e.alias }

abbrev pub joined_of : coded_join.Joined → Joined
joined_of j = record { entry = entry_of j.entry; outer = j.outer; on = condition_of j.on }

abbrev pub source_of : coded_source.Source → Source
source_of s = record { first = entry_of s.first; joins = map joined_of s.joins.items }

abbrev pub reference_of : coded_reference.Reference → Reference
reference_of r = record { qualifier = octets_of r.qualifier; name = r.name.now }

abbrev pub key_of : coded_key.Key → Key
key_of (Ordinal digits) = ordinal digits.now
key_of (coded_keys.Column name) = result_column name.now

abbrev pub sort_of : coded_sort.SortSpecification → SortSpecification
sort_of s = record { key = key_of s.key; is_descending = s.is_descending }

abbrev pub select_of : Statement → Select
select_of s = record { distinct = s.distinct; selected = selected_of s.list; sources = map source_of s.sources.items; filter = option_map condition_of s.condition; grouping = map reference_of s.grouping.items; having = option_map condition_of s.having; order = map sort_of s.order.items }

-- the queries that statements are, in order
abbrev pub selects_of : List Statement → List Select
selects_of statements = map select_of statements
