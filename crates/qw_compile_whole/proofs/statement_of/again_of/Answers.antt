use Rattle.std.proofs.Common.{◌∙◌, List, length, map, sym, ap, subst}
use Rattle.std.specs.List.{AllByRecursion}
use Rattle.qw_scalar.specs.Tree.{expression_of}
use Rattle.qw_scalar.specs.Typing.{IsTyped}
use Rattle.qw_scalar.specs.declared.expression.Expr.{Expr}
use Rattle.qw_grouped.specs.Query.{grouped_of}
use Rattle.qw_physical.specs.Courses.{column_of}
use Rattle.qw_physical.specs.Physical.{select}
use Rattle.qw_physical.specs.declared.pipeline.ReadColumn.{ReadColumn}
use Rattle.qw_compile_whole.specs.GroupColumns.{key_from}
use Rattle.qw_compile_whole.specs.WholeDistinct.{distinct_columns}
use Rattle.qw_compile_whole.proofs.DistinctColumns.{items_coded, shows_key}
use Rattle.qw_compile_whole.proofs.EnterStands.{items_typed}
use Rattle.qw_compile_whole.proofs.statement_of.again_of.Goals as goal

pub distinct_columns-requires : goal.distinct_columns-requires
distinct_columns-requires c = record {
  typed = subst (λ (es : List Expr). AllByRecursion (λ (e : Expr). IsTyped (expression_of e)) es) (sym c.items.ensures.items) (items_coded c.args.query.now.items (items_typed (grouped_of c.args.query.now) c.items.ensures.kept));
}

pub returns-clause-key : goal.returns-clause-key
returns-clause-key c = c.in_ok-columns.ensures.key ∙ ap (λ (es : List Expr). key_from 0 (distinct_columns 0 (map expression_of es))) c.items.ensures.items

pub returns-clause-again : goal.returns-clause-again
returns-clause-again c =
    let key = c.in_ok-columns.ensures.key ∙ ap (λ (es : List Expr). key_from 0 (distinct_columns 0 (map expression_of es))) c.items.ensures.items in
    record {
      operators_are = c.in_ok-pipeline.ensures.operators;
      sink_is = c.in_ok-pipeline.ensures.sink ∙ ap select (ap (λ (l : List ReadColumn). map column_of l) (c.deref.ensures.value ∙ key) ∙ shows_key 0 (grouped_of c.args.query.now).items);
    }

pub returns-clause-shown : goal.returns-clause-shown
returns-clause-shown c = c.in_ok-pipeline.ensures.short ∙ ap (λ (l : List ReadColumn). length l) c.deref.ensures.value
