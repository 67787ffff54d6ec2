use Rattle.std.proofs.Common.{ℕ, List, length, map, sym, ap, ap₂, ◌∙◌, subst, arith}
use Rattle.std.specs.List.{AllByRecursion}
use Rattle.std.proofs.lemmas.List.{length-map}
use Rattle.qw_scalar.specs.Tree.{expression_of}
use Rattle.qw_scalar.specs.Typing.{IsTyped}
use Rattle.qw_grouped.specs.Grouped.{Takes}
use Rattle.qw_grouped.specs.Query.{function_of, grouped_of}
use Rattle.qw_grouped.specs.declared.query.GroupedColumn.{GroupedColumn}
use Rattle.qw_grouped.specs.declared.set_function.SetFunction.{SetFunction}
use Rattle.qw_physical.specs.declared.pipeline.ReadColumn.{ReadColumn}
use Rattle.qw_compile_whole.specs.GroupColumns.{values_from}
use Rattle.qw_compile_whole.proofs.ColumnTypes.{arguments_coded}
use Rattle.qw_compile_whole.proofs.GroupedReady.{few_both, key_long}
use Rattle.qw_compile_whole.proofs.group_columns.group_columns.Goals as goal

pub value_columns-requires-clause-few : goal.value_columns-requires-clause-few
value_columns-requires-clause-few c =
    let many = few_both (grouped_of c.args.query.now) c.functions.ensures.kept in
    let key = c.in_ok-key.key.ok.0 ∙ (ap (λ (l : List ReadColumn). length l) c.in_ok-key.ensures ∙ (key_long 0 c.columns.result.now ∙ ap (λ (l : List GroupedColumn). length l) c.columns.ensures.columns)) in
    let functions = ap (λ (l : List SetFunction). length l) c.functions.ensures.functions in
    omega (arith, many, c.len.ensures, key, functions, length-map c.args.query.now.functions function_of)

pub value_columns-requires-clause-typed : goal.value_columns-requires-clause-typed
value_columns-requires-clause-typed c =
    subst (AllByRecursion (λ (f : SetFunction). IsTyped (expression_of f.argument) × Takes f.kind (expression_of f.argument))) (sym c.functions.ensures.functions) (arguments_coded c.args.query.now c.functions.ensures.kept)

pub returns-clause-values : goal.returns-clause-values
returns-clause-values c =
    let key = c.in_ok-key.key.ok.0 ∙ (ap (λ (l : List ReadColumn). length l) c.in_ok-key.ensures ∙ (key_long 0 c.columns.result.now ∙ ap (λ (l : List GroupedColumn). length l) c.columns.ensures.columns)) in
    c.in_ok-values.ensures ∙ ap₂ (λ (n : ℕ) (fs : List SetFunction). values_from n (map function_of fs)) (c.len.ensures ∙ key) c.functions.ensures.functions
