use Rattle.std.proofs.Common.{◌++◌, [], ◌∷◌, List, ap, ◌∙◌}
use Rattle.qw_physical.specs.Physical as physical
use Rattle.qw_physical.specs.declared.pipeline.Operator.{Operator}
use Rattle.qw_physical.specs.declared.pipeline.Operator.TheVariants as operators
use Rattle.qw_compile_whole.proofs.DistinctColumns.{columns_shown, columns_short, columns_texts}
use Rattle.qw_compile_whole.proofs.distinct_columns.behind_distinct.Goals as goal

pub returns-clause-sink : goal.returns-clause-sink
returns-clause-sink c =
    let steps = c.in_ok-push.ensures.items ∙ ap (λ (l : List Operator). l ++ operators.Filter c.new.result ∷ []) c.new-operators.ensures.items in
    ap physical.select (columns_shown c.args.columns.now c.in_ok-items.items c.in_ok-items.ensures c.new.result c.new.ensures.items c.push.new.self steps)

pub returns-clause-short : goal.returns-clause-short
returns-clause-short c =
    let steps = c.in_ok-push.ensures.items ∙ ap (λ (l : List Operator). l ++ operators.Filter c.new.result ∷ []) c.new-operators.ensures.items in
    columns_short c.args.columns.now c.in_ok-items.items c.in_ok-items.ensures c.new.result c.new.ensures.items c.push.new.self steps

pub returns-clause-texts : goal.returns-clause-texts
returns-clause-texts c =
    let steps = c.in_ok-push.ensures.items ∙ ap (λ (l : List Operator). l ++ operators.Filter c.new.result ∷ []) c.new-operators.ensures.items in
    columns_texts c.args.columns.now c.in_ok-items.items c.in_ok-items.ensures c.new.result c.new.ensures.items c.push.new.self steps
