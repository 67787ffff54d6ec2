use Rattle.std.proofs.Common.{◌≡◌, ◌∙◌, ◌<◌, ◌^◌, arith, [], length, map, sym, ap, subst}
use Rattle.std.specs.List.{AllByRecursion}
use Rattle.qw_scalar.specs.Tree.{condition_of, expression_of}
use Rattle.qw_meaning.specs.Flow.{each, kept, selected}
use Rattle.qw_meaning.specs.Outcome.{ended}
use Rattle.qw_grouped.specs.Grouped.{Grouped, kinds_of}
use Rattle.qw_grouped.specs.Groups.{grouped_table}
use Rattle.qw_grouped.specs.Query.{function_of, grouped_of}
use Rattle.qw_plain_grouped.specs.Inner.Evaluable.{AreEvaluable, AreTestable}
use Rattle.qw_plain_grouped.specs.Inner.Flows.{flow_of}
use Rattle.qw_plain_grouped.proofs.Clauses.{having_can, items_can, table}
use Rattle.qw_plain_grouped.proofs.outcome.behind_groups.Goals as goal

pub kept-requires : goal.kept-requires
kept-requires c =
    let q : Grouped = grouped_of c.args.query.now in
    let few : length c.args.rows.now < 10 ^ 18 = omega (arith, c.if-rows-ge-TOO_MANY.false) in
    let table_is : flow_of c.in_ok-table.table ≡ table q c.having.ensures.kept c.args.rows.now =
    subst (λ fs. flow_of c.in_ok-table.table ≡ grouped_table (length c.args.query.now.columns) (kinds_of (map function_of fs)) (record { rows = c.args.rows.now; codes = [] })) c.functions.ensures.functions
    (subst (λ cs. flow_of c.in_ok-table.table ≡ grouped_table (length cs) (kinds_of (map function_of c.functions.result.now)) (record { rows = c.args.rows.now; codes = [] })) c.columns.ensures.columns c.in_ok-table.ensures) in
    subst (λ cs. AllByRecursion (AreTestable (map condition_of cs)) c.in_ok-table.table.rows.items) (sym c.having.ensures.having)
    (subst (λ f. AllByRecursion (AreTestable q.having) f.rows) (sym table_is) (having_can q c.having.ensures.kept c.args.rows.now c.requires.typed few))

pub selected-requires : goal.selected-requires
selected-requires c =
    let q : Grouped = grouped_of c.args.query.now in
    let few : length c.args.rows.now < 10 ^ 18 = omega (arith, c.if-rows-ge-TOO_MANY.false) in
    let table_is : flow_of c.in_ok-table.table ≡ table q c.having.ensures.kept c.args.rows.now =
    subst (λ fs. flow_of c.in_ok-table.table ≡ grouped_table (length c.args.query.now.columns) (kinds_of (map function_of fs)) (record { rows = c.args.rows.now; codes = [] })) c.functions.ensures.functions
    (subst (λ cs. flow_of c.in_ok-table.table ≡ grouped_table (length cs) (kinds_of (map function_of c.functions.result.now)) (record { rows = c.args.rows.now; codes = [] })) c.columns.ensures.columns c.in_ok-table.ensures) in
    let passed_is : flow_of c.in_ok-passed.passed ≡ each (kept q.having) (table q c.having.ensures.kept c.args.rows.now) =
    subst (λ cs. flow_of c.in_ok-passed.passed ≡ each (kept (map condition_of cs)) (flow_of c.in_ok-table.table)) c.having.ensures.having c.in_ok-passed.ensures
    ∙ ap (each (kept q.having)) table_is in
    subst (λ es. AllByRecursion (AreEvaluable (map expression_of es)) c.in_ok-passed.passed.rows.items) (sym c.items.ensures.items)
    (subst (λ f. AllByRecursion (AreEvaluable q.items) f.rows) (sym passed_is) (items_can q c.having.ensures.kept c.args.rows.now c.requires.typed few))

pub returns : goal.returns
returns c =
    let q : Grouped = grouped_of c.args.query.now in
    let table_is : flow_of c.in_ok-table.table ≡ table q c.having.ensures.kept c.args.rows.now =
    subst (λ fs. flow_of c.in_ok-table.table ≡ grouped_table (length c.args.query.now.columns) (kinds_of (map function_of fs)) (record { rows = c.args.rows.now; codes = [] })) c.functions.ensures.functions
    (subst (λ cs. flow_of c.in_ok-table.table ≡ grouped_table (length cs) (kinds_of (map function_of c.functions.result.now)) (record { rows = c.args.rows.now; codes = [] })) c.columns.ensures.columns c.in_ok-table.ensures) in
    let passed_is : flow_of c.in_ok-passed.passed ≡ each (kept q.having) (table q c.having.ensures.kept c.args.rows.now) =
    subst (λ cs. flow_of c.in_ok-passed.passed ≡ each (kept (map condition_of cs)) (flow_of c.in_ok-table.table)) c.having.ensures.having c.in_ok-passed.ensures
    ∙ ap (each (kept q.having)) table_is in
    let made_is : flow_of c.in_ok-made.made ≡ each (selected q.items) (each (kept q.having) (table q c.having.ensures.kept c.args.rows.now)) =
    subst (λ es. flow_of c.in_ok-made.made ≡ each (selected (map expression_of es)) (flow_of c.in_ok-passed.passed)) c.items.ensures.items c.in_ok-made.ensures
    ∙ ap (each (selected q.items)) passed_is in
    c.answered.ensures ∙ ap (λ f. ended f.rows f.codes) made_is
