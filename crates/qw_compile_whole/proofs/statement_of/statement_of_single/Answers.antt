use Rattle.std.proofs.Common.{◌∙◌, List, length, map, ap, sym, subst, subst₂, arith}
use Rattle.std.specs.List.{AllByRecursion}
use Rattle.qw_types.specs.Value.{IsSized}
use Rattle.qw_grouped.specs.Query.{grouped_of}
use Rattle.qw_physical.specs.Coded.{pipeline_of}
use Rattle.qw_physical.specs.declared.pipeline.ReadColumn.{ReadColumn}
use Rattle.qw_operator.specs.Grouping.{CanGroup, Group}
use Rattle.qw_group_pipeline.specs.declared.columns.ValueColumn.{ValueColumn}
use Rattle.qw_compile.specs.declared.query_statement.QueryStatement.{QueryStatement}
use Rattle.qw_compile_whole.specs.GroupColumns.{value_columns}
use Rattle.qw_compile_whole.specs.GroupedPlaced.{LastSelects, group_over}
use Rattle.qw_compile_whole.specs.SingleMade.{IsSingleMade}
use Rattle.qw_compile_whole.specs.SingleOf.{IsSingleOf}
use Rattle.qw_compile_whole.specs.WholeTexts.{texts_of_grouped}
use Rattle.qw_compile_whole.proofs.GroupedPasses.{few_groups, few_literals, no_keys, passes_few, passes_once, passes_sized, passes_stand, passes_used, passes_walk, planned_as, single_short, sized_groups}
use Rattle.qw_compile_whole.proofs.GroupedStands.{ok_some_as}
use Rattle.qw_compile_whole.proofs.SingleStands.{single_as}
use Rattle.qw_compile_whole.proofs.statement_of.statement_of_single.Goals as goal

pub single_statement_of-requires-clause-few : goal.single_statement_of-requires-clause-few
single_statement_of-requires-clause-few c = omega (arith, passes_few c.args.query.now c.in_ok-columns.field-0 c.in_ok-columns.ensures, c.len-tables.ensures, c.in_ok-columns.field-0.pipelines.ok.0)

pub single_statement_of-requires-clause-used : goal.single_statement_of-requires-clause-used
single_statement_of-requires-clause-used c = passes_used c.args.query.now c.in_ok-columns.field-0 c.in_ok-columns.ensures c.deref-2.result.now c.deref-2.ensures.value

pub single_statement_of-requires-clause-sized : goal.single_statement_of-requires-clause-sized
single_statement_of-requires-clause-sized c = passes_sized c.args.query.now c.in_ok-columns.field-0 c.in_ok-columns.ensures c.deref-2.result.now c.deref-2.ensures.value

pub single_statement_of-requires-clause-stand : goal.single_statement_of-requires-clause-stand
single_statement_of-requires-clause-stand c = passes_stand c.args.query.now c.in_ok-columns.field-0 c.in_ok-columns.ensures c.deref-2.result.now c.deref-2.ensures.value c.len-tables.result

pub single_statement_of-requires-clause-groups : goal.single_statement_of-requires-clause-groups
single_statement_of-requires-clause-groups c =
    let ps = c.in_ok-columns.field-0.pipelines.items in
    subst₂ (λ (key : List ReadColumn) (vs : List ValueColumn). LastSelects (λ items. CanGroup (group_over (length ps) key vs items)) (map pipeline_of ps)) (no_keys c.args.query.now c.in_ok-columns.field-0 c.in_ok-columns.ensures c.requires.alone) (sym c.deref.ensures.value)
    c.in_ok-columns.ensures.groups_can

pub single_statement_of-requires-clause-few_values : goal.single_statement_of-requires-clause-few_values
single_statement_of-requires-clause-few_values c = omega (arith, few_groups c.args.query.now c.in_ok-columns.field-0 c.in_ok-columns.ensures, ap (λ (l : List ValueColumn). length l) c.deref.ensures.value)

pub single_statement_of-requires-clause-sized_values : goal.single_statement_of-requires-clause-sized_values
single_statement_of-requires-clause-sized_values c = subst (AllByRecursion (λ (v : ValueColumn). IsSized v.ty)) (sym c.deref.ensures.value) (sized_groups c.args.query.now c.in_ok-columns.field-0 c.in_ok-columns.ensures).1

pub single_statement_of-requires-clause-makes : goal.single_statement_of-requires-clause-makes
single_statement_of-requires-clause-makes c =
    let none = no_keys c.args.query.now c.in_ok-columns.field-0 c.in_ok-columns.ensures c.requires.alone in
    passes_walk c.args.query.now c.in_ok-columns.field-0 c.in_ok-columns.ensures c.deref-2.result.now c.deref-2.ensures.value c.len-tables.result _ _ (sym none) c.deref.ensures.value

pub returns-clause-made : goal.returns-clause-made
returns-clause-made c =
    let q = c.args.query.now in
    let p = c.in_ok-columns.field-0 in
    let are = c.in_ok-columns.ensures in
    ok_some_as c.single_statement_of.result
    (λ (made : QueryStatement). (group : Group) × IsSingleMade c.len-tables.result p.texts.items p.pipelines.items group c.deref.result.now p.behind c.deref-2.result.now p.used.items made.layout made.block.code.items made.locals.items)
    (λ (made : QueryStatement). IsSingleOf q made.layout made.block.code.items made.locals.items)
    (λ made g. planned_as q p are _ g.0 (single_as c.len-tables.result _ p.texts.items (texts_of_grouped q) p.pipelines.items g.0 c.deref.result.now (value_columns (grouped_of q)) p.behind c.deref-2.result.now p.columns.items p.used.items made.layout made.block.code.items made.locals.items
    (c.len-tables.ensures ∙ p.pipelines.ok.0) are.texts_are (c.deref.ensures.value ∙ are.values_are) c.deref-2.ensures.value g.1))
    c.single_statement_of.ensures.made

pub returns-clause-there : goal.returns-clause-there
returns-clause-there c = λ fits.
    let p = c.in_ok-columns.field-0 in
    let are = c.in_ok-columns.ensures in
    let few = few_literals c.args.query.now p are fits in
    c.single_statement_of.ensures.there (single_short c.args.query.now p are fits c.requires.alone c.deref.result.now c.deref.ensures.value) few.0 few.1

pub returns-clause-short : goal.returns-clause-short
returns-clause-short c = λ fits.
    let p = c.in_ok-columns.field-0 in
    let are = c.in_ok-columns.ensures in
    let shorted = single_short c.args.query.now p are fits c.requires.alone c.deref.result.now c.deref.ensures.value in
    c.single_statement_of.ensures.short shorted (few_literals c.args.query.now p are fits).0 (passes_once c.args.query.now p are c.deref-2.result.now c.deref-2.ensures.value)

pub returns-clause-few_locals : goal.returns-clause-few_locals
returns-clause-few_locals c = λ fits.
    let p = c.in_ok-columns.field-0 in
    let are = c.in_ok-columns.ensures in
    let shorted = single_short c.args.query.now p are fits c.requires.alone c.deref.result.now c.deref.ensures.value in
    c.single_statement_of.ensures.few_locals shorted (few_literals c.args.query.now p are fits).0 (passes_once c.args.query.now p are c.deref-2.result.now c.deref-2.ensures.value)
