use Rattle.std.proofs.Common.{◌∙◌, refl, arith}
use Rattle.qw_operator.specs.Grouping.{Group}
use Rattle.qw_grouped.specs.Query.{grouped_of}
use Rattle.qw_compile.specs.declared.query_statement.QueryStatement.{QueryStatement}
use Rattle.qw_compile_whole.specs.GroupColumns.{key_columns, value_columns}
use Rattle.qw_compile_whole.specs.GroupedMade.{IsGroupedMade}
use Rattle.qw_compile_whole.specs.StatementOf.{IsStatementOf}
use Rattle.qw_compile_whole.specs.WholeTexts.{texts_of_grouped}
use Rattle.qw_compile_whole.proofs.GroupedPasses.{few_groups, few_literals, passes_few, passes_once, passes_sized, passes_stand, passes_used, passes_walk, planned_as, short_passes, sized_groups}
use Rattle.qw_compile_whole.proofs.GroupedStands.{ok_some_as, statement_as}
use Rattle.qw_compile_whole.proofs.statement_of.statement_of_grouped.Goals as goal

pub grouped_statement_of-requires-clause-few : goal.grouped_statement_of-requires-clause-few
grouped_statement_of-requires-clause-few c = omega (arith, passes_few c.args.query.now c.in_ok-columns.field-0 c.in_ok-columns.ensures, c.len-tables.ensures, c.in_ok-columns.field-0.pipelines.ok.0)

pub grouped_statement_of-requires-clause-used : goal.grouped_statement_of-requires-clause-used
grouped_statement_of-requires-clause-used c = passes_used c.args.query.now c.in_ok-columns.field-0 c.in_ok-columns.ensures c.deref.result.now c.deref.ensures.value

pub grouped_statement_of-requires-clause-sized : goal.grouped_statement_of-requires-clause-sized
grouped_statement_of-requires-clause-sized c = passes_sized c.args.query.now c.in_ok-columns.field-0 c.in_ok-columns.ensures c.deref.result.now c.deref.ensures.value

pub grouped_statement_of-requires-clause-stand : goal.grouped_statement_of-requires-clause-stand
grouped_statement_of-requires-clause-stand c = passes_stand c.args.query.now c.in_ok-columns.field-0 c.in_ok-columns.ensures c.deref.result.now c.deref.ensures.value c.len-tables.result

pub grouped_statement_of-requires-clause-few_groups : goal.grouped_statement_of-requires-clause-few_groups
grouped_statement_of-requires-clause-few_groups c = let few = few_groups c.args.query.now c.in_ok-columns.field-0 c.in_ok-columns.ensures in (omega (arith, few), omega (arith, few))

pub grouped_statement_of-requires-clause-sized_groups : goal.grouped_statement_of-requires-clause-sized_groups
grouped_statement_of-requires-clause-sized_groups c = sized_groups c.args.query.now c.in_ok-columns.field-0 c.in_ok-columns.ensures

pub grouped_statement_of-requires-clause-walks : goal.grouped_statement_of-requires-clause-walks
grouped_statement_of-requires-clause-walks c = passes_walk c.args.query.now c.in_ok-columns.field-0 c.in_ok-columns.ensures c.deref.result.now c.deref.ensures.value c.len-tables.result _ _ refl refl

pub returns-clause-made : goal.returns-clause-made
returns-clause-made c =
    let q = c.args.query.now in
    let G = grouped_of c.args.query.now in
    let p = c.in_ok-columns.field-0 in
    let are = c.in_ok-columns.ensures in
    ok_some_as c.grouped_statement_of.result
    (λ (made : QueryStatement). (group : Group) × IsGroupedMade c.len-tables.result p.texts.items p.pipelines.items group p.groups.key.items p.groups.values.items p.behind c.deref.result.now p.used.items made.layout made.block.code.items made.locals.items)
    (λ (made : QueryStatement). IsStatementOf q made.layout made.block.code.items made.locals.items)
    (λ made g. planned_as q p are _ g.0 (statement_as c.len-tables.result _ p.texts.items (texts_of_grouped q) p.pipelines.items g.0 p.groups.key.items (key_columns G) p.groups.values.items (value_columns G) p.behind c.deref.result.now p.columns.items p.used.items made.layout made.block.code.items made.locals.items
    (c.len-tables.ensures ∙ p.pipelines.ok.0) are.texts_are are.key_is are.values_are c.deref.ensures.value g.1))
    c.grouped_statement_of.ensures.made

pub returns-clause-there : goal.returns-clause-there
returns-clause-there c = λ fits.
    let few = few_literals c.args.query.now c.in_ok-columns.field-0 c.in_ok-columns.ensures fits in
    c.grouped_statement_of.ensures.there (short_passes c.args.query.now c.in_ok-columns.field-0 c.in_ok-columns.ensures fits) few.0 few.1

pub returns-clause-short : goal.returns-clause-short
returns-clause-short c = λ fits.
    let p = c.in_ok-columns.field-0 in
    let are = c.in_ok-columns.ensures in
    c.grouped_statement_of.ensures.short (short_passes c.args.query.now p are fits) (few_literals c.args.query.now p are fits).0 (passes_once c.args.query.now p are c.deref.result.now c.deref.ensures.value)

pub returns-clause-few_locals : goal.returns-clause-few_locals
returns-clause-few_locals c = λ fits.
    let p = c.in_ok-columns.field-0 in
    let are = c.in_ok-columns.ensures in
    c.grouped_statement_of.ensures.few_locals (short_passes c.args.query.now p are fits) (few_literals c.args.query.now p are fits).0 (passes_once c.args.query.now p are c.deref.result.now c.deref.ensures.value)
