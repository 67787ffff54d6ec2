use Rattle.std.proofs.Common.{◌∙◌, ◌+◌, ◌++◌, ◌∷◌, [], ℕ, List, length, ap, sym, subst, subst₂, refl, arith}
use Rattle.std.specs.List.{AllByRecursion}
use Rattle.qw_types.specs.Value.{IsSized}
use Rattle.qw_grouped.specs.Query.{grouped_of}
use Rattle.qw_physical.specs.Coded.{pipeline_of}
use Rattle.qw_physical.specs.declared.pipeline.ReadColumn.{ReadColumn}
use Rattle.qw_operator.specs.Takes.{AreSized, CanCarry}
use Rattle.qw_group_pipeline.specs.Groups.{all_anywhere}
use Rattle.qw_group_pipeline.specs.declared.columns.ValueColumn.{ValueColumn}
use Rattle.qw_compile.specs.QueryMade.{literals_by}
use Rattle.qw_compile.specs.declared.query_statement.QueryStatement.{QueryStatement}
use Rattle.qw_compile_whole.specs.DistinctMade.{IsDistinctMade}
use Rattle.qw_compile_whole.specs.DistinctOf.{IsDistinctOf}
use Rattle.qw_compile_whole.specs.GroupColumns.{key_columns, key_from, value_columns}
use Rattle.qw_compile_whole.specs.WholeDistinct.{distinct_columns}
use Rattle.qw_compile_whole.specs.WholeTexts.{texts_of_grouped}
use Rattle.qw_compile_whole.proofs.EnterStands.{again_can, again_few, again_sized, distinct_as, items_many, short_below}
use Rattle.qw_compile_whole.proofs.GroupedPasses.{few_groups, few_literals, passes_few, passes_once, passes_sized, passes_stand, passes_used, passes_walk, short_passes_again, sized_groups}
use Rattle.qw_compile_whole.proofs.GroupedStands.{ok_some_as}
use Rattle.qw_compile_whole.proofs.statement_of.statement_of_distinct.Goals as goal

pub distinct_statement_of-requires-clause-few : goal.distinct_statement_of-requires-clause-few
distinct_statement_of-requires-clause-few c = omega (arith, passes_few c.args.query.now c.in_ok-columns.field-0 c.in_ok-columns.ensures, c.len-tables.ensures, c.in_ok-columns.field-0.pipelines.ok.0)

pub distinct_statement_of-requires-clause-used : goal.distinct_statement_of-requires-clause-used
distinct_statement_of-requires-clause-used c = passes_used c.args.query.now c.in_ok-columns.field-0 c.in_ok-columns.ensures c.deref.result.now c.deref.ensures.value

pub distinct_statement_of-requires-clause-sized : goal.distinct_statement_of-requires-clause-sized
distinct_statement_of-requires-clause-sized c = passes_sized c.args.query.now c.in_ok-columns.field-0 c.in_ok-columns.ensures c.deref.result.now c.deref.ensures.value

pub distinct_statement_of-requires-clause-stand : goal.distinct_statement_of-requires-clause-stand
distinct_statement_of-requires-clause-stand c = passes_stand c.args.query.now c.in_ok-columns.field-0 c.in_ok-columns.ensures c.deref.result.now c.deref.ensures.value (c.len-tables.result + 1)

pub distinct_statement_of-requires-clause-few_groups : goal.distinct_statement_of-requires-clause-few_groups
distinct_statement_of-requires-clause-few_groups c = let few = few_groups c.args.query.now c.in_ok-columns.field-0 c.in_ok-columns.ensures in (omega (arith, few), omega (arith, few))

pub distinct_statement_of-requires-clause-sized_groups : goal.distinct_statement_of-requires-clause-sized_groups
distinct_statement_of-requires-clause-sized_groups c = sized_groups c.args.query.now c.in_ok-columns.field-0 c.in_ok-columns.ensures

pub distinct_statement_of-requires-clause-enters : goal.distinct_statement_of-requires-clause-enters
distinct_statement_of-requires-clause-enters c = passes_walk c.args.query.now c.in_ok-columns.field-0 c.in_ok-columns.ensures c.deref.result.now c.deref.ensures.value (c.len-tables.result + 1) _ _ refl refl

pub distinct_statement_of-requires-clause-few_again : goal.distinct_statement_of-requires-clause-few_again
distinct_statement_of-requires-clause-few_again c =
    let few = again_few (grouped_of c.args.query.now) c.in_ok-columns.ensures.grouped in
    let key = ap (λ (l : List ReadColumn). length l) c.in_ok-again.ensures.key in
    let values = ap (λ (l : List ValueColumn). length l) c.in_ok-again.ensures.values in
    (omega (arith, few, key), omega (arith, values))

pub distinct_statement_of-requires-clause-sized_again : goal.distinct_statement_of-requires-clause-sized_again
distinct_statement_of-requires-clause-sized_again c =
    (subst AreSized (sym c.in_ok-again.ensures.key) (again_sized (grouped_of c.args.query.now) c.in_ok-columns.ensures.grouped), subst (AllByRecursion (λ (v : ValueColumn). IsSized v.ty)) (sym c.in_ok-again.ensures.values) tt)

pub distinct_statement_of-requires-clause-walks : goal.distinct_statement_of-requires-clause-walks
distinct_statement_of-requires-clause-walks c =
    let p = c.in_ok-columns.field-0 in
    let again = c.in_ok-again.again.pipeline in
    let literals = literals_by (c.len-tables.result + 1) (length c.deref.result.now) p.texts.items (p.pipelines.items ++ p.behind ∷ []) in
    subst₂ (λ (key : List ReadColumn) (values : List ValueColumn). CanCarry (all_anywhere key values ++ literals) (pipeline_of again).operators (pipeline_of again).sink)
    (sym c.in_ok-again.ensures.key) (sym c.in_ok-again.ensures.values) (again_can (grouped_of c.args.query.now) c.in_ok-columns.ensures.grouped (pipeline_of again) c.in_ok-again.ensures.again literals)

pub distinct_statement_of-requires-clause-same : goal.distinct_statement_of-requires-clause-same
distinct_statement_of-requires-clause-same c =
    let key = ap (λ (l : List ReadColumn). length l) c.in_ok-again.ensures.key in
    items_many (grouped_of c.args.query.now) (pipeline_of c.in_ok-columns.field-0.behind) c.in_ok-columns.ensures.behind_is (length c.in_ok-again.again.columns.key.items) key

pub distinct_statement_of-requires-clause-alone : goal.distinct_statement_of-requires-clause-alone
distinct_statement_of-requires-clause-alone c = (ap (λ (l : List ValueColumn). length l) c.in_ok-again.ensures.values, c.in_ok-again.ensures.alone)

pub returns-clause-made : goal.returns-clause-made
returns-clause-made c =
    let q = c.args.query.now in
    let G = grouped_of c.args.query.now in
    let p = c.in_ok-columns.field-0 in
    let are = c.in_ok-columns.ensures in
    let cs = c.deref.result.now in
    let again = c.in_ok-again.again in
    ok_some_as c.distinct_statement_of.result
    (λ (made : QueryStatement). IsDistinctMade (c.len-tables.result + 1) p.texts.items p.pipelines.items p.groups.key.items p.groups.values.items p.behind again.columns.key.items again.columns.values.items again.pipeline cs p.used.items made.layout made.block.code.items made.locals.items)
    (λ (made : QueryStatement). IsDistinctOf q made.layout made.block.code.items made.locals.items)
    (λ made g. record {
      before = are.before;
      before_is = are.before_is;
      before_texts = are.before_texts;
      kept = are.kept;
      columns = p.columns.items;
      are = are.are;
      used = p.used.items;
      used_at = are.used_at;
      ps = p.pipelines.items;
      of = are.of;
      behind = p.behind;
      behind_is = are.behind_is;
      again = again.pipeline;
      again_is = c.in_ok-again.ensures.again;
      among = are.among;
      made = distinct_as (c.len-tables.result + 1) _ p.texts.items (texts_of_grouped q) p.pipelines.items p.groups.key.items (key_columns G) p.groups.values.items (value_columns G) p.behind again.columns.key.items (key_from 0 (distinct_columns 0 G.items)) again.columns.values.items [] again.pipeline cs p.columns.items p.used.items made.layout made.block.code.items made.locals.items
          (ap (λ (n : ℕ). n + 1) (c.len-tables.ensures ∙ p.pipelines.ok.0)) are.texts_are are.key_is are.values_are c.in_ok-again.ensures.key c.in_ok-again.ensures.values c.deref.ensures.value g;
    })
    c.distinct_statement_of.ensures.made

pub returns-clause-there : goal.returns-clause-there
returns-clause-there c = λ fits.
    let p = c.in_ok-columns.field-0 in
    let are = c.in_ok-columns.ensures in
    let few = few_literals c.args.query.now p are (short_below c.args.query.now fits) in
    c.distinct_statement_of.ensures.there (short_passes_again c.args.query.now p are fits _ (ap (λ (l : List ReadColumn). length l) c.in_ok-again.ensures.key)) few.0 few.1

pub returns-clause-short : goal.returns-clause-short
returns-clause-short c = λ fits.
    let p = c.in_ok-columns.field-0 in
    let are = c.in_ok-columns.ensures in
    let few = few_literals c.args.query.now p are (short_below c.args.query.now fits) in
    let once = passes_once c.args.query.now p are c.deref.result.now c.deref.ensures.value in
    c.distinct_statement_of.ensures.short (short_passes_again c.args.query.now p are fits _ (ap (λ (l : List ReadColumn). length l) c.in_ok-again.ensures.key)) few.0 once

pub returns-clause-few_locals : goal.returns-clause-few_locals
returns-clause-few_locals c = λ fits.
    let p = c.in_ok-columns.field-0 in
    let are = c.in_ok-columns.ensures in
    let few = few_literals c.args.query.now p are (short_below c.args.query.now fits) in
    let once = passes_once c.args.query.now p are c.deref.result.now c.deref.ensures.value in
    c.distinct_statement_of.ensures.few_locals (short_passes_again c.args.query.now p are fits _ (ap (λ (l : List ReadColumn). length l) c.in_ok-again.ensures.key)) few.0 once
