use Rattle.std.proofs.Common.{◌≡◌, ◌≤◌, ◌++◌, ◌∷◌, [], ℕ, eqb, Contains, List, length, map, sym, ap, ◌∙◌, append-nil, subst, subst₂, arith}
use Rattle.std.specs.List.{AllByRecursion, IsDistinct, concat}
use Rattle.qw_types.specs.Value.{IsSized}
use Rattle.qw_scalar.specs.Tree.{expression_of}
use Rattle.qw_scalar.specs.Typing.{IsTyped}
use Rattle.qw_scalar.specs.declared.expression.Expr.{Expr}
use Rattle.qw_meaning.specs.Query.{query_of}
use Rattle.qw_meaning.specs.Select.{entries_of}
use Rattle.qw_physical.specs.Coded.{pipeline_of}
use Rattle.qw_physical.specs.Courses.{column_of}
use Rattle.qw_physical.specs.Named.{numbers}
use Rattle.qw_physical.specs.Physical.{Operator, Sink, select}
use Rattle.qw_physical.specs.declared.pipeline.Pipeline.{Pipeline}
use Rattle.qw_physical.specs.declared.pipeline.ReadColumn.{ReadColumn}
use Rattle.qw_operator.specs.Takes.{AreSized, CanCarry}
use Rattle.qw_operator.specs.Grouping.{CanGroup, Group}
use Rattle.qw_group_pipeline.specs.Groups.{all_anywhere}
use Rattle.qw_group_pipeline.specs.declared.columns.ValueColumn.{ValueColumn}
use Rattle.qw_compile.specs.QueryLiterals.{query_texts}
use Rattle.qw_compile.specs.QueryMade.{CanStand, literals_by}
use Rattle.qw_compile.specs.QueryPasses.{ArePipelinesOf}
use Rattle.qw_compile.specs.UsedColumns.{AreUsedAt}
use Rattle.qw_compile.specs.WrittenTexts.{texts_of_query}
use Rattle.qw_compile.specs.declared.query_statement.QueryStatement.{QueryStatement}
use Rattle.qw_compile.proofs.Laid.{used_many}
use Rattle.qw_compile.proofs.Planned.{are_sized, few_made}
use Rattle.qw_compile.proofs.TextsFew.{few_texts}
use Rattle.qw_compile.proofs.TextsWithin.{texts_within}
use Rattle.qw_compile_whole.specs.GroupColumns.{key_from}
use Rattle.qw_compile_whole.specs.GroupedMade.{IsGroupedMade}
use Rattle.qw_compile_whole.specs.GroupedPlaced.{LastSelects, group_over}
use Rattle.qw_compile_whole.specs.PlainDistinctOf.{IsPlainDistinctOf}
use Rattle.qw_compile_whole.specs.WholeDistinct.{distinct_columns, distinct_grouping}
use Rattle.qw_compile_whole.proofs.DistinctColumns.{items_coded, shows_key}
use Rattle.qw_compile_whole.proofs.DistinctTogether.{all_sized}
use Rattle.qw_compile_whole.proofs.GroupedStands.{front_stands, ok_some_as, statement_as, texts_among_both}
use Rattle.qw_compile_whole.proofs.PlainDistinctReady.{behind_takes, distinct_can, group_over_long, items_typed}
use Rattle.qw_compile_whole.proofs.ShortDistinct.{distinct_short}
use Rattle.qw_compile_whole.proofs.plain_distinct.statement_of_plain_distinct.Goals as goal

pub distinct_columns-requires : goal.distinct_columns-requires
distinct_columns-requires c =
    let q = c.args.query.now in
    record {
      typed = subst (AllByRecursion (λ (e : Expr). IsTyped (expression_of e))) (sym c.items.ensures.items)
          (items_coded q.items (items_typed q c.in_ok-columns.columns.kept.items c.in_ok-columns.columns.read.items c.in_ok-pipelines.pipelines.items c.in_ok-columns.ensures));
    }

pub grouped_statement_of-requires-clause-few : goal.grouped_statement_of-requires-clause-few
grouped_statement_of-requires-clause-few c =
    let q = c.args.query.now in
    let ps = c.in_ok-pipelines.pipelines.items in
    let of = subst (λ (l : List ReadColumn). ArePipelinesOf q l ps) c.deref-2.ensures.value c.in_ok-pipelines.ensures.passed in
    let few = few_made q c.in_ok-columns.columns.kept.items c.in_ok-columns.columns.read.items ps c.in_ok-columns.ensures of in
    omega (arith, few.1, c.len-tables.ensures, c.in_ok-pipelines.pipelines.ok.0)

pub grouped_statement_of-requires-clause-used : goal.grouped_statement_of-requires-clause-used
grouped_statement_of-requires-clause-used c =
    used_many (entries_of (query_of c.args.query.now).sources) c.deref.result.now c.in_ok-used.used.items c.in_ok-used.ensures ∙ ap (λ (l : List ReadColumn). length l) (c.deref.ensures.value ∙ sym c.deref-4.ensures.value)

pub grouped_statement_of-requires-clause-sized : goal.grouped_statement_of-requires-clause-sized
grouped_statement_of-requires-clause-sized c =
    let are = c.in_ok-columns.ensures in
    subst (AllByRecursion (λ (column : ReadColumn). IsSized column.ty)) (sym c.deref-4.ensures.value) (are_sized (entries_of (query_of c.args.query.now).sources) c.in_ok-columns.columns.read.items are.sized are.declared)

pub grouped_statement_of-requires-clause-stand : goal.grouped_statement_of-requires-clause-stand
grouped_statement_of-requires-clause-stand c =
    let q = c.args.query.now in
    let kept = c.in_ok-columns.columns.kept.items in
    let read = c.in_ok-columns.columns.read.items in
    let ps = c.in_ok-pipelines.pipelines.items in
    let behind = c.in_ok-behind.behind in
    let of = subst (λ (l : List ReadColumn). ArePipelinesOf q l ps) c.deref-2.ensures.value c.in_ok-pipelines.ensures.passed in
    let among : AllByRecursion (Contains c.in_ok-texts.texts.items) (query_texts (ps ++ behind ∷ [])) =
    subst (λ (ts : List (List ℕ)). AllByRecursion (Contains ts) (query_texts (ps ++ behind ∷ []))) (append-nil (texts_of_query q) ∙ sym c.in_ok-texts.ensures.texts)
    (texts_among_both (texts_of_query q) [] ps behind (texts_within q kept ps of) c.in_ok-behind.ensures.texts) in
    subst (λ (cs : List ReadColumn). AllByRecursion (λ (p : Pipeline). CanStand c.len-tables.result c.in_ok-texts.texts.items (ps ++ behind ∷ []) cs (pipeline_of p)) ps) (sym c.deref-4.ensures.value)
    (front_stands q kept read ps c.in_ok-columns.ensures of c.len-tables.result c.in_ok-texts.texts.items behind among)

pub grouped_statement_of-requires-clause-groups : goal.grouped_statement_of-requires-clause-groups
grouped_statement_of-requires-clause-groups c =
    let q = c.args.query.now in
    let ps = c.in_ok-pipelines.pipelines.items in
    let of = subst (λ (l : List ReadColumn). ArePipelinesOf q l ps) c.deref-2.ensures.value c.in_ok-pipelines.ensures.passed in
    let key_is = c.in_ok-groups.ensures.key ∙ ap (λ (l : List Expr). key_from 0 (distinct_columns 0 (map expression_of l))) c.items.ensures.items in
    subst₂ (λ (key : List ReadColumn) (values : List ValueColumn). LastSelects (λ items. CanGroup (group_over (length ps) key values items)) (map pipeline_of ps)) (sym key_is) (sym c.in_ok-groups.ensures.values)
    (distinct_can q c.in_ok-columns.columns.kept.items c.in_ok-columns.columns.read.items ps c.in_ok-columns.ensures of c.order_laws.ensures.rows c.order_laws.ensures.same)

pub grouped_statement_of-requires-clause-few_groups : goal.grouped_statement_of-requires-clause-few_groups
grouped_statement_of-requires-clause-few_groups c =
    let q = c.args.query.now in
    let are = c.in_ok-columns.ensures in
    let key_is = c.in_ok-groups.ensures.key ∙ ap (λ (l : List Expr). key_from 0 (distinct_columns 0 (map expression_of l))) c.items.ensures.items in
    let key = ap (λ (l : List ReadColumn). length l) key_is ∙ group_over_long 0 (query_of q).items in
    let values = ap (λ (l : List ValueColumn). length l) c.in_ok-groups.ensures.values in
    let few = are.specification.few_items in
    (omega (arith, few, key), omega (arith, values))

pub grouped_statement_of-requires-clause-sized_groups : goal.grouped_statement_of-requires-clause-sized_groups
grouped_statement_of-requires-clause-sized_groups c =
    let q = c.args.query.now in
    let key_is = c.in_ok-groups.ensures.key ∙ ap (λ (l : List Expr). key_from 0 (distinct_columns 0 (map expression_of l))) c.items.ensures.items in (
      subst AreSized (sym key_is) (all_sized 0 0 (query_of q).items (items_typed q c.in_ok-columns.columns.kept.items c.in_ok-columns.columns.read.items c.in_ok-pipelines.pipelines.items c.in_ok-columns.ensures)),
      subst (AllByRecursion (λ (v : ValueColumn). IsSized v.ty)) (sym c.in_ok-groups.ensures.values) tt,
    )

pub grouped_statement_of-requires-clause-walks : goal.grouped_statement_of-requires-clause-walks
grouped_statement_of-requires-clause-walks c =
    let q = c.args.query.now in
    let ps = c.in_ok-pipelines.pipelines.items in
    let behind = c.in_ok-behind.behind in
    let L = literals_by c.len-tables.result (length c.deref-4.result.now) c.in_ok-texts.texts.items (ps ++ behind ∷ []) in
    let key_is = c.in_ok-groups.ensures.key ∙ ap (λ (l : List Expr). key_from 0 (distinct_columns 0 (map expression_of l))) c.items.ensures.items in
    let sink_is : (pipeline_of behind).sink ≡ select (distinct_grouping (query_of q)).items =
    c.in_ok-behind.ensures.sink ∙ (ap (λ (l : List ReadColumn). select (map column_of l)) (c.deref-3.ensures.value ∙ key_is) ∙ ap select (shows_key 0 (query_of q).items)) in
    subst₂ (λ (key : List ReadColumn) (values : List ValueColumn). CanCarry (all_anywhere key values ++ L) (pipeline_of behind).operators (pipeline_of behind).sink) (sym key_is) (sym c.in_ok-groups.ensures.values)
    (subst₂ (λ (os : List Operator) (k : Sink). CanCarry (all_anywhere (key_from 0 (distinct_columns 0 (query_of q).items)) [] ++ L) os k) (sym c.in_ok-behind.ensures.operators) (sym sink_is)
    (behind_takes q c.in_ok-columns.columns.kept.items c.in_ok-columns.columns.read.items ps c.in_ok-columns.ensures L))

pub returns-clause-made : goal.returns-clause-made
returns-clause-made c =
    let q = c.args.query.now in
    let kept = c.in_ok-columns.columns.kept.items in
    let read = c.in_ok-columns.columns.read.items in
    let ps = c.in_ok-pipelines.pipelines.items in
    let behind = c.in_ok-behind.behind in
    let of = subst (λ (l : List ReadColumn). ArePipelinesOf q l ps) c.deref-2.ensures.value c.in_ok-pipelines.ensures.passed in
    let ts = c.in_ok-texts.texts.items in
    let used = c.in_ok-used.used.items in
    let key = c.in_ok-groups.groups.key.items in
    let values = c.in_ok-groups.groups.values.items in
    let cs = c.deref-4.result.now in
    let tables = c.len-tables.ensures ∙ c.in_ok-pipelines.pipelines.ok.0 in
    let key_is = c.in_ok-groups.ensures.key ∙ ap (λ (l : List Expr). key_from 0 (distinct_columns 0 (map expression_of l))) c.items.ensures.items in
    let sink_is : (pipeline_of behind).sink ≡ select (distinct_grouping (query_of q)).items =
    c.in_ok-behind.ensures.sink ∙ (ap (λ (l : List ReadColumn). select (map column_of l)) (c.deref-3.ensures.value ∙ key_is) ∙ ap select (shows_key 0 (query_of q).items)) in
    ok_some_as c.grouped_statement_of.result
    (λ (made : QueryStatement). (group : Group) × IsGroupedMade c.len-tables.result ts ps group key values behind cs used made.layout made.block.code.items made.locals.items)
    (λ (made : QueryStatement). IsPlainDistinctOf q made.layout made.block.code.items made.locals.items)
    (λ made g. record {
      kept = kept;
      columns = read;
      are = c.in_ok-columns.ensures;
      used = used;
      used_at = subst (λ (l : List ReadColumn). AreUsedAt (entries_of (query_of q).sources) (numbers l) used) c.deref.ensures.value c.in_ok-used.ensures;
      ps = ps;
      of = of;
      behind = behind;
      operators_are = c.in_ok-behind.ensures.operators;
      sink_is = sink_is;
      among = subst (λ (l : List (List ℕ)). AllByRecursion (Contains l) (query_texts (ps ++ behind ∷ []))) (append-nil (texts_of_query q))
          (texts_among_both (texts_of_query q) [] ps behind (texts_within q kept ps of) c.in_ok-behind.ensures.texts);
      group = g.0;
      made = statement_as c.len-tables.result (length ps) ts (texts_of_query q) ps g.0 key (key_from 0 (distinct_columns 0 (query_of q).items)) values [] behind cs read used made.layout made.block.code.items made.locals.items tables c.in_ok-texts.ensures.texts key_is
          c.in_ok-groups.ensures.values c.deref-4.ensures.value g.1;
    })
    c.grouped_statement_of.ensures.made

pub returns-clause-there : goal.returns-clause-there
returns-clause-there c = λ fits.
    let q = c.args.query.now in
    let ps = c.in_ok-pipelines.pipelines.items in
    let behind = c.in_ok-behind.behind in
    let key_is = c.in_ok-groups.ensures.key ∙ ap (λ (l : List Expr). key_from 0 (distinct_columns 0 (map expression_of l))) c.items.ensures.items in
    let shown = c.in_ok-behind.ensures.short ∙ ap (λ (l : List ReadColumn). length l) c.deref-3.ensures.value in
    let shorted = distinct_short q fits ps behind (c.in_ok-pipelines.ensures.short fits.short) c.in_ok-pipelines.ensures.keyed _ _ key_is c.in_ok-groups.ensures.values shown c.in_ok-behind.ensures.alone in
    let few = subst (λ (ts : List (List ℕ)). (length ts ≤ 4012) × (length (concat ts) ≤ 16384)) (sym c.in_ok-texts.ensures.texts) (few_texts q fits.short) in
    c.grouped_statement_of.ensures.there shorted few.0 few.1

pub returns-clause-short : goal.returns-clause-short
returns-clause-short c = λ fits.
    let q = c.args.query.now in
    let ps = c.in_ok-pipelines.pipelines.items in
    let behind = c.in_ok-behind.behind in
    let key_is = c.in_ok-groups.ensures.key ∙ ap (λ (l : List Expr). key_from 0 (distinct_columns 0 (map expression_of l))) c.items.ensures.items in
    let shown = c.in_ok-behind.ensures.short ∙ ap (λ (l : List ReadColumn). length l) c.deref-3.ensures.value in
    let shorted = distinct_short q fits ps behind (c.in_ok-pipelines.ensures.short fits.short) c.in_ok-pipelines.ensures.keyed _ _ key_is c.in_ok-groups.ensures.values shown c.in_ok-behind.ensures.alone in
    let few = subst (λ (ts : List (List ℕ)). (length ts ≤ 4012) × (length (concat ts) ≤ 16384)) (sym c.in_ok-texts.ensures.texts) (few_texts q fits.short) in
    let once = subst (λ (l : List ReadColumn). IsDistinct eqb (numbers l)) (sym c.deref-4.ensures.value) c.in_ok-columns.ensures.once in
    c.grouped_statement_of.ensures.short shorted few.0 once

pub returns-clause-few_locals : goal.returns-clause-few_locals
returns-clause-few_locals c = λ fits.
    let q = c.args.query.now in
    let ps = c.in_ok-pipelines.pipelines.items in
    let behind = c.in_ok-behind.behind in
    let key_is = c.in_ok-groups.ensures.key ∙ ap (λ (l : List Expr). key_from 0 (distinct_columns 0 (map expression_of l))) c.items.ensures.items in
    let shown = c.in_ok-behind.ensures.short ∙ ap (λ (l : List ReadColumn). length l) c.deref-3.ensures.value in
    let shorted = distinct_short q fits ps behind (c.in_ok-pipelines.ensures.short fits.short) c.in_ok-pipelines.ensures.keyed _ _ key_is c.in_ok-groups.ensures.values shown c.in_ok-behind.ensures.alone in
    let few = subst (λ (ts : List (List ℕ)). (length ts ≤ 4012) × (length (concat ts) ≤ 16384)) (sym c.in_ok-texts.ensures.texts) (few_texts q fits.short) in
    let once = subst (λ (l : List ReadColumn). IsDistinct eqb (numbers l)) (sym c.deref-4.ensures.value) c.in_ok-columns.ensures.once in
    c.grouped_statement_of.ensures.few_locals shorted few.0 once
