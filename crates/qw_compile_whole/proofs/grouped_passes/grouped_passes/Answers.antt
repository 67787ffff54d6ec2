use Rattle.std.proofs.Common.{◌≤◌, ℕ, Contains, List, length, map, sym, ap, ◌∙◌, subst, subst₂}
use Rattle.std.specs.List.{AllByRecursion}
use Rattle.qw_types.specs.Value.{IsSized}
use Rattle.qw_types.specs.declared.schema.ColumnType.{ColumnType}
use Rattle.qw_scalar.specs.Expression.{Expression}
use Rattle.qw_scalar.specs.Typing.{kind_of}
use Rattle.qw_meaning.specs.Select.{Entry, Source, Specification, entries_of}
use Rattle.qw_grouped.specs.Query.{grouped_of}
use Rattle.qw_physical.specs.Coded.{pipeline_of}
use Rattle.qw_physical.specs.Named.{numbers}
use Rattle.qw_physical.specs.declared.pipeline.ReadColumn.{ReadColumn}
use Rattle.qw_operator.specs.Grouping.{CanGroup}
use Rattle.qw_group_pipeline.specs.declared.columns.ValueColumn.{ValueColumn}
use Rattle.qw_compile.specs.QueryLiterals.{query_texts}
use Rattle.qw_compile.specs.QueryPasses.{ArePipelinesOf}
use Rattle.qw_compile.specs.UsedColumns.{AreUsedAt}
use Rattle.qw_compile.proofs.TextsWithin.{texts_within}
use Rattle.qw_compile_whole.specs.GroupColumns.{key_columns, value_columns}
use Rattle.qw_compile_whole.specs.GroupedPlaced.{LastSelects, group_over}
use Rattle.qw_compile_whole.specs.WholeTexts.{front_texts}
use Rattle.qw_compile_whole.proofs.GroupedReady.{can_group}
use Rattle.qw_compile_whole.proofs.GroupedStands.{last_can, texts_among_both}
use Rattle.qw_compile_whole.proofs.grouped_passes.grouped_passes.Goals as goal

pub columns_of-requires-clause-some : goal.columns_of-requires-clause-some
columns_of-requires-clause-some c =
    subst (λ (ss : List Source). AllByRecursion (λ (e : Entry). 1 ≤ length e.columns) (entries_of ss)) (sym (ap (λ (s : Specification). s.sources) c.in_ok-front.ensures.front)) c.requires.some

pub columns_of-requires-clause-sized : goal.columns_of-requires-clause-sized
columns_of-requires-clause-sized c =
    subst (λ (ss : List Source). AllByRecursion (λ (e : Entry). AllByRecursion (λ (d : ColumnType). IsSized d.ty) e.columns) (entries_of ss)) (sym (ap (λ (s : Specification). s.sources) c.in_ok-front.ensures.front)) c.requires.sized

pub returns : goal.returns
returns c =
    let q = c.args.query.now in
    let G = grouped_of c.args.query.now in
    let F = c.in_ok-front.front in
    let kept = c.in_ok-kept.field-0.kept.items in
    let read = c.in_ok-kept.field-0.read.items in
    let ps = c.in_ok-pipelines.pipelines.items in
    let of = subst (λ (l : List ReadColumn). ArePipelinesOf c.in_ok-front.front l c.in_ok-pipelines.pipelines.items) c.deref-2.ensures.value c.in_ok-pipelines.ensures.passed in
    let sources = ap (λ (s : Specification). s.sources) c.in_ok-front.ensures.front in
    record {
      grouped = c.sources-sources.ensures.kept;
      sized_entries = c.requires.sized;
      before = F;
      before_is = c.in_ok-front.ensures.front;
      before_texts = c.in_ok-front.ensures.texts;
      before_nodes = c.in_ok-front.ensures.nodes;
      kept = kept;
      are = c.in_ok-kept.ensures;
      used_at = subst₂ (λ (ss : List Source) (l : List ReadColumn). AreUsedAt (entries_of ss) (numbers l) c.in_ok-used.used.items) sources c.deref.ensures.value c.in_ok-used.ensures;
      key_is = c.in_ok-groups.ensures.key;
      values_are = c.in_ok-groups.ensures.values;
      of = of;
      keyed = c.in_ok-pipelines.ensures.keyed;
      short = c.in_ok-pipelines.ensures.short;
      groups_can = subst₂ (λ (key : List ReadColumn) (values : List ValueColumn). LastSelects (λ items. CanGroup (group_over (length ps) key values items)) (map pipeline_of ps)) (sym c.in_ok-groups.ensures.key) (sym c.in_ok-groups.ensures.values)
          (last_can F kept read ps c.in_ok-kept.ensures of c.order_laws.ensures.rows c.order_laws.ensures.same (λ (items : List Expression). CanGroup (group_over (length ps) (key_columns G) (value_columns G) items))
          (λ made kinds. can_group G c.sources-sources.ensures.kept (length ps) made (kinds ∙ ap (λ (s : Specification). map kind_of s.items) c.in_ok-front.ensures.front)));
      behind_is = c.in_ok-behind.ensures.behind;
      alone = c.in_ok-behind.ensures.alone;
      small = c.in_ok-behind.ensures.short;
      texts_are = c.in_ok-texts.ensures.texts;
      utf8 = c.in_ok-texts.ensures.utf8;
      among = texts_among_both (front_texts q) _ ps c.in_ok-behind.behind
          (subst (λ (ts : List (List ℕ)). AllByRecursion (Contains ts) (query_texts c.in_ok-pipelines.pipelines.items)) c.in_ok-front.ensures.texts (texts_within F kept ps of)) c.in_ok-behind.ensures.texts;
    }
