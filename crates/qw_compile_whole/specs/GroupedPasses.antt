-- The passes of a grouped query: the pipelines of its well placed plan of what reaches GROUP BY, and HAVING and the select list behind them, over the columns that
-- it reads, with its texts.
use Rattle.std.specs.Prelude.{◌≡◌, ◌≤◌, ◌+◌, Contains, List, [], ◌∷◌, ◌++◌, length, map, sum_by, IsUtf8}
use Rattle.std.specs.List.{AllByRecursion}
use Rattle.qw_types.specs.Value.{IsSized}
use Rattle.qw_types.specs.declared.schema.ColumnType.{ColumnType}
use Rattle.qw_scalar.specs.Nodes.{nodes, nodes_of}
use Rattle.qw_meaning.specs.Query.{QueryParts, query_of}
use Rattle.qw_meaning.specs.Select.{Entry, entries_of}
use Rattle.qw_algebra.specs.Sizes.{query_size}
use Rattle.qw_grouped.specs.Grouped.{IsGrouped, front}
use Rattle.qw_grouped.specs.Query.{GroupedParts, grouped_of}
use Rattle.qw_physical.specs.Coded.{pipeline_of}
use Rattle.qw_physical.specs.Named.{numbers}
use Rattle.qw_physical.specs.Sizes.{size}
use Rattle.qw_physical.specs.declared.pipeline.ReadColumn.{ReadColumn}
use Rattle.qw_operator.specs.Grouping.{CanGroup}
use Rattle.qw_compile.specs.Limits.{AreShort, IsShort, keys_built, keys_sought, lookups}
use Rattle.qw_compile.specs.QueryColumns.{AreColumnsOf}
use Rattle.qw_compile.specs.QueryLiterals.{query_texts}
use Rattle.qw_compile.specs.QueryPasses.{ArePipelinesOf}
use Rattle.qw_compile.specs.UsedColumns.{AreUsedAt}
use Rattle.qw_compile.specs.WrittenTexts.{texts_of_query}
use Rattle.qw_compile_whole.specs.GroupColumns.{IsBehind, key_columns, value_columns}
use Rattle.qw_compile_whole.specs.GroupedPlaced.{LastSelects, group_over}
use Rattle.qw_compile_whole.specs.WholeLimits.{front_size}
use Rattle.qw_compile_whole.specs.WholeTexts.{front_texts, texts_of_grouped}
use Rattle.qw_compile_whole.specs.declared.grouped_passes.GroupedPasses.{GroupedPasses}

pub record AreGroupedPasses (parts : GroupedParts) (passes : GroupedPasses) : Type 0 where
  pub grouped : IsGrouped (grouped_of parts)
  pub sized_entries : AllByRecursion (λ (e : Entry). AllByRecursion (λ (c : ColumnType). IsSized c.ty) e.columns) (entries_of (grouped_of parts).sources)
  -- what reaches GROUP BY
  pub before : QueryParts
  pub before_is : query_of before ≡ front (grouped_of parts)
  pub before_texts : texts_of_query before ≡ front_texts parts
  pub before_nodes : query_size nodes nodes_of before ≡ front_size nodes nodes_of parts + length parts.columns
  -- the columns
  pub kept : List ReadColumn
  pub are : AreColumnsOf before kept passes.columns.items
  pub used_at : AreUsedAt (entries_of (grouped_of parts).sources) (numbers passes.columns.items) passes.used.items
  pub key_is : passes.groups.key.items ≡ key_columns (grouped_of parts)
  pub values_are : passes.groups.values.items ≡ value_columns (grouped_of parts)
  -- the pipelines, whose last one's rows can go into groups
  pub of : ArePipelinesOf before kept passes.pipelines.items
  pub keyed : sum_by (size nodes nodes_of) passes.pipelines.items + sum_by keys_built passes.pipelines.items ≤ query_size nodes nodes_of before
  pub short : IsShort before → AreShort passes.pipelines.items
  pub groups_can : LastSelects (λ items. CanGroup (group_over (length passes.pipelines.items) passes.groups.key.items passes.groups.values.items items)) (map pipeline_of passes.pipelines.items)
  -- and what is behind them
  pub behind_is : IsBehind (grouped_of parts) (pipeline_of passes.behind)
  pub alone : keys_sought passes.behind + (keys_built passes.behind + lookups passes.behind) ≡ 0
  pub small : size nodes nodes_of passes.behind ≤ sum_by nodes_of parts.having + sum_by nodes parts.items
  -- the texts, among which are all of these
  pub texts_are : passes.texts.items ≡ texts_of_grouped parts
  pub utf8 : AllByRecursion IsUtf8 passes.texts.items
  pub among : AllByRecursion (Contains (texts_of_grouped parts)) (query_texts (passes.pipelines.items ++ passes.behind ∷ []))
