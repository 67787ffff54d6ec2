-- The statement of the module of a grouped query with DISTINCT: of the pipelines of its well placed plan of what reaches GROUP BY, of HAVING and the select list
-- behind them, and of the distinct rows, over the columns that it reads, with its literals (ISO/IEC 9075:1992, 7.7 to 7.9).
use Rattle.std.specs.Prelude.{◌≡◌, ◌+◌, Contains, List, [], ◌∷◌, ◌++◌, length, map}
use Rattle.std.specs.List.{AllByRecursion}
use Rattle.qw_module.specs.declared.instruction.ValType.{ValType}
use Rattle.qw_scalar.specs.Expression.{Expression}
use Rattle.qw_meaning.specs.Query.{QueryParts, query_of}
use Rattle.qw_meaning.specs.Select.{entries_of}
use Rattle.qw_grouped.specs.Grouped.{expression_of_column, front}
use Rattle.qw_grouped.specs.Query.{GroupedParts, grouped_of}
use Rattle.qw_map.specs.Layout.{Layout}
use Rattle.qw_map.specs.declared.layout.Used.{Used}
use Rattle.qw_low.specs.declared.step.LowStep.{LowStep}
use Rattle.qw_physical.specs.Coded.{pipeline_of}
use Rattle.qw_physical.specs.Named.{numbers}
use Rattle.qw_physical.specs.Physical as physical
use Rattle.qw_physical.specs.declared.pipeline.Pipeline.{Pipeline}
use Rattle.qw_physical.specs.declared.pipeline.ReadColumn.{ReadColumn}
use Rattle.qw_compile.specs.QueryColumns.{AreColumnsOf}
use Rattle.qw_compile.specs.QueryLiterals.{query_texts}
use Rattle.qw_compile.specs.QueryPasses.{ArePipelinesOf}
use Rattle.qw_compile.specs.UsedColumns.{AreUsedAt}
use Rattle.qw_compile.specs.WrittenTexts.{texts_of_query}
use Rattle.qw_compile_whole.specs.DistinctMade.{IsDistinctMade}
use Rattle.qw_compile_whole.specs.GroupColumns.{IsBehind, key_columns, key_from, value_columns}
use Rattle.qw_compile_whole.specs.WholeDistinct.{distinct_columns}
use Rattle.qw_compile_whole.specs.WholeTexts.{front_texts, texts_of_grouped}

-- what is done at the keys of a table over all values of these items: each makes a row of its own values
pub record IsAgain (items : List Expression) (again : physical.Pipeline) : Type 0 where
  pub operators_are : again.operators ≡ physical.filter [] ∷ []
  pub sink_is : again.sink ≡ physical.select (map expression_of_column (distinct_columns 0 items))

pub record IsDistinctOf (parts : GroupedParts) (layout : Layout) (code : List LowStep) (locals : List ValType) : Type 0 where
  -- what reaches GROUP BY
  pub before : QueryParts
  pub before_is : query_of before ≡ front (grouped_of parts)
  pub before_texts : texts_of_query before ≡ front_texts parts
  -- the columns that it names, and those that it reads, with their places in the layout
  pub kept : List ReadColumn
  pub columns : List ReadColumn
  pub are : AreColumnsOf before kept columns
  pub used : List Used
  pub used_at : AreUsedAt (entries_of (grouped_of parts).sources) (numbers columns) used
  -- its pipelines, what is behind them, and what is done at the distinct rows
  pub ps : List Pipeline
  pub of : ArePipelinesOf before kept ps
  pub behind : Pipeline
  pub behind_is : IsBehind (grouped_of parts) (pipeline_of behind)
  pub again : Pipeline
  pub again_is : IsAgain (grouped_of parts).items (pipeline_of again)
  -- all texts of which are among the query's
  pub among : AllByRecursion (Contains (texts_of_grouped parts)) (query_texts (ps ++ behind ∷ []))
  -- and their statement, of one table more than there are such pipelines
  pub made : IsDistinctMade (length ps + 1) (texts_of_grouped parts) ps (key_columns (grouped_of parts)) (value_columns (grouped_of parts)) behind (key_from 0 (distinct_columns 0 (grouped_of parts).items)) [] again columns used layout code locals
