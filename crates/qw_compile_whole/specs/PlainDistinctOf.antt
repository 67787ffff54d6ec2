-- The statement of the module of a query with DISTINCT that isn't grouped (ISO/IEC 9075:1992, 7.9): the rows of the last pipeline of its well placed plan go into
-- a table of groups over all their columns, and the walk over that one makes a row of each key.
use Rattle.std.specs.Prelude.{◌≡◌, Contains, List, [], ◌∷◌, ◌++◌, length}
use Rattle.std.specs.List.{AllByRecursion}
use Rattle.qw_module.specs.declared.instruction.ValType.{ValType}
use Rattle.qw_meaning.specs.Query.{QueryParts, query_of}
use Rattle.qw_meaning.specs.Select.{entries_of}
use Rattle.qw_map.specs.Layout.{Layout}
use Rattle.qw_map.specs.declared.layout.Used.{Used}
use Rattle.qw_low.specs.declared.step.LowStep.{LowStep}
use Rattle.qw_physical.specs.Coded.{pipeline_of}
use Rattle.qw_physical.specs.Named.{numbers}
use Rattle.qw_physical.specs.Physical.{filter, select}
use Rattle.qw_physical.specs.declared.pipeline.Pipeline.{Pipeline}
use Rattle.qw_physical.specs.declared.pipeline.ReadColumn.{ReadColumn}
use Rattle.qw_operator.specs.Grouping.{Group}
use Rattle.qw_compile.specs.QueryColumns.{AreColumnsOf}
use Rattle.qw_compile.specs.QueryLiterals.{query_texts}
use Rattle.qw_compile.specs.QueryPasses.{ArePipelinesOf}
use Rattle.qw_compile.specs.UsedColumns.{AreUsedAt}
use Rattle.qw_compile.specs.WrittenTexts.{texts_of_query}
use Rattle.qw_compile_whole.specs.GroupColumns.{key_from}
use Rattle.qw_compile_whole.specs.GroupedMade.{IsGroupedMade}
use Rattle.qw_compile_whole.specs.WholeDistinct.{distinct_columns, distinct_grouping}

pub record IsPlainDistinctOf (parts : QueryParts) (layout : Layout) (code : List LowStep) (locals : List ValType) : Type 0 where
  -- the columns that it names, and those that it reads, with their places in the layout
  pub kept : List ReadColumn
  pub columns : List ReadColumn
  pub are : AreColumnsOf parts kept columns
  pub used : List Used
  pub used_at : AreUsedAt (entries_of (query_of parts).sources) (numbers columns) used
  -- its pipelines, and behind them what makes a row of each key
  pub ps : List Pipeline
  pub of : ArePipelinesOf parts kept ps
  pub behind : Pipeline
  pub operators_are : (pipeline_of behind).operators ≡ filter [] ∷ []
  pub sink_is : (pipeline_of behind).sink ≡ select (distinct_grouping (query_of parts)).items
  -- all texts of which are among the query's
  pub among : AllByRecursion (Contains (texts_of_query parts)) (query_texts (ps ++ behind ∷ []))
  -- and their statement, of as many tables as there are such pipelines, without set functions
  pub group : Group
  pub made : IsGroupedMade (length ps) (texts_of_query parts) ps group (key_from 0 (distinct_columns 0 (query_of parts).items)) [] behind columns used layout code locals
