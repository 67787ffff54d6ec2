-- The statement of a grouped query's module: of the pipelines of its well placed plan of what reaches GROUP BY, and of HAVING and the select list behind them, over
-- the columns that it reads, with its literals.
use Rattle.std.specs.Prelude.{◌≡◌, Contains, List, [], ◌∷◌, ◌++◌, length}
use Rattle.std.specs.List.{AllByRecursion}
use Rattle.qw_module.specs.declared.instruction.ValType.{ValType}
use Rattle.qw_meaning.specs.Query.{QueryParts, query_of}
use Rattle.qw_meaning.specs.Select.{entries_of}
use Rattle.qw_grouped.specs.Grouped.{front}
use Rattle.qw_grouped.specs.Query.{GroupedParts, grouped_of}
use Rattle.qw_map.specs.Layout.{Layout}
use Rattle.qw_map.specs.declared.layout.Used.{Used}
use Rattle.qw_low.specs.declared.step.LowStep.{LowStep}
use Rattle.qw_physical.specs.Coded.{pipeline_of}
use Rattle.qw_physical.specs.Named.{numbers}
use Rattle.qw_physical.specs.declared.pipeline.Pipeline.{Pipeline}
use Rattle.qw_physical.specs.declared.pipeline.ReadColumn.{ReadColumn}
use Rattle.qw_operator.specs.Grouping.{Group}
use Rattle.qw_compile.specs.QueryColumns.{AreColumnsOf}
use Rattle.qw_compile.specs.QueryLiterals.{query_texts}
use Rattle.qw_compile.specs.QueryPasses.{ArePipelinesOf}
use Rattle.qw_compile.specs.UsedColumns.{AreUsedAt}
use Rattle.qw_compile.specs.WrittenTexts.{texts_of_query}
use Rattle.qw_compile_whole.specs.GroupColumns.{IsBehind, key_columns, value_columns}
use Rattle.qw_compile_whole.specs.GroupedMade.{IsGroupedMade}
use Rattle.qw_compile_whole.specs.WholeTexts.{front_texts, texts_of_grouped}

-- made as is said of the pipelines, of the group that their rows go into, of what is behind it, and of the columns and their places
pub record IsPlannedOf (parts : GroupedParts) (IsMade : (ps : List Pipeline) → Group → (behind : Pipeline) → (columns : List ReadColumn) → List Used → Type 0) : Type 0 where
  -- what reaches GROUP BY, or the set functions where there is none
  pub before : QueryParts
  pub before_is : query_of before ≡ front (grouped_of parts)
  pub before_texts : texts_of_query before ≡ front_texts parts
  -- the columns that it names, and those that it reads, with their places in the layout
  pub kept : List ReadColumn
  pub columns : List ReadColumn
  pub are : AreColumnsOf before kept columns
  pub used : List Used
  pub used_at : AreUsedAt (entries_of (grouped_of parts).sources) (numbers columns) used
  -- its pipelines, and what is behind them
  pub ps : List Pipeline
  pub of : ArePipelinesOf before kept ps
  pub behind : Pipeline
  pub behind_is : IsBehind (grouped_of parts) (pipeline_of behind)
  -- all texts of which are among the query's
  pub among : AllByRecursion (Contains (texts_of_grouped parts)) (query_texts (ps ++ behind ∷ []))
  -- and what is made of them
  pub group : Group
  pub made : IsMade ps group behind columns used

-- of as many tables as there are such pipelines
abbrev pub IsStatementOf : GroupedParts → Layout → (code : List LowStep) → (locals : List ValType) → Type 0
IsStatementOf parts layout code locals =
    IsPlannedOf parts (λ ps group behind columns used. IsGroupedMade (length ps) (texts_of_grouped parts) ps group (key_columns (grouped_of parts)) (value_columns (grouped_of parts)) behind columns used layout code locals)
