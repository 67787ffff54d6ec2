-- What is made of a query's texts, of the pipelines of what reaches its groups, and of what is behind them: the literals that all rest on, their statement,
-- its locals, and its layout.
use Rattle.std.specs.Prelude.{◌≡◌, ℕ, ◌+◌, Some, List, [], ◌∷◌, ◌++◌, length, map, IsUtf8}
use Rattle.std.specs.List.{AllByRecursion, concat}
use Rattle.qw_module.specs.declared.instruction.ValType.{ValType}
use Rattle.qw_map.specs.Layout.{Layout, descriptor_size}
use Rattle.qw_map.specs.declared.layout.Used.{Used}
use Rattle.qw_low.specs.declared.step.LowStep.{LowStep}
use Rattle.qw_low.specs.Steps.{steps_of}
use Rattle.qw_low.specs.Syntax.{Statement}
use Rattle.qw_feed.specs.Cells.{kinds_of}
use Rattle.qw_scalar.specs.Typing.{kind_of}
use Rattle.qw_read.specs.Constants.{SetsAll}
use Rattle.qw_read.specs.Texts.{LeadsToAll}
use Rattle.qw_table.specs.Joins.{sources_of}
use Rattle.qw_table.specs.declared.key.Field.{Field}
use Rattle.qw_physical.specs.Coded.{pipeline_of}
use Rattle.qw_physical.specs.Physical as physical
use Rattle.qw_physical.specs.declared.pipeline.Pipeline.{Pipeline}
use Rattle.qw_physical.specs.declared.pipeline.ReadColumn.{ReadColumn}
use Rattle.qw_operator.specs.Carries.{directory, result_kinds}
use Rattle.qw_operator.specs.Grouping.{Group}
use Rattle.qw_group_pipeline.specs.Groups.{IsGroupPipeline}
use Rattle.qw_group_pipeline.specs.declared.columns.ValueColumn.{ValueColumn}
use Rattle.qw_compile.specs.QueryLiterals.{query_words}
use Rattle.qw_compile.specs.QueryLocals.{own_start, query_locals}
use Rattle.qw_compile.specs.QueryMade.{literal_locals, literals_by, readers_by, texts_by, words_by}
use Rattle.qw_compile.specs.Statements.{AreCourses, Course}
use Rattle.qw_compile_whole.specs.GuardedStatements.{IsGatheringBy, guard_for, guarded_block_of}

-- `ps` are the pipelines of what reaches the groups, the last of which would make a result of the values of `group`; `behind` has what is done at the rows of
-- the grouped table, its operators and its sink alone (no entry of FROM is scanned there); `key` and `values` are the grouped table's columns. There are so
-- many tables in all: those of the joins, that of the groups, and others that this part of the module leaves alone.
pub record IsGroupedMade (tables : ℕ) (texts : List (List ℕ)) (ps : List Pipeline) (group : Group) (key : List ReadColumn) (values : List ValueColumn) (behind : Pipeline) (columns : List ReadColumn) (used : List Used) (layout : Layout) (code : List LowStep) (locals : List ValType) : Type 0 where
  pub building : List physical.Pipeline
  pub gathering : physical.Pipeline
  pub pipelines_are : map pipeline_of ps ≡ building ++ gathering ∷ []
  pub leads : Statement
  pub sets : Statement
  pub builds : List Course
  pub gathers : Course
  pub walk : Statement
  pub fields : List Field
  pub builds_own : List ValType
  pub gathers_own : List ValType
  pub walk_own : List ValType
  pub table_is : group.table ≡ length building
  pub columns_is : group.columns ≡ length key
  pub functions_are : group.functions ≡ map (λ (v : ValueColumn). v.function) values
  pub values_are : gathering.sink ≡ physical.select group.values
  pub code_is : code ≡ steps_of (guarded_block_of (guard_for (length ps) (length values)) tables (descriptor_size layout) leads sets builds (length building) gathers walk)
  pub locals_are : locals ≡ query_locals tables (length texts) (length (query_words (ps ++ behind ∷ []))) columns (builds_own ++ (gathers_own ++ walk_own))
  pub leads_all : LeadsToAll (texts_by tables (length columns) texts) leads
  pub sets_all : SetsAll (words_by tables texts (ps ++ behind ∷ [])) sets
  pub built : AreCourses (literals_by tables (length columns) texts (ps ++ behind ∷ [])) (readers_by tables texts (ps ++ behind ∷ []) columns) (own_start tables (literal_locals texts (ps ++ behind ∷ [])) (length columns)) building builds builds_own
  pub gathered : IsGatheringBy (guard_for (length ps) (length values)) (literals_by tables (length columns) texts (ps ++ behind ∷ [])) (readers_by tables texts (ps ++ behind ∷ []) columns) (own_start tables (literal_locals texts (ps ++ behind ∷ [])) (length columns) + length builds_own) gathering group fields gathers gathers_own
  pub field_kinds : kinds_of (sources_of fields) ≡ map kind_of group.values
  pub walked : IsGroupPipeline (literals_by tables (length columns) texts (ps ++ behind ∷ [])) (directory (length building)) (own_start tables (literal_locals texts (ps ++ behind ∷ [])) (length columns) + length builds_own + length gathers_own) key values (pipeline_of behind).operators (pipeline_of behind).sink walk walk_own
  pub columns_are : layout.columns ≡ used
  pub octets_are : layout.literals ≡ concat texts
  pub kinds_are : map Some layout.cells ≡ result_kinds (pipeline_of behind).sink
  pub utf8 : AllByRecursion IsUtf8 texts
