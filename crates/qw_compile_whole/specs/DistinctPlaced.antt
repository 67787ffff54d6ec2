-- What is emitted, one after another, for the pipelines of a grouped query with DISTINCT (ISO/IEC 9075:1992, 7.9).
use Rattle.std.specs.Prelude.{◌≡◌, ℕ, ◌+◌, Option, Some, List, [], ◌∷◌, ◌++◌, length, map}
use Rattle.qw_types.specs.declared.kind.Kind.{Kind}
use Rattle.qw_module.specs.declared.instruction.ValType.{ValType}
use Rattle.qw_scalar.specs.Typing.{kind_of}
use Rattle.qw_low.specs.declared.step.LowStep.{LowStep}
use Rattle.qw_low.specs.Steps.{steps_of}
use Rattle.qw_low.specs.Syntax.{Statement, seq}
use Rattle.qw_feed.specs.Cells.{kinds_of}
use Rattle.qw_feed.specs.Rows.{begin_block, finish_block}
use Rattle.qw_table.specs.Joins.{sources_of}
use Rattle.qw_table.specs.Tables.{directory_block}
use Rattle.qw_table.specs.declared.key.Field.{Field}
use Rattle.qw_physical.specs.Physical.{Operator, Pipeline, select}
use Rattle.qw_physical.specs.declared.pipeline.ReadColumn.{ReadColumn}
use Rattle.qw_operator.specs.Carries.{directory, result_kinds}
use Rattle.qw_operator.specs.Takes.{CanCarry}
use Rattle.qw_operator.specs.Grouping.{CanGroup, Group}
use Rattle.qw_group_pipeline.specs.Groups.{Grouping, InEnd, IsGroupPipeline, IsGroupPipelineTo, all_anywhere}
use Rattle.qw_group_pipeline.specs.declared.columns.ValueColumn.{ValueColumn}
use Rattle.qw_compile.specs.Placed.{literals_placed}
use Rattle.qw_compile.specs.Statements.{AreCourses, Course, builds_block}
use Rattle.qw_compile.specs.declared.courses.Places.{Places}
use Rattle.qw_compile_whole.specs.GroupedPlaced.{gathering_of}
use Rattle.qw_compile_whole.specs.GuardedStatements.{IsGatheringBy, gather_block, guard_for}

-- The expressions behind the groups take only the grouped table's columns and literals, and their rows can go into another table of groups.
pub record CanEnter (p : Places) (key : List ReadColumn) (values : List ValueColumn) (operators : List Operator) (into : Group) : Type 0 where
  pub takes : CanCarry (all_anywhere key values ++ literals_placed p) operators (select into.values)
  pub groups : CanGroup into

-- the walk over the groups was added to a block, whose rows go into another table of groups, and the types of its own locals to others
pub record EmitsEnter (p : Places) (first table : ℕ) (key : List ReadColumn) (values : List ValueColumn) (operators : List Operator) (into : Group) (old new : List LowStep) (own_old own_new : List ValType) : Type 0 where
  pub enters : Statement
  pub fields : List Field
  pub own : List ValType
  pub code_is : new ≡ old ++ steps_of enters
  pub own_is : own_new ≡ own_old ++ own
  pub kinds : kinds_of (sources_of fields) ≡ map kind_of into.values
  pub is : IsGroupPipelineTo (InEnd (Grouping fields into) operators) (literals_placed p) (directory table) (first + length own_old) key values enters own

-- All of it: the first table is walked over into the second one, `into`, and what `again` does at its keys makes the result.
pub record EmitsDistinct (guard : Option ℕ) (p : Places) (first : ℕ) (building : List Pipeline) (entry : ℕ) (operators : List Operator) (g : Group) (key : List ReadColumn) (values : List ValueColumn) (behind : List Operator) (into : Group)
    (key_again : List ReadColumn) (values_again : List ValueColumn) (again : Pipeline) (code : List LowStep) (own : List ValType) (kinds : List Kind) : Type 0 where
  pub builds : List Course
  pub gathers : Course
  pub enters : Statement
  pub walk : Statement
  pub fields : List Field
  pub into_fields : List Field
  pub builds_own : List ValType
  pub gathers_own : List ValType
  pub enters_own : List ValType
  pub walk_own : List ValType
  pub code_is : code ≡ steps_of (seq (builds_block p.tables 0 builds) (seq (gather_block guard p.tables g.table gathers) (seq (directory_block (directory into.table)) (seq enters (seq begin_block (seq walk finish_block))))))
  pub own_is : own ≡ builds_own ++ (gathers_own ++ (enters_own ++ walk_own))
  pub built : AreCourses (literals_placed p) p.readers.items first building builds builds_own
  pub gathered : IsGatheringBy guard (literals_placed p) p.readers.items (first + length builds_own) (gathering_of entry operators g) g fields gathers gathers_own
  pub field_kinds : kinds_of (sources_of fields) ≡ map kind_of g.values
  pub entered : IsGroupPipelineTo (InEnd (Grouping into_fields into) behind) (literals_placed p) (directory g.table) (first + length builds_own + length gathers_own) key values enters enters_own
  pub into_kinds : kinds_of (sources_of into_fields) ≡ map kind_of into.values
  pub walked : IsGroupPipeline (literals_placed p) (directory into.table) (first + length builds_own + length gathers_own + length enters_own) key_again values_again again.operators again.sink walk walk_own
  pub kinds_are : map Some kinds ≡ result_kinds again.sink

-- What was emitted of pipelines whose last one makes rows, of what is behind their groups, and of what is done at the distinct rows. The table of these is behind
-- that of the groups, and all their values are its key.
pub record EmitsDistinctParts (p : Places) (first : ℕ) (pipelines : List Pipeline) (key : List ReadColumn) (values : List ValueColumn) (behind : Pipeline) (key_again : List ReadColumn) (values_again : List ValueColumn) (again : Pipeline)
    (code : List LowStep) (own : List ValType) (kinds : List Kind) : Type 0 where
  pub building : List Pipeline
  pub gathering : Pipeline
  pub pipelines_are : pipelines ≡ building ++ gathering ∷ []
  pub group : Group
  pub into : Group
  pub table_is : group.table ≡ length building
  pub columns_is : group.columns ≡ length key
  pub functions_are : group.functions ≡ map (λ (v : ValueColumn). v.function) values
  pub values_are : gathering.sink ≡ select group.values
  pub into_table : into.table ≡ length building + 1
  pub into_columns : into.columns ≡ length into.values
  pub into_functions : into.functions ≡ []
  pub into_values : behind.sink ≡ select into.values
  pub emitted : EmitsDistinct (guard_for (length pipelines) (length values)) p first building gathering.entry gathering.operators group key values behind.operators into key_again values_again again code own kinds
