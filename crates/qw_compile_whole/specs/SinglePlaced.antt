-- What is emitted, one after another, for the pipelines of a query with set functions and no GROUP BY.
use Rattle.std.specs.Prelude.{◌≡◌, ℕ, ◌+◌, Option, Some, List, [], ◌∷◌, ◌++◌, length, map}
use Rattle.qw_types.specs.declared.kind.Kind.{Kind}
use Rattle.qw_module.specs.declared.instruction.ValType.{ValType}
use Rattle.qw_scalar.specs.Typing.{kind_of}
use Rattle.qw_low.specs.declared.step.LowStep.{LowStep}
use Rattle.qw_low.specs.Steps.{steps_of}
use Rattle.qw_low.specs.Syntax.{Statement, seq}
use Rattle.qw_feed.specs.Cells.{kinds_of}
use Rattle.qw_feed.specs.Rows.{begin_block, finish_block}
use Rattle.qw_table.specs.Joins.{sources_of}
use Rattle.qw_table.specs.declared.key.Field.{Field}
use Rattle.qw_physical.specs.Physical.{Operator, Pipeline, select}
use Rattle.qw_operator.specs.Carries.{directory, result_kinds}
use Rattle.qw_operator.specs.Takes.{CanCarry}
use Rattle.qw_operator.specs.Grouping.{Group}
use Rattle.qw_group_pipeline.specs.Groups.{InSink, IsOneRow, all_anywhere}
use Rattle.qw_group_pipeline.specs.declared.columns.ValueColumn.{ValueColumn}
use Rattle.qw_compile.specs.Placed.{literals_placed}
use Rattle.qw_compile.specs.Statements.{AreCourses, Course, builds_block}
use Rattle.qw_compile.specs.declared.courses.Places.{Places}
use Rattle.qw_compile_whole.specs.GroupedPlaced.{gathering_of}
use Rattle.qw_compile_whole.specs.GuardedSingles.{IsTakingBy, take_block_by}
use Rattle.qw_compile_whole.specs.GuardedStatements.{guard_for}

-- the expressions behind the one group take only its row's columns and literals
abbrev pub CanMake : Places → List ValueColumn → Pipeline → Type 0
CanMake p values behind = CanCarry (all_anywhere [] values ++ literals_placed p) behind.operators behind.sink

-- The areas, and the scan of a pipeline whose rows they take, were added to a block, and the types of its own locals to others. Where there is a local for it, rows
-- are counted.
pub record EmitsTaking (guard : Option ℕ) (p : Places) (first entry : ℕ) (operators : List Operator) (g : Group) (old new : List LowStep) (own_old own_new : List ValType) : Type 0 where
  pub course : Course
  pub fields : List Field
  pub own : List ValType
  pub code_is : new ≡ old ++ steps_of (take_block_by guard p.tables g.table (length g.functions) course)
  pub own_is : own_new ≡ own_old ++ own
  pub kinds : kinds_of (sources_of fields) ≡ map kind_of g.values
  pub is : IsTakingBy guard (literals_placed p) p.readers.items (first + length own_old) (gathering_of entry operators g) g fields course own

-- what makes the row of the one group was added to a block, and the types of its own locals to others
pub record EmitsOne (p : Places) (first table : ℕ) (values : List ValueColumn) (behind : Pipeline) (old new : List LowStep) (own_old own_new : List ValType) : Type 0 where
  pub one : Statement
  pub own : List ValType
  pub code_is : new ≡ old ++ steps_of one
  pub own_is : own_new ≡ own_old ++ own
  pub is : IsOneRow (InSink behind.operators behind.sink) (literals_placed p) (directory table) (first + length own_old) values one own

-- the blocks of a query without GROUP BY were added, the last of which makes the result, in cells of these kinds
pub record EmitsSingle (guard : Option ℕ) (p : Places) (first : ℕ) (building : List Pipeline) (entry : ℕ) (operators : List Operator) (g : Group) (values : List ValueColumn) (behind : Pipeline) (code : List LowStep) (own : List ValType) (kinds : List Kind) : Type 0 where
  pub builds : List Course
  pub takes : Course
  pub one : Statement
  pub fields : List Field
  pub builds_own : List ValType
  pub takes_own : List ValType
  pub one_own : List ValType
  pub code_is : code ≡ steps_of (seq (builds_block p.tables 0 builds) (seq (take_block_by guard p.tables g.table (length g.functions) takes) (seq begin_block (seq one finish_block))))
  pub own_is : own ≡ builds_own ++ (takes_own ++ one_own)
  pub built : AreCourses (literals_placed p) p.readers.items first building builds builds_own
  pub taken : IsTakingBy guard (literals_placed p) p.readers.items (first + length builds_own) (gathering_of entry operators g) g fields takes takes_own
  pub field_kinds : kinds_of (sources_of fields) ≡ map kind_of g.values
  pub made : IsOneRow (InSink behind.operators behind.sink) (literals_placed p) (directory g.table) (first + length builds_own + length takes_own) values one one_own
  pub kinds_are : map Some kinds ≡ result_kinds behind.sink

-- What was emitted of pipelines whose last one makes rows, and of what is behind. Rows are counted where there are three pipelines or more, and set functions.
pub record EmitsSingleParts (p : Places) (first : ℕ) (pipelines : List Pipeline) (values : List ValueColumn) (behind : Pipeline) (code : List LowStep) (own : List ValType) (kinds : List Kind) : Type 0 where
  pub building : List Pipeline
  pub taking : Pipeline
  pub pipelines_are : pipelines ≡ building ++ taking ∷ []
  pub group : Group
  pub table_is : group.table ≡ length building
  pub no_columns : group.columns ≡ 0
  pub functions_are : group.functions ≡ map (λ (v : ValueColumn). v.function) values
  pub values_are : taking.sink ≡ select group.values
  pub emitted : EmitsSingle (guard_for (length pipelines) (length values)) p first building taking.entry taking.operators group values behind code own kinds
