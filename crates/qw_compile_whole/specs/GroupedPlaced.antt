-- What the blocks of a grouped query's pipelines rest on, and what is emitted for them one after another.
use Rattle.std.specs.Prelude.{◌≡◌, ◌≤◌, ℕ, ◌+◌, ◌-◌, Option, Some, List, [], ◌∷◌, ◌++◌, length, map}
use Rattle.qw_types.specs.declared.kind.Kind.{Kind}
use Rattle.qw_module.specs.declared.instruction.ValType.{ValType}
use Rattle.qw_scalar.specs.Expression.{Expression}
use Rattle.qw_scalar.specs.Typing.{kind_of}
use Rattle.qw_low.specs.declared.step.LowStep.{LowStep}
use Rattle.qw_low.specs.Steps.{steps_of}
use Rattle.qw_low.specs.Syntax.{Statement, seq}
use Rattle.qw_feed.specs.Cells.{kinds_of}
use Rattle.qw_feed.specs.Rows.{begin_block, finish_block}
use Rattle.qw_table.specs.Joins.{sources_of}
use Rattle.qw_table.specs.declared.key.Field.{Field}
use Rattle.qw_physical.specs.Physical.{Operator, Pipeline, Sink, build, select}
use Rattle.qw_physical.specs.declared.pipeline.ReadColumn.{ReadColumn}
use Rattle.qw_operator.specs.Carries.{directory, result_kinds}
use Rattle.qw_operator.specs.Takes.{CanCarry}
use Rattle.qw_operator.specs.Grouping.{CanGroup, Group}
use Rattle.qw_group_pipeline.specs.Groups.{IsGroupPipeline, all_anywhere}
use Rattle.qw_group_pipeline.specs.declared.columns.ValueColumn.{ValueColumn}
use Rattle.qw_compile.specs.Placed.{known_over, literals_placed}
use Rattle.qw_compile.specs.QueryLocals.{readers_over}
use Rattle.qw_compile.specs.Statements.{AreCourses, Course, builds_block, course_block}
use Rattle.qw_compile.specs.declared.courses.Places.{Places}
use Rattle.qw_compile_whole.specs.GuardedStatements.{IsGatheringBy, gather_block, guard_for}

-- a pipeline over an entry of FROM, whose rows go into groups, as one that would make a result of their values
abbrev pub gathering_of : (entry : ℕ) → List Operator → Group → Pipeline
gathering_of entry operators g = record { entry = entry; table = 0; operators = operators; sink = select g.values }

-- its expressions take only what is known, and a column tells how many rows its entry has
pub record CanGather (p : Places) (entry : ℕ) (operators : List Operator) (g : Group) : Type 0 where
  pub some : 1 ≤ length (readers_over entry p.readers.items)
  pub takes : CanCarry (known_over p entry) operators (select g.values)
  pub groups : CanGroup g

-- the expressions behind it take only the grouped table's columns and literals
abbrev pub CanWalk : Places → List ReadColumn → List ValueColumn → Pipeline → Type 0
CanWalk p key values behind = CanCarry (all_anywhere key values ++ literals_placed p) behind.operators behind.sink

-- the scan of such a pipeline was added to a block, and the types of its own locals to others; where there is a local for it, rows are counted
pub record EmitsGathering (guard : Option ℕ) (p : Places) (first entry : ℕ) (operators : List Operator) (g : Group) (old new : List LowStep) (own_old own_new : List ValType) : Type 0 where
  pub course : Course
  pub fields : List Field
  pub own : List ValType
  pub code_is : new ≡ old ++ steps_of (course_block p.tables course)
  pub own_is : own_new ≡ own_old ++ own
  pub kinds : kinds_of (sources_of fields) ≡ map kind_of g.values
  pub is : IsGatheringBy guard (literals_placed p) p.readers.items (first + length own_old) (gathering_of entry operators g) g fields course own

-- the walk over the groups was added to a block, and the types of its own locals to others
pub record EmitsWalk (p : Places) (first table : ℕ) (key : List ReadColumn) (values : List ValueColumn) (behind : Pipeline) (old new : List LowStep) (own_old own_new : List ValType) : Type 0 where
  pub walk : Statement
  pub own : List ValType
  pub code_is : new ≡ old ++ steps_of walk
  pub own_is : own_new ≡ own_old ++ own
  pub is : IsGroupPipeline (literals_placed p) (directory table) (first + length own_old) key values behind.operators behind.sink walk own

-- The blocks of pipelines that build tables of joins, and of the one behind them whose rows go into groups, and the types of their own locals. Where there is a
-- local for it, rows are counted.
pub record EmitsFront (guard : Option ℕ) (p : Places) (first : ℕ) (building : List Pipeline) (entry : ℕ) (operators : List Operator) (g : Group) (code : List LowStep) (own : List ValType) : Type 0 where
  pub builds : List Course
  pub gathers : Course
  pub fields : List Field
  pub builds_own : List ValType
  pub gathers_own : List ValType
  pub code_is : code ≡ steps_of (seq (builds_block p.tables 0 builds) (gather_block guard p.tables g.table gathers))
  pub own_is : own ≡ builds_own ++ gathers_own
  pub built : AreCourses (literals_placed p) p.readers.items first building builds builds_own
  pub gathered : IsGatheringBy guard (literals_placed p) p.readers.items (first + length builds_own) (gathering_of entry operators g) g fields gathers gathers_own
  pub field_kinds : kinds_of (sources_of fields) ≡ map kind_of g.values

-- the blocks of a grouped query were added, the last of which makes the result, in cells of these kinds
pub record EmitsGrouped (guard : Option ℕ) (p : Places) (first : ℕ) (building : List Pipeline) (entry : ℕ) (operators : List Operator) (g : Group) (key : List ReadColumn) (values : List ValueColumn) (behind : Pipeline) (code : List LowStep) (own : List ValType) (kinds : List Kind) : Type 0 where
  pub builds : List Course
  pub gathers : Course
  pub walk : Statement
  pub fields : List Field
  pub builds_own : List ValType
  pub gathers_own : List ValType
  pub walk_own : List ValType
  pub code_is : code ≡ steps_of (seq (builds_block p.tables 0 builds) (seq (gather_block guard p.tables g.table gathers) (seq begin_block (seq walk finish_block))))
  pub own_is : own ≡ builds_own ++ (gathers_own ++ walk_own)
  pub built : AreCourses (literals_placed p) p.readers.items first building builds builds_own
  pub gathered : IsGatheringBy guard (literals_placed p) p.readers.items (first + length builds_own) (gathering_of entry operators g) g fields gathers gathers_own
  pub field_kinds : kinds_of (sources_of fields) ≡ map kind_of g.values
  pub walked : IsGroupPipeline (literals_placed p) (directory g.table) (first + length builds_own + length gathers_own) key values behind.operators behind.sink walk walk_own
  pub kinds_are : map Some kinds ≡ result_kinds behind.sink

-- ---- pipelines whose last one makes rows
abbrev pub Selects : (List Expression → Type 0) → Sink → Type 0
Selects P (build b) = ⊥
Selects P (select items) = P items

-- something holds of the items of the last one
abbrev pub LastSelects : (List Expression → Type 0) → List Pipeline → Type 0
LastSelects P [] = ⊥
LastSelects P (p ∷ []) = Selects P p.sink
LastSelects P (p ∷ q ∷ ps) = LastSelects P (q ∷ ps)

-- the table of groups of the rows of so many pipelines, whose last one makes rows of these items
abbrev pub group_over : (pipelines : ℕ) → List ReadColumn → List ValueColumn → (items : List Expression) → Group
group_over n key values items = record { table = n - 1; columns = length key; functions = map (λ (v : ValueColumn). v.function) values; values = items }

-- What was emitted of them, and of what is behind. Rows that go into groups are counted where there are three pipelines or more, and set functions.
pub record EmitsParts (p : Places) (first : ℕ) (pipelines : List Pipeline) (key : List ReadColumn) (values : List ValueColumn) (behind : Pipeline) (code : List LowStep) (own : List ValType) (kinds : List Kind) : Type 0 where
  pub building : List Pipeline
  pub gathering : Pipeline
  pub pipelines_are : pipelines ≡ building ++ gathering ∷ []
  pub group : Group
  pub table_is : group.table ≡ length building
  pub columns_is : group.columns ≡ length key
  pub functions_are : group.functions ≡ map (λ (v : ValueColumn). v.function) values
  pub values_are : gathering.sink ≡ select group.values
  pub emitted : EmitsGrouped (guard_for (length pipelines) (length values)) p first building gathering.entry gathering.operators group key values behind code own kinds
