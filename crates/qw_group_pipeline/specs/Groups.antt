-- What the block of a pipeline is made of that begins at a table of groups (ISO/IEC 9075:1992, 7.7 to 7.9): a walk over the groups, at each the reads of the
-- columns of the grouped table, which are those of the key and behind them the values of the set functions, and within them HAVING and the select list.
use Rattle.std.specs.Prelude.{◌≡◌, ℕ, ◌+◌, ◌*◌, max, Some, None, List, [], ◌∷◌, ◌++◌, length, map}
use Rattle.qw_types.specs.Kind.{type_kind}
use Rattle.qw_types.specs.Value.{type_scale}
use Rattle.qw_module.specs.declared.instruction.ValType.{ValType}
use Rattle.qw_module.specs.declared.instruction.ValType.TheVariants.{I32}
use Rattle.qw_layout.specs.Row.{cell_offset}
use Rattle.qw_scalar.specs.Expression.{column}
use Rattle.qw_grouped.specs.declared.set_function.SetFunctionKind.{SetFunctionKind}
use Rattle.qw_low.specs.Steps.{steps_of}
use Rattle.qw_low.specs.Syntax.{Statement, skip, seq}
use Rattle.qw_expr.specs.Computes.{Known}
use Rattle.qw_expr.specs.Emits.{free_of}
use Rattle.qw_expr.specs.declared.emitter.Emitter.{Emitter}
use Rattle.qw_read.specs.Reading.{most_of}
use Rattle.qw_table.specs.Entries.{cell_from}
use Rattle.qw_table.specs.declared.key.Field.{Field}
use Rattle.qw_group.specs.Values.{ReadsValue, may_be_null, read_units, value_types}
use Rattle.qw_group.specs.Walks.{groups_walk_block}
use Rattle.qw_physical.specs.Physical.{Operator, Sink}
use Rattle.qw_physical.specs.declared.pipeline.ReadColumn.{ReadColumn}
use Rattle.qw_operator.specs.Carries.{IsCarriedTo, IsSunk, ReadsEntry, entry_types, known_entry}
use Rattle.qw_operator.specs.Takes.{anywhere}
use Rattle.qw_operator.specs.Grouping.{Group, IsGrouped}
use Rattle.qw_group_pipeline.specs.declared.columns.ValueColumn.{ValueColumn}

-- ---- what is known of a group
-- the values of set functions, each in eight locals from one on, of which the first three hold it
abbrev pub known_values : (free : ℕ) → List ValueColumn → List Known
known_values free [] = []
known_values free (v ∷ values) =
    record {
      expression = column v.number v.ty;
      operand = record { cell = cell_from free (may_be_null v.function); kind = Some (type_kind v.ty); scale = type_scale v.ty; most = most_of v.ty };
    } ∷ known_values (free + 8) values

abbrev pub values_types : List ValueColumn → List ValType
values_types [] = []
values_types (v ∷ values) = value_types v.function v.argument ++ values_types values

-- what reading these values takes beside one, at a group: the greatest of all that each takes
abbrev pub most_read : List SetFunctionKind → ℕ
most_read [] = 0
most_read (f ∷ functions) = max (read_units f) (most_read functions)

-- the columns of the grouped table, from one local on
abbrev pub known_group : (free : ℕ) → List ReadColumn → List ValueColumn → List Known
known_group free key values = known_entry free key ++ known_values (free + 3 * length key) values

-- a column of the grouped table, whatever its local is
abbrev pub value_anywhere : ValueColumn → Known
value_anywhere v = record { expression = column v.number v.ty; operand = record { cell = record { value = 0; length = 0; null = None }; kind = None; scale = 0; most = 0 } }

abbrev pub all_anywhere : List ReadColumn → List ValueColumn → List Known
all_anywhere key values = map anywhere key ++ map value_anywhere values

-- ---- the blocks
-- blocks that read the values of set functions, whose areas begin so many octets from the entry's start, one after another
abbrev pub ReadsValues : (at entry free : ℕ) → List ValueColumn → Statement → Type 0
ReadsValues at entry free [] a = a ≡ skip
ReadsValues at entry free (v ∷ values) a =
    (first : Statement) × (rest : Statement) × (a ≡ seq first rest) × ReadsValue v.function v.argument at entry free first × ReadsValues (at + 32) entry (free + 8) values rest

-- At a group, to whose entry a local leads, the key is read and then the values of the set functions, whose areas begin so many octets from the entry's
-- start; and within them is what `Rest` says, of what is known there.
pub record IsGroupRowTo (Rest : List Known → (next : ℕ) → Statement → List ValType → Type 0) (literals : List Known) (entry areas next : ℕ) (key : List ReadColumn) (values : List ValueColumn) (a : Statement) (own : List ValType) : Type 0 where
  pub key_reads : Statement
  pub value_reads : Statement
  pub rest : Statement
  pub rest_own : List ValType
  pub is : a ≡ seq key_reads (seq value_reads rest)
  pub own_is : own ≡ entry_types key ++ (values_types values ++ rest_own)
  pub key_reading : ReadsEntry (cell_offset 0) entry next key key_reads
  pub value_reading : ReadsValues areas entry (next + 3 * length key) values value_reads
  pub carried : Rest (known_group next key values ++ literals) (next + 3 * length key + 8 * length values) rest rest_own

-- operators, and a sink or what `End` says innermost
abbrev pub InSink : List Operator → Sink → List Known → (next : ℕ) → Statement → List ValType → Type 0
InSink operators sink known next a own = IsCarriedTo (IsSunk sink) known next operators a own

abbrev pub InEnd : (End : List Known → (next : ℕ) → Statement → List ValType → Type 0) → List Operator → List Known → (next : ℕ) → Statement → List ValType → Type 0
InEnd End operators known next a own = IsCarriedTo End known next operators a own

-- innermost a row is put into a group, when its values are in these fields
abbrev pub Grouping : List Field → Group → List Known → (next : ℕ) → Statement → List ValType → Type 0
Grouping fields g known next a own = IsGrouped fields known next g a own

-- the locals of the walk: one that counts slots, and one that leads to an entry
abbrev pub walk_types : List ValType
walk_types = I32 ∷ I32 ∷ []

pub record IsGroupPipelineTo (Rest : List Known → (next : ℕ) → Statement → List ValType → Type 0) (literals : List Known) (directory next : ℕ) (key : List ReadColumn) (values : List ValueColumn) (a : Statement) (own : List ValType) : Type 0 where
  pub met : Statement
  pub met_own : List ValType
  pub is : a ≡ groups_walk_block directory next met
  pub own_is : own ≡ walk_types ++ met_own
  pub row : IsGroupRowTo Rest literals (next + 1) (cell_offset (length key)) (next + 2) key values met met_own

-- into a sink
abbrev pub IsGroupPipeline : (literals : List Known) → (directory next : ℕ) → (key : List ReadColumn) → (values : List ValueColumn) → (operators : List Operator) → (sink : Sink) → Statement → (own : List ValType) → Type 0
IsGroupPipeline literals directory next key values operators sink a own = IsGroupPipelineTo (InSink operators sink) literals directory next key values a own

-- from one state of an emitter to another the block of such a pipeline was added, with the types of its own locals
pub record EmitsGroupsTo (Rest : List Known → (next : ℕ) → Statement → List ValType → Type 0) (literals : List Known) (directory : ℕ) (key : List ReadColumn) (values : List ValueColumn) (old new : Emitter) : Type 0 where
  pub first_is : new.first ≡ old.first
  pub statement : Statement
  pub own : List ValType
  pub code_is : new.block.code.items ≡ old.block.code.items ++ steps_of statement
  pub own_is : new.own.items ≡ old.own.items ++ own
  pub pipeline : IsGroupPipelineTo Rest literals directory (free_of old) key values statement own

abbrev pub EmitsGroups : (literals : List Known) → (directory : ℕ) → (key : List ReadColumn) → (values : List ValueColumn) → (operators : List Operator) → (sink : Sink) → (old new : Emitter) → Type 0
EmitsGroups literals directory key values operators sink old new = EmitsGroupsTo (InSink operators sink) literals directory key values old new

-- All rows as one group, as without GROUP BY (7.8, 7.9): there is no key, and a local leads to the areas.
abbrev pub IsOneRow : (Rest : List Known → (next : ℕ) → Statement → List ValType → Type 0) → (literals : List Known) → (areas next : ℕ) → (values : List ValueColumn) → Statement → (own : List ValType) → Type 0
IsOneRow Rest literals areas next values a own = IsGroupRowTo Rest literals areas 0 next [] values a own

-- from one state of an emitter to another the block was added that reads them, with the types of its own locals
pub record EmitsOneTo (Rest : List Known → (next : ℕ) → Statement → List ValType → Type 0) (literals : List Known) (areas : ℕ) (values : List ValueColumn) (old new : Emitter) : Type 0 where
  pub first_is : new.first ≡ old.first
  pub statement : Statement
  pub own : List ValType
  pub code_is : new.block.code.items ≡ old.block.code.items ++ steps_of statement
  pub own_is : new.own.items ≡ old.own.items ++ own
  pub row : IsOneRow Rest literals areas (free_of old) values statement own
