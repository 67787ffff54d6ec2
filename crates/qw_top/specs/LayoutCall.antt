-- What a call of `qwasm-layout` writes, by the reading of its words.
use Rattle.std.specs.Prelude.{◌≡◌, ℕ, ◌-◌, List, ◌++◌, Option, Some, codes, slice_get}
use Rattle.serde_json.specs.Written.{compact_text}
use Rattle.qw_types.specs.declared.schema.Table.{Table}
use Rattle.qw_module.specs.declared.module.Module.{Module}
use Rattle.qw_map.specs.Layout.{Layout}
use Rattle.qw_promise.specs.Compiled.{IsCompiled}
use Rattle.qw_whole.specs.Layouts.{IsLayoutOf}
use Rattle.qw_whole.specs.WholePromises.{promise_of_whole}
use Rattle.qw_describe.specs.Description.{told}
use Rattle.qw_command_line.specs.Words.{compile, Reading, TextNames, command}
use Rattle.qw_top.specs.Call.{HasScript, LeavesText, TookFrontOf}
use Rattle.qw_top.specs.Top.{Asked, Files}
use Rattle.qw_top.specs.declared.status.Status.{Status}

-- the schema file of these names declares this schema, and the statement of this number, counted from 1, asks for this query over it
abbrev pub IsStatement : Files → TextNames → (statement : ℕ) → List Table → Asked → Type 0
IsStatement files names statement schema one =
    (queries : List Asked) × HasScript files names schema queries × (slice_get queries (statement - 1) ≡ Some one)

-- The text, which ends with a line feed, tells a host of a compiled module of the query: of the schema's tables, of what the module imports, of
-- the layout with which it is a compiled form of the query, and of the query's header and keys. That layout is one that the query tells, as is the
-- one of the module that `compile` writes: their columns are the same, in the same order.
pub record TellsCompiled (schema : List Table) (one : Asked) (text : List ℕ) : Type 0 where
  pub layout : Layout
  pub m : Module
  pub compiled : IsCompiled (promise_of_whole one.whole) layout m
  pub laid : IsLayoutOf one.whole layout
  pub tells : text ≡ compact_text (told schema m.imports.items layout one.header one.keys) ++ codes "\n"

-- what is written of a statement
abbrev pub LayoutWrites : Files → TextNames → (statement : ℕ) → (text : List ℕ) → Type 0
LayoutWrites files names statement text = (schema : List Table) × (one : Asked) × IsStatement files names statement schema one × TellsCompiled schema one text

-- what `out` had taken before and has taken now
abbrev pub LayoutLeavesBy : Files → Reading → Status → (old new : Option (List ℕ)) → Type 0
LayoutLeavesBy files (command (compile names statement)) status old new = LeavesText (LayoutWrites files names statement) status old new
LayoutLeavesBy files _ status old new = new ≡ old

-- what is left where `out` counted a fault
abbrev pub LayoutLeavesFrontBy : Files → Reading → (old new : Option (List ℕ)) → Type 0
LayoutLeavesFrontBy files (command (compile names statement)) old new = TookFrontOf (LayoutWrites files names statement) old new
LayoutLeavesFrontBy files _ old new = ⊥
