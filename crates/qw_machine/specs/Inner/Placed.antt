-- What `Activity` keeps from step to step: what runs and what awaits is typed, and what it can need has room.
use Rattle.std.specs.Prelude.{◌≡◌, ℕ, ◌+◌, ◌-◌, ◌^◌, ◌<◌, ◌≤◌, List, [], ◌∷◌, ◌++◌, length, take, drop, Some, slice_get, All}
use Rattle.qw_module.specs.declared.instruction.ValType.{ValType}
use Rattle.qw_module.specs.declared.instruction.Instr.TheVariants as i
use Rattle.qw_module.specs.declared.module.Module.{Module}
use Rattle.qw_machine.specs.declared.activity.Entry.{Entry}
use Rattle.qw_machine.specs.declared.activity.Frame.{Frame}
use Rattle.qw_machine.specs.declared.activity.Awaiting.{Awaiting}
use Rattle.qw_machine.specs.declared.activity.Awaiting.TheVariants.{Label, Call}
use Rattle.qw_module.specs.Numbers.{truth}
use Rattle.qw_module.specs.Execution.{host_pages}
use Rattle.qw_module.specs.Start.{callees_of}
use Rattle.qw_module.specs.Typing.{scope_of, Typed}
use Rattle.qw_module.specs.Soundness.{AreOf, AreGlobalsOf}
use Rattle.qw_valid.specs.Heights.{StaysWithin}
use Rattle.qw_module.specs.Validity.{outside_of, IsValid, IsLinked, IsDescending}
use Rattle.qw_machine.specs.Inner.Points.{Point, code_at, instructions_at, base_of, floor_of}
use Rattle.qw_machine.specs.declared.room.Rooms.{Rooms}
use Rattle.qw_machine.specs.Inner.Rooms.{locals_of, HasRoom}

-- what is known of a module that is executed
pub record IsExecuted (m : Module) : Type 0 where
  pub valid : IsValid m
  pub linked : All (IsLinked m) m.imports.items
  pub descends : IsDescending m

-- the code from a place of a function on, which begins on so many operands of its sequence, has at most so many operands and labels
abbrev pub StaysAt : Module → (function sequence index : ℕ) → (operands labels now : ℕ) → Type 0
StaysAt m function sequence index operands labels now = StaysWithin ((outside_of m).functions) operands labels (code_at m function sequence index) now

-- An entry awaits a sequence that leaves operands of the types `ends` on `operands`, in a function whose locals, results and labels
-- have these types. It has at most so many operands and labels where it goes on.
pub record IsEntry (m : Module) (rooms : Rooms) (function first_local : ℕ) (locals results : List ValType) (labels : List (List ValType)) (ends : List ValType) (entry : Entry) (rest : List Awaiting) (operands : List ℕ) : Type 0 where
  pub own : List ℕ
  pub below : List ℕ
  pub types : List ValType
  pub taken : List ValType
  pub outer : List (List ValType)
  pub next : List ValType
  pub operands_are : operands ≡ own ++ below
  pub below_are : length below ≡ base_of rest
  pub own_are : AreOf own types
  pub labels_are : labels ≡ taken ∷ outer
  pub takes_are : truth entry.takes ≡ length taken
  pub target_typed : Typed (scope_of (outside_of m) locals results outer) (code_at m function entry.sequence entry.target) (taken ++ types) next
  pub after_typed : Typed (scope_of (outside_of m) locals results outer) (code_at m function entry.sequence entry.after) (ends ++ types) next
  pub target_in : entry.target ≤ length (instructions_at m function entry.sequence)
  pub after_in : entry.after ≤ length (instructions_at m function entry.sequence)
  pub operands_most : ℕ
  pub labels_most : ℕ
  pub target_within : StaysAt m function entry.sequence entry.target operands_most labels_most (length own + length taken)
  pub after_within : StaysAt m function entry.sequence entry.after operands_most labels_most (length own + length ends)
  pub room : HasRoom m rooms function entry.sequence (length below + operands_most) (length rest + labels_most) first_local

-- A frame awaits a function that leaves operands of the types `results` on `operands`. Its caller's locals are the last of `values`.
pub record IsCaller (m : Module) (rooms : Rooms) (results : List ValType) (caller : Frame) (rest : List Awaiting) (operands values : List ℕ) : Type 0 where
  pub own : List ℕ
  pub below : List ℕ
  pub types : List ValType
  pub locals : List ValType
  pub outer_results : List ValType
  pub labels : List (List ValType)
  pub next : List ValType
  pub operands_are : operands ≡ own ++ below
  pub below_are : length below ≡ base_of rest
  pub own_are : AreOf own types
  pub leaves_are : truth caller.leaves ≡ length results
  pub first_in : caller.first_local ≤ length values
  pub locals_are : AreOf (drop caller.first_local values) locals
  pub all_locals : length locals ≡ locals_of m caller.function
  pub floor_is : caller.floor ≡ floor_of rest
  pub after_typed : Typed (scope_of (outside_of m) locals outer_results labels) (code_at m caller.function caller.sequence caller.after) (results ++ types) next
  pub after_in : caller.after ≤ length (instructions_at m caller.function caller.sequence)
  pub operands_most : ℕ
  pub labels_most : ℕ
  pub after_within : StaysAt m caller.function caller.sequence caller.after operands_most labels_most (length own + length results)
  pub room : HasRoom m rooms caller.function caller.sequence (length below + operands_most) (length rest + labels_most) caller.first_local

-- Each of what awaits takes what those inside it leave; the outermost function's labels are all, and it leaves its results.
abbrev pub AreAwaiting : Module → Rooms → (function first_local : ℕ) → (locals results : List ValType) → List (List ValType) → (ends : List ValType) → List Awaiting → (operands values : List ℕ) → Type 0
AreAwaiting m rooms function first_local locals results labels ends [] operands values = (labels ≡ []) × (ends ≡ results)
AreAwaiting m rooms function first_local locals results labels ends (Label entry ∷ rest) operands values =
    (e : IsEntry m rooms function first_local locals results labels ends entry rest operands)
    × AreAwaiting m rooms function first_local locals results e.outer e.next rest e.below values
AreAwaiting m rooms function first_local locals results labels ends (Call caller ∷ rest) operands values =
    (labels ≡ []) × (ends ≡ results) × (f : IsCaller m rooms results caller rest operands values)
    × AreAwaiting m rooms caller.function caller.first_local f.locals f.outer_results f.labels f.next rest f.below (take caller.first_local values)

-- The locals of a function that runs are the last of `values`, and are of these types; the globals are of theirs, and so many labels
-- and frames are counted up to its frame.
pub record HasLocals (m : Module) (function first_local floor frames : ℕ) (values globals : List ℕ) (locals : List ValType) : Type 0 where
  pub first_in : first_local ≤ length values
  pub locals_are : AreOf (drop first_local values) locals
  pub all_locals : length locals ≡ locals_of m function
  pub globals_are : AreGlobalsOf globals ((outside_of m).globals)
  pub floor_is : floor ≡ frames

-- A point is typed, and what it can need has room.
pub record IsPoint (m : Module) (rooms : Rooms) (p : Point) : Type 0 where
  pub own : List ℕ
  pub below : List ℕ
  pub locals : List ValType
  pub results : List ValType
  pub labels : List (List ValType)
  pub before : List ValType
  pub ends : List ValType
  pub operands_are : p.operands ≡ own ++ below
  pub below_are : length below ≡ base_of p.awaiting
  pub own_are : AreOf own before
  pub has_locals : HasLocals m p.function p.first_local p.floor (floor_of p.awaiting) p.locals p.globals locals
  pub open has_locals use *
  pub typed : Typed (scope_of (outside_of m) locals results labels) (code_at m p.function p.sequence p.index) before ends
  pub index_in : p.index ≤ length (instructions_at m p.function p.sequence)
  pub operands_most : ℕ
  pub labels_most : ℕ
  pub stays : StaysAt m p.function p.sequence p.index operands_most labels_most (length own)
  pub room : HasRoom m rooms p.function p.sequence (length below + operands_most) (length p.awaiting + labels_most) p.first_local
  pub awaiting : AreAwaiting m rooms p.function p.first_local locals results labels ends p.awaiting below (take p.first_local p.locals)

-- the point runs: it isn't at the end of its sequence
pub record IsRunning (m : Module) (rooms : Rooms) (p : Point) : Type 0 where
  pub point : IsPoint m rooms p
  pub unfinished : p.index < length (instructions_at m p.function p.sequence)

-- the instruction at a point calls the host's function `pages` with so many on top
pub record IsAsking (m : Module) (p : Point) (pages : ℕ) : Type 0 where
  pub index : ℕ
  pub calls : slice_get (instructions_at m p.function p.sequence) p.index ≡ Some (i.Call index)
  pub fits : p.index < 2 ^ 64 - 1
  pub host : slice_get (callees_of m) index ≡ Some host_pages
  pub others : List ℕ
  pub operands_are : p.operands ≡ pages ∷ others
