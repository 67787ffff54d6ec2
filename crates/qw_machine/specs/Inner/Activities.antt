-- Mirrors `Activity::execute`, `answer`, `leave_finished`, `step` and `run`, `following`, `filled`, `turned` and `blocks`: what the machine does at an
-- instruction, and what its steps answer.
use Rattle.std.specs.Prelude.{◌≡◌, ◌≢◌, ◌==◌, ℕ, zero, suc, ◌+◌, ◌≤◌, nat_le, Bool, true, false, List, ◌∷◌, ◌++◌, length, take, drop, Option, None, Some, slice_get, ◌-◌, IfSome, MatchOption}
use Rattle.std.specs.Bool.{MatchBool}
use Rattle.qw_module.specs.declared.instruction.ValType.{ValType}
use Rattle.qw_module.specs.declared.instruction.Instr.{Instr}
use Rattle.qw_module.specs.declared.instruction.Instr.TheVariants as i
use Rattle.qw_module.specs.declared.module.Module.{Module}
use Rattle.qw_machine.specs.declared.activity.Entry.{Entry}
use Rattle.qw_machine.specs.declared.activity.Frame.{Frame}
use Rattle.qw_machine.specs.declared.activity.Awaiting.{Awaiting}
use Rattle.qw_machine.specs.declared.activity.Awaiting.TheVariants.{Label, Call}
use Rattle.qw_machine.specs.declared.stepped.Stepped.{Stepped}
use Rattle.qw_machine.specs.declared.stepped.Run.{Run}
use Rattle.qw_machine.specs.declared.stepped.Stepped.TheVariants.{Ran}
use Rattle.qw_module.specs.Numbers.{truth}
use Rattle.qw_module.specs.Syntax.{Sequences, sequence_at}
use Rattle.qw_module.specs.Execution.{Config, State, Running, Returned, Event}
use Rattle.qw_module.specs.Start.{body_of}
use Rattle.qw_module.specs.Step.{next}
use Rattle.qw_machine.specs.Inner.Points.{Point, under, config_at, state_at, resumed, instructions_at, with_held, placed}
use Rattle.qw_machine.specs.Inner.Stacked.{Stacked}
use Rattle.qw_machine.specs.declared.room.Rooms.{Rooms}
use Rattle.qw_machine.specs.Inner.Placed.{IsExecuted, IsAsking, IsPoint, IsRunning}
use Rattle.qw_machine.specs.Inner.Ended.{run_end_of, is_over, state_after, WhileRunning}
use Rattle.qw_machine.specs.Instance.{AsksFor, Comes, IsAnswer, Runs, Went, asked_by}

-- there is a label of this index, and on the operands below it what a branch takes
abbrev pub CanJump : ℕ → Point → Type 0
CanJump index p = (entry : Entry) × (slice_get p.awaiting index ≡ Some (Label entry)) × (entry.base + truth entry.takes ≤ length p.operands)

-- a branch to the label of an index leads from a point to one
pub record IsJump (depth : ℕ) (p q : Point) : Type 0 where
  pub entry : Entry
  pub awaiting : drop depth p.awaiting ≡ Label entry ∷ q.awaiting
  pub point : q ≡ record p {
    awaiting = q.awaiting;
    sequence = entry.sequence;
    index = entry.target;
    operands = take (truth entry.takes) p.operands ++ under entry.base p.operands;
  }

-- there is a frame, and on the operands below it what it leaves
pub record CanLeave (p : Point) : Type 0 where
  pub caller : Frame
  pub there : slice_get p.awaiting (length p.awaiting - p.floor) ≡ Some (Call caller)
  pub floor_in : p.floor ≤ length p.awaiting
  pub operands : caller.base + truth caller.leaves ≤ length p.operands

-- a return leads from a point to one of the caller
pub record IsReturn (p q : Point) : Type 0 where
  pub caller : Frame
  pub awaiting : drop (length p.awaiting - p.floor) p.awaiting ≡ Call caller ∷ q.awaiting
  pub point : q ≡ resumed (record p { awaiting = q.awaiting; operands = take (truth caller.leaves) p.operands ++ under caller.base p.operands }) caller

-- The step of a configuration, where so many pages may be had, leads to a state, and its event is answered as that of
-- a step that goes on.
pub record WentOn (spare : ℕ) (c : Config) (before : List ℕ) (state : State) (after : List ℕ) (answer : Stepped) : Type 0 where
  pub event : Event
  pub made : (place : ℕ → ℕ) → next (λ pages. nat_le pages spare) place c before ≡ Some (record { event = event; state = state; memory = after })
  pub answered : (running : Config) → IsAnswer answer before event (Running running)

-- The instruction at a point was executed: it went on to the point q, what is finished not left yet, or it ended the run; or it calls
-- the host for pages, and nothing happened yet.
abbrev pub IsDoneAt : Module → Rooms → (spare : ℕ) → (p : Point) → (memory : List ℕ) → Stepped → (q : Point) → (after : List ℕ) → Type 0
IsDoneAt m rooms spare p memory answer q after =
    MatchOption (asked_by answer)
    (MatchBool (is_over answer)
    (Went spare (config_at m p) memory (state_after (run_end_of answer) (state_at m q)) after answer)
    (IsPoint m rooms q × WentOn spare (config_at m p) memory (state_at m q) after answer))
    (λ pages. IsRunning m rooms p × IsAsking m p pages × AsksFor pages (config_at m p) × (q ≡ p) × (after ≡ memory))

-- What is finished was left: the point q runs on, or `run` was left.
abbrev pub IsLeft : Module → Rooms → (p : Point) → (runs : Bool) → (q : Point) → Type 0
IsLeft m rooms p true q = IsRunning m rooms q × (state_at m p ≡ state_at m q)
IsLeft m rooms p false q = state_at m p ≡ Returned

-- A step from a point went to the point q, or ended the run, as its configuration does; or it asks the host.
pub record IsStepped (m : Module) (rooms : Rooms) (spare : ℕ) (p : Point) (memory : List ℕ) (answer : Stepped) (q : Point) (after : List ℕ) : Type 0 where
  pub running : WhileRunning (run_end_of answer) (IsRunning m rooms q)
  pub asks : IfSome (asked_by answer) (IsAsking m q)
  pub went : Comes spare (config_at m p) memory (state_after (run_end_of answer) (state_at m q)) after answer

-- So many steps came one after another to an answer, the last of which may ask the host: it is counted here.
abbrev pub Counts : (spare steps : ℕ) → Config → (before : List ℕ) → State → (after : List ℕ) → Stepped → Type 0
Counts spare zero c before state after answer = (state ≡ Running c) × (after ≡ before) × (answer ≡ Ran)
Counts spare (suc steps) c before state after answer =
    (d : Config) × (between : List ℕ) × Runs spare steps c before (Running d) between Ran × Comes spare d between state after answer

-- Steps from a point, at most so many, went to the point q, or ended the run, as its configuration's do; or the last one asks the host.
pub record IsRun (m : Module) (rooms : Rooms) (spare most : ℕ) (p : Point) (memory : List ℕ) (run : Run) (q : Point) (after : List ℕ) : Type 0 where
  pub running : WhileRunning (run_end_of run.last) (IsRunning m rooms q)
  pub asks : IfSome (asked_by run.last) (IsAsking m q)
  pub runs : Counts spare run.steps (config_at m p) memory (state_after (run_end_of run.last) (state_at m q)) after run.last
  pub few : run.steps ≤ most

-- A point runs at an index of a sequence, with these operands, for which there is this room, these globals and these locals of the
-- function that runs.
pub record IsFollowed (m : Module) (rooms : Rooms) (sequence : List Instr) (p : Point) (index room : ℕ) (operands globals locals : List ℕ) : Type 0 where
  pub instructions : instructions_at m p.function p.sequence ≡ sequence
  pub first_in : p.first_local ≤ length p.locals
  pub room_is : rooms.operands ≡ room
  pub running : IsRunning m rooms (with_held p index operands globals locals)

-- whether an `if` of a body has no `else`, or an empty one, so that it only takes its operand where that is 0
abbrev pub has_no_else : Sequences → Option ℕ → Bool
has_no_else sequences None = true
has_no_else sequences (Some other) = length (sequence_at sequences other) == 0

-- The innermost label is that of a loop whose body is the sequence of this number, on so many operands: a branch to it, and the
-- `loop` that it goes to, begin the sequence anew.
pub record Repeats (sequences : Sequences) (number : ℕ) (awaiting : List Awaiting) (base : ℕ) : Type 0 where
  pub entry : Entry
  pub rest : List Awaiting
  pub result : Option ValType
  pub innermost : awaiting ≡ Label entry ∷ rest
  pub takes_none : entry.takes ≡ false
  pub begins : slice_get (sequence_at sequences entry.sequence) entry.target ≡ Some (i.Loop result number)
  pub after_it : entry.after ≡ entry.target + 1
  pub base_is : entry.base ≡ base

-- at an index of a sequence a `br_if` that is taken, and the `loop` that it goes to, lead from these operands to those after, at its beginning
pub record IsTurn (sequences : Sequences) (number : ℕ) (awaiting : List Awaiting) (sequence : List Instr) (index : ℕ) (before after : List ℕ) : Type 0 where
  pub branches : slice_get sequence index ≡ Some (i.BrIf 0)
  pub condition : ℕ
  pub holds : condition ≢ 0
  pub left : List ℕ
  pub popped : before ≡ condition ∷ left
  pub base : ℕ
  pub repeats : Repeats sequences number awaiting base
  pub cut : after ≡ under base left

-- A point runs at an index of a sequence of its function's body, of this number, with these labels and frames around; its operands,
-- globals and locals are held apart.
pub record IsAtHand (m : Module) (rooms : Rooms) (sequences : Sequences) (number : ℕ) (awaiting : List Awaiting) (sequence : List Instr) (p : Point) (index room : ℕ) (operands globals locals : List ℕ) : Type 0 where
  pub executed : IsExecuted m
  pub body_is : sequences ≡ body_of m p.function
  pub number_is : p.sequence ≡ number
  pub awaiting_is : p.awaiting ≡ awaiting
  pub followed : IsFollowed m rooms sequence p index room operands globals locals

-- A point runs at an index of a sequence of this number, with these labels and frames around, for which there is this room; its
-- operands, globals and locals are held apart.
pub record IsPlaced (m : Module) (rooms : Rooms) (p : Point) (awaiting : Stacked Awaiting) (number index : ℕ) (operands : Stacked ℕ) (globals locals : List ℕ) : Type 0 where
  pub executed : IsExecuted m
  pub first_in : p.first_local ≤ length p.locals
  pub operands_room : rooms.operands ≡ operands.room
  pub awaiting_room : rooms.awaiting ≡ awaiting.room
  pub running : IsRunning m rooms (placed p awaiting number index operands globals locals)

-- Steps from a point, at most so many, went to the point q as a run; or they went to a point whose instruction was executed further,
-- to q, and what that finishes wasn't left yet.
abbrev pub IsHalted : Module → Rooms → (spare most : ℕ) → (p : Point) → (memory : List ℕ) → Run → (done : Option Stepped) → (q : Point) → (after : List ℕ) → Type 0
IsHalted m rooms spare most p memory run None q after = IsRun m rooms spare most p memory run q after
IsHalted m rooms spare most p memory run (Some answer) q after =
    (run.last ≡ Ran) × (r : Point) × (between : List ℕ) × IsRun m rooms spare most p memory run r between × IsDoneAt m rooms spare r between answer q after
