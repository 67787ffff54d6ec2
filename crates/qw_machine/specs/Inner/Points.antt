-- Mirrors `Activity` of activity.rt: what its arrays stand for.
use Rattle.std.specs.Prelude.{ℕ, suc, ◌+◌, ◌-◌, Bool, nat_lt, false, List, [], ◌∷◌, ◌++◌, length, take, drop, replicate, reverse}
use Rattle.qw_module.specs.declared.instruction.Instr.{Instr}
use Rattle.qw_module.specs.declared.module.Module.{Module}
use Rattle.qw_module.specs.declared.module.Function.{Function}
use Rattle.qw_machine.specs.declared.activity.Entry.{Entry}
use Rattle.qw_machine.specs.declared.activity.Frame.{Frame}
use Rattle.qw_machine.specs.declared.activity.Awaiting.{Awaiting}
use Rattle.qw_machine.specs.declared.activity.Awaiting.TheVariants.{Label, Call}
use Rattle.qw_machine.specs.declared.activity.Activity.{Activity}
use Rattle.qw_machine.specs.Inner.Stacked.{Stacked}
use Rattle.qw_module.specs.Numbers.{truth}
use Rattle.qw_module.specs.Syntax.{Code, Sequences, nested, sequence_at, named}
use Rattle.qw_module.specs.Execution.{Store, Context, label, frame, Config, State, settled}
use Rattle.qw_module.specs.Start.{closure_of, callees_of, body_of}

-- what is left of the sequence of a number from an index on, nested
abbrev pub code_in : Sequences → (number index : ℕ) → Code
code_in sequences number index = nested sequences.labels (named sequences) (drop index (sequence_at sequences number))

-- the same in the body of a module's own function
abbrev pub code_at : Module → (function number index : ℕ) → Code
code_at m function number index = code_in (body_of m function) number index

-- the instructions of a sequence of a module's own function
abbrev pub instructions_at : Module → (function number : ℕ) → List Instr
instructions_at m function number = sequence_at (body_of m function) number

-- Where an instance is: the labels and frames that it is in, the innermost first; how many there are up to the innermost frame,
-- with it; the function that runs, by its number among the module's own, the number of its sequence that runs and the index in it;
-- all operands, the last one first; the locals of all frames, the outermost first, and how many lie below those of the innermost;
-- and the globals.
pub record Point : Type 0 where
  pub awaiting : List Awaiting
  pub floor : ℕ
  pub function : ℕ
  pub sequence : ℕ
  pub index : ℕ
  pub operands : List ℕ
  pub locals : List ℕ
  pub first_local : ℕ
  pub globals : List ℕ

-- how many operands lie below those of the innermost label or frame
abbrev pub base_of : List Awaiting → ℕ
base_of [] = 0
base_of (Label entry ∷ rest) = entry.base
base_of (Call caller ∷ rest) = caller.base

-- how many there are up to the innermost frame, with it
abbrev pub floor_of : List Awaiting → ℕ
floor_of [] = 0
floor_of (Label entry ∷ rest) = floor_of rest
floor_of (Call caller ∷ rest) = suc (length rest)

-- of operands, those above the first so many that were pushed, and these
abbrev pub above : ℕ → List ℕ → List ℕ
above base operands = take (length operands - base) operands

abbrev pub under : ℕ → List ℕ → List ℕ
under base operands = drop (length operands - base) operands

-- labels and frames as what awaits, in this function, over the operands and the locals below the innermost
abbrev pub contexts_of : Module → (function : ℕ) → List Awaiting → (operands locals : List ℕ) → List Context
contexts_of m function [] operands locals = []
contexts_of m function (Label entry ∷ rest) operands locals =
    label (code_at m function entry.sequence entry.target) (truth entry.takes) (above (base_of rest) operands)
    (code_at m function entry.sequence entry.after) ∷ contexts_of m function rest (under (base_of rest) operands) locals
contexts_of m function (Call caller ∷ rest) operands locals =
    frame (drop caller.first_local locals) (truth caller.leaves) (above (base_of rest) operands)
    (code_at m caller.function caller.sequence caller.after)
    ∷ contexts_of m caller.function rest (under (base_of rest) operands) (take caller.first_local locals)

-- the store of a module with these values of its globals
abbrev pub store_with : Module → (globals : List ℕ) → Store
store_with m globals = record { functions = callees_of m; globals = globals }

-- the state that a point stands for: what is finished is left
abbrev pub state_at : Module → Point → State
state_at m p =
    settled (store_with m p.globals)
    (contexts_of m p.function p.awaiting (under (base_of p.awaiting) p.operands) (take p.first_local p.locals))
    (code_at m p.function p.sequence p.index) (above (base_of p.awaiting) p.operands) (drop p.first_local p.locals)

-- the configuration that a point stands for where it isn't at the end of its sequence
abbrev pub config_at : Module → Point → Config
config_at m p =
    record {
      store = store_with m p.globals;
      code = code_at m p.function p.sequence p.index;
      operands = above (base_of p.awaiting) p.operands;
      locals = drop p.first_local p.locals;
      contexts = contexts_of m p.function p.awaiting (under (base_of p.awaiting) p.operands) (take p.first_local p.locals);
    }

abbrev pub point_of : Activity → Point
point_of a =
    record {
      awaiting = a.awaiting.values;
      floor = a.floor;
      function = a.function;
      sequence = a.sequence;
      index = a.index;
      operands = a.operands.values;
      locals = a.locals.items;
      first_local = a.first_local;
      globals = a.globals.items;
    }

-- in a block that begins with a sequence of this number, whose branches go to an index of the sequence around it
abbrev pub entered : Point → (inner : ℕ) → (takes : Bool) → (target : ℕ) → Point
entered p inner takes target =
    record p {
      awaiting = Label (record { base = length p.operands; takes = takes; sequence = p.sequence; target = target; after = p.index + 1 }) ∷ p.awaiting;
      sequence = inner;
      index = 0;
    }

-- at another index of the same sequence
abbrev pub at_index : Point → ℕ → Point
at_index p index = record p { index = index }

-- at an index of the same sequence, with these operands, globals and locals of the function that runs
abbrev pub with_held : Point → (index : ℕ) → (operands globals locals : List ℕ) → Point
with_held p index operands globals locals =
    record p { index = index; operands = operands; locals = take p.first_local p.locals ++ locals; globals = globals }

-- at an index of a sequence of this number of the same function, with these labels and frames around
abbrev pub in_sequence : Point → (awaiting : List Awaiting) → (number index : ℕ) → Point
in_sequence p awaiting number index = record p { awaiting = awaiting; sequence = number; index = index }

-- the same, with these operands, globals and locals of the function that runs
abbrev pub placed : Point → (awaiting : Stacked Awaiting) → (number index : ℕ) → (operands : Stacked ℕ) → (globals locals : List ℕ) → Point
placed p awaiting number index operands globals locals = with_held (in_sequence p awaiting.values number index) index operands.values globals locals

-- at the beginning of the body of a function of the module's own, in the label of the whole body (4.4.7, "Invocation")
abbrev pub in_body : Module → Point → (function : ℕ) → (leaves : Bool) → Point
in_body m p function leaves =
    let last = length (body_of m function).each - 1 in
    let end = length (instructions_at m function last) in
    record p {
      awaiting = Label (record { base = length p.operands; takes = leaves; sequence = last; target = end; after = end }) ∷ p.awaiting;
      function = function;
      sequence = last;
      index = 0;
    }

-- in a frame that was entered by a call: the first locals are the arguments, the others zeros
abbrev pub called_at : Point → (params declared : ℕ) → (leaves : Bool) → Point
called_at p params declared leaves =
    record p {
      awaiting = Call (record { base = length (drop params p.operands); leaves = leaves; function = p.function; sequence = p.sequence; after = p.index + 1; first_local = p.first_local; floor = p.floor }) ∷ p.awaiting;
      floor = suc (length p.awaiting);
      operands = drop params p.operands;
      locals = p.locals ++ reverse (take params p.operands) ++ replicate declared 0;
      first_local = length p.locals;
    }

-- the point after a label's end
abbrev pub after_label : Point → Entry → List Awaiting → Point
after_label p entry rest = record p { awaiting = rest; sequence = entry.sequence; index = entry.after }

-- back in the caller, and so after a frame's end
abbrev pub resumed : Point → Frame → Point
resumed p caller =
    record p {
      floor = caller.floor;
      function = caller.function;
      sequence = caller.sequence;
      index = caller.after;
      locals = take p.first_local p.locals;
      first_local = caller.first_local;
    }

abbrev pub after_call : Point → Frame → List Awaiting → Point
after_call p caller rest = resumed (record p { awaiting = rest }) caller

-- whether a function leaves a result
abbrev pub has_result : Module → Function → Bool
has_result m function = nat_lt 0 (closure_of m function).results

-- the point that a call of a function of the module's own begins at, which the host called with one argument
abbrev pub first_point : Module → (function argument declared : ℕ) → (globals : List ℕ) → Point
first_point m function argument declared globals =
    in_body m (record {
      awaiting = [];
      floor = 0;
      function = function;
      sequence = 0;
      index = 0;
      operands = [];
      locals = argument ∷ replicate declared 0;
      first_local = 0;
      globals = globals;
    }) function false

-- after a call whose one argument the host answered with a value
abbrev pub after_answer : Point → (value : ℕ) → Point
after_answer p value = record p { index = p.index + 1; operands = value ∷ drop 1 p.operands }
