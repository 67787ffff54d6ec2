-- Mirrors room.rt: how much room a module's calls need at most. Functions call only those below them, so no two calls of one
-- function are ever under way at once.
use Rattle.std.specs.Prelude.{ℕ, zero, suc, ◌+◌, ◌<◌, ◌≤◌, List, length, Option, Some, None, get_or, slice_get, vec_capacity}
use Rattle.qw_module.specs.declared.module.Module.{Module}
use Rattle.qw_module.specs.declared.module.Function.{Function}
use Rattle.qw_machine.specs.declared.activity.Activity.{Activity}
use Rattle.qw_machine.specs.declared.room.Rooms.{Rooms}
use Rattle.qw_module.specs.Start.{closure_of, body_of}
use Rattle.qw_valid.specs.declared.heights.Heights.{Heights}
use Rattle.qw_valid.specs.ModuleHeights.{HaveHeights}

-- what the function of a number needs
abbrev pub bounds_of : List Heights → ℕ → Heights
bounds_of heights function = get_or heights function (record { operands = 0; labels = 0 })

-- the locals of a function, its parameters among them
abbrev pub locals_in : Module → Option Function → ℕ
locals_in m None = 0
locals_in m (Some function) = (closure_of m function).params + (closure_of m function).declared

abbrev pub locals_of : Module → ℕ → ℕ
locals_of m function = locals_in m (slice_get m.functions.items function)

-- What the functions numbered below n need: their operands, and one more, since each operator has room for its result before it takes
-- any; their labels, one for the body and the frame; and their locals.
abbrev pub needed_below : Module → List Heights → ℕ → Rooms
needed_below m heights zero = record { operands = 1; awaiting = 0; locals = 0 }
needed_below m heights (suc n) =
    record {
      operands = (needed_below m heights n).operands + (bounds_of heights n).operands;
      awaiting = (needed_below m heights n).awaiting + (bounds_of heights n).labels + 2;
      locals = (needed_below m heights n).locals + locals_of m n;
    }

-- what all functions of a module need
abbrev pub needed : Module → List Heights → Rooms
needed m heights = needed_below m heights (length m.functions.items)

abbrev pub rooms_of : Activity → Rooms
rooms_of a = record { operands = a.operands.room; awaiting = a.awaiting.room; locals = vec_capacity a.locals }

-- There is room for the operands and labels that there are at most while a sequence of this number of a function runs, and for what
-- the functions below it need: only these are called.
pub record HasRoom (m : Module) (rooms : Rooms) (function number operands_most awaiting_most first_local : ℕ) : Type 0 where
  pub heights : List Heights
  pub bounds : HaveHeights m heights
  pub own : function < length m.functions.items
  pub numbered : number < length (body_of m function).each
  pub operands : operands_most + (needed_below m heights function).operands ≤ rooms.operands
  pub awaiting : awaiting_most + (needed_below m heights function).awaiting ≤ rooms.awaiting
  pub locals : first_local + locals_of m function + (needed_below m heights function).locals ≤ rooms.locals
