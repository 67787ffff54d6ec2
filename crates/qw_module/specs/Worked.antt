-- What the worked cases are typed under, and what they run in.
use Rattle.std.specs.Prelude.{ℕ, true, false, List, [], ◌∷◌}
use Rattle.qw_module.specs.declared.instruction.Instr.{Instr}
use Rattle.qw_module.specs.declared.instruction.ValType.TheVariants.{I32, I64}
use Rattle.qw_module.specs.Syntax.{Code, done, return, Sequences}
use Rattle.qw_module.specs.Execution.{Closure, Callee, Store, host_raise, host_pages, own, Config, Context}
use Rattle.qw_module.specs.Typing.{Outside, Scope, scope_of}

-- A module with a memory, a function from an i32 and an i64 to an i64, a global that may be set and one that may not; and one with nothing.
abbrev pub outside : Outside
outside = record {
  functions = (record { params = I32 ∷ I64 ∷ []; results = I64 ∷ [] }) ∷ [];
  globals = (record { type = I64; mutable = true }) ∷ (record { type = I32; mutable = false }) ∷ [];
  memories = 1;
}

abbrev pub nothing : Outside
nothing = record { functions = []; globals = []; memories = 0 }

-- a function of two locals and an i64 as its result, in one label that takes nothing
abbrev pub scope : Scope
scope = scope_of outside (I32 ∷ I64 ∷ []) (I64 ∷ []) ([] ∷ [])

-- The store of a module that imports `raise` and has a function from one operand, with two locals more, to one result; and one global.
abbrev pub function : Closure
function = record { params = 1; declared = 2; results = 1; body = return done }

abbrev pub store : Store
store = record { functions = host_raise ∷ own function ∷ []; globals = 9 ∷ [] }

-- an instance that runs a code
abbrev pub at_code : Code → (operands : List ℕ) → List Context → Config
at_code code operands contexts = record { store = store; code = code; operands = operands; locals = 8 ∷ []; contexts = contexts }

-- an instance of a module that imports `pages` alone, which runs a code
abbrev pub asking : Code → (operands : List ℕ) → Config
asking code operands =
    record { store = record { functions = host_pages ∷ []; globals = [] }; code = code; operands = operands; locals = 8 ∷ []; contexts = [] }

-- a body of one sequence
abbrev pub alone : List Instr → Sequences
alone sequence = record { each = sequence ∷ []; labels = [] }

-- a function of the module's own that takes and leaves nothing
abbrev pub plain_function : Code → Callee
plain_function code = own (record { params = 0; declared = 0; results = 0; body = code })
