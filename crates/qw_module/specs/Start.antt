-- How a call of a module's own function begins, and how many instructions it has.
use Rattle.std.specs.Prelude.{ℕ, zero, suc, ◌+◌, ◌==◌, if◌then◌else◌, List, [], ◌∷◌, ◌++◌, length, map, replicate, Option, Some, None, slice_get}
use Rattle.std.specs.List.{filter_map}
use Rattle.qw_module.specs.declared.instruction.Op.{Op}
use Rattle.qw_module.specs.declared.instruction.Op.TheVariants as o
use Rattle.qw_module.specs.declared.module.Import.{Import}
use Rattle.qw_module.specs.declared.module.Import.TheVariants as import
use Rattle.qw_module.specs.declared.module.Module.{Module}
use Rattle.qw_module.specs.declared.module.Function.{Function}
use Rattle.qw_module.specs.declared.module.Global.{Global}
use Rattle.qw_module.specs.Numbers.{constant}
use Rattle.qw_module.specs.Syntax.{Code, done, op, unreachable, block, loop, if_then, if_else, br, br_if, br_table, return, call, Sequences, code_of}
use Rattle.qw_module.specs.Typing.{Signature}
use Rattle.qw_module.specs.Execution.{Closure, Callee, host_raise, host_pages, own, Store, State, label, settled}
use Rattle.qw_module.specs.Validity.{sequences_of, code_of_body, declared_types, signature_in}

-- what the host gives for an import, where it is a function (4.5.4)
abbrev pub host_of : Import → Option Callee
host_of (import.Memory limits) = None
host_of (import.Raise type) = Some host_raise
host_of (import.Pages type) = Some host_pages

-- a module's own function as it is called
abbrev pub closure_with : Signature → Function → Closure
closure_with signature function =
    record {
      params = length signature.params;
      declared = length (declared_types function.locals.items);
      results = length signature.results;
      body = code_of_body function.body;
    }

abbrev pub closure_of : Module → Function → Closure
closure_of m function = closure_with (signature_in m function.type_index) function

-- what an expression gives that is one constant (4.4.1); another one is read as 0
abbrev pub initial_value : Code → ℕ
initial_value (op (o.Const value) done) = constant value
initial_value _ = 0

-- The store of a module at first: the imported functions are the host's, the others its own, and globals are as declared
-- (4.5.4, "Instantiation").
abbrev pub callees_of : Module → List Callee
callees_of m = filter_map host_of m.imports.items ++ map (λ function. own (closure_of m function)) m.functions.items

abbrev pub first_store : Module → Store
first_store m = record { functions = callees_of m; globals = map (λ (global : Global). initial_value (code_of_body global.init)) m.globals.items }

-- the sequences and the number of declared locals of a module's own function, by its number
abbrev pub sequences_of_function : Option Function → Sequences
sequences_of_function None = record { each = []; labels = [] }
sequences_of_function (Some function) = sequences_of function.body

abbrev pub locals_of_function : Option Function → ℕ
locals_of_function None = 0
locals_of_function (Some function) = length (declared_types function.locals.items)

abbrev pub body_of : Module → ℕ → Sequences
body_of m number = sequences_of_function (slice_get m.functions.items number)

-- How a call of a function without results begins (4.5.5 and 4.4.7, "Invocation"): its locals are its argument and zeros, and its
-- body is in a label whose end is the return.
abbrev pub begun : Module → (number argument : ℕ) → State
begun m number argument =
    settled (first_store m) (label done 0 [] done ∷ []) (code_of (body_of m number)) []
    (argument ∷ replicate (locals_of_function (slice_get m.functions.items number)) 0)

-- A `local.tee` is a `local.set` with the `local.get` of the same local behind it (4.4.3), and counts as both: one more than any other.
abbrev pub besides_one : Op → ℕ
besides_one (o.LocalTee x) = 1
besides_one _ = 0

-- How many instructions a code has with those of the functions that it calls, of which `called` tells how many they have.
abbrev pub weight_with : (called : ℕ → ℕ) → Code → ℕ
weight_with called done = 0
weight_with called (op operator rest) = 1 + besides_one operator + weight_with called rest
weight_with called (unreachable rest) = 1 + weight_with called rest
weight_with called (block result inner rest) = 1 + weight_with called inner + weight_with called rest
weight_with called (loop result inner rest) = 1 + weight_with called inner + weight_with called rest
weight_with called (if_then result inner rest) = 1 + weight_with called inner + weight_with called rest
weight_with called (if_else result inner other rest) = 1 + weight_with called inner + weight_with called other + weight_with called rest
weight_with called (br index rest) = 1 + weight_with called rest
weight_with called (br_if index rest) = 1 + weight_with called rest
weight_with called (br_table labels default rest) = 1 + weight_with called rest
weight_with called (return rest) = 1 + weight_with called rest
weight_with called (call index rest) = 1 + called index + weight_with called rest

-- how many instructions a code has of its own, a `local.tee` counted as two
abbrev pub weight : Code → ℕ
weight code = weight_with (λ index. 0) code

-- The same of a function by its index, where functions call only functions below them. A function of the host has none.
abbrev pub weight_of_callee : (ℕ → ℕ) → Option Callee → ℕ
weight_of_callee called None = 0
weight_of_callee called (Some host_raise) = 0
weight_of_callee called (Some host_pages) = 0
weight_of_callee called (Some (own function)) = weight_with called function.body

unfoldable pub weights_below : List Callee → ℕ → ℕ → ℕ
weights_below callees zero index = 0
weights_below callees (suc n) index =
    if index == n then weight_of_callee (weights_below callees n) (slice_get callees n) else weights_below callees n index

abbrev pub weight_of_function : Module → ℕ → ℕ
weight_of_function m index = weights_below (callees_of m) (length (callees_of m)) index
