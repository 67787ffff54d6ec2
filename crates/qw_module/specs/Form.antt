-- Forms of a code that the standard has no word for: it never asks for the memory's size, it never lets the memory grow, and its calls
-- nest only so deep.
use Rattle.std.specs.Prelude.{ℕ, zero, suc, ◌+◌, List, length, All, Option, Some, None, slice_get}
use Rattle.qw_module.specs.declared.instruction.Op.{Op}
use Rattle.qw_module.specs.declared.instruction.Op.TheVariants as o
use Rattle.qw_module.specs.declared.module.Function.{Function}
use Rattle.qw_module.specs.declared.module.Module.{Module}
use Rattle.qw_module.specs.Syntax.{Code, done, op, unreachable, block, loop, if_then, if_else, br, br_if, br_table, return, call}
use Rattle.qw_module.specs.Execution.{Callee, host_raise, host_pages, own}
use Rattle.qw_module.specs.Start.{callees_of}
use Rattle.qw_module.specs.Validity.{code_of_body, imported_functions, IsShaped}

-- an instruction is no `memory.size` (2.4.4)
abbrev pub IsNoSize : Op → Type 0
IsNoSize o.MemorySize = ⊥
IsNoSize _ = Unit {0}

-- and no `memory.grow`
abbrev pub IsNoGrowth : Op → Type 0
IsNoGrowth o.MemoryGrow = ⊥
IsNoGrowth _ = Unit {0}

-- each operator of a code, and of what is nested in it, is one of these
abbrev pub OperatorsAre : (Op → Type 0) → Code → Type 0
OperatorsAre These done = Unit {0}
OperatorsAre These (op o rest) = These o × OperatorsAre These rest
OperatorsAre These (unreachable rest) = OperatorsAre These rest
OperatorsAre These (block result inner rest) = OperatorsAre These inner × OperatorsAre These rest
OperatorsAre These (loop result inner rest) = OperatorsAre These inner × OperatorsAre These rest
OperatorsAre These (if_then result inner rest) = OperatorsAre These inner × OperatorsAre These rest
OperatorsAre These (if_else result inner other rest) = OperatorsAre These inner × OperatorsAre These other × OperatorsAre These rest
OperatorsAre These (br label rest) = OperatorsAre These rest
OperatorsAre These (br_if label rest) = OperatorsAre These rest
OperatorsAre These (br_table labels default rest) = OperatorsAre These rest
OperatorsAre These (return rest) = OperatorsAre These rest
OperatorsAre These (call index rest) = OperatorsAre These rest

abbrev pub HasNoSize : Code → Type 0
HasNoSize code = OperatorsAre IsNoSize code

abbrev pub HasNoGrowth : Code → Type 0
HasNoGrowth code = OperatorsAre IsNoGrowth code

-- the same of a module: of each function of its own
abbrev pub NeverAsksSize : Module → Type 0
NeverAsksSize m = All (λ (function : Function). HasNoSize (code_of_body function.body)) m.functions.items

abbrev pub NeverGrows : Module → Type 0
NeverGrows m = All (λ (function : Function). HasNoGrowth (code_of_body function.body)) m.functions.items

-- each function that a code calls is one of these
abbrev pub CallsOnly : (ℕ → Type 0) → Code → Type 0
CallsOnly These done = Unit {0}
CallsOnly These (op o rest) = CallsOnly These rest
CallsOnly These (unreachable rest) = CallsOnly These rest
CallsOnly These (block result inner rest) = CallsOnly These inner × CallsOnly These rest
CallsOnly These (loop result inner rest) = CallsOnly These inner × CallsOnly These rest
CallsOnly These (if_then result inner rest) = CallsOnly These inner × CallsOnly These rest
CallsOnly These (if_else result inner other rest) = CallsOnly These inner × CallsOnly These other × CallsOnly These rest
CallsOnly These (br label rest) = CallsOnly These rest
CallsOnly These (br_if label rest) = CallsOnly These rest
CallsOnly These (br_table labels default rest) = CallsOnly These rest
CallsOnly These (return rest) = CallsOnly These rest
CallsOnly These (call index rest) = These index × CallsOnly These rest

-- what is called is the host's
abbrev pub IsHost : Option Callee → Type 0
IsHost None = ⊥
IsHost (Some host_raise) = Unit {0}
IsHost (Some host_pages) = Unit {0}
IsHost (Some (own function)) = ⊥

-- it is the host's, or its code calls only these
abbrev pub NestsOver : (ℕ → Type 0) → Option Callee → Type 0
NestsOver These None = ⊥
NestsOver These (Some host_raise) = Unit {0}
NestsOver These (Some host_pages) = Unit {0}
NestsOver These (Some (own function)) = CallsOnly These function.body

-- A function nests calls within a depth, by its index among all: one of the host nests within any, and another one within one more
-- than all that it calls. So each function of the module's own that runs at one time adds 1, and the host's adds none.
abbrev pub NestIn : List Callee → (depth index : ℕ) → Type 0
NestIn callees zero index = IsHost (slice_get callees index)
NestIn callees (suc depth) index = NestsOver (NestIn callees depth) (slice_get callees index)

abbrev pub NestsWithin : Module → (depth index : ℕ) → Type 0
NestsWithin m depth index = NestIn (callees_of m) depth index

-- a module exports a function of its own as `run`, which nests within this depth
abbrev pub CallsNestWithin : Module → (depth : ℕ) → Type 0
CallsNestWithin m depth = (number : ℕ) × IsShaped m number × NestsWithin m depth (length (imported_functions m) + number)
