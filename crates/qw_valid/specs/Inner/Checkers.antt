-- Mirrors `Checker`: what the sequences of one body are checked under, and which code each of their numbers names.
use Rattle.std.specs.Prelude.{◌<◌, List, ◌++◌, length, All}
use Rattle.qw_module.specs.declared.instruction.ValType.{ValType}
use Rattle.qw_module.specs.declared.module.Module.{Module}
use Rattle.qw_valid.specs.declared.checker.Checker.{Checker}
use Rattle.qw_module.specs.Syntax.{Sequences}
use Rattle.qw_module.specs.Typing.{Outside, types_of}
use Rattle.qw_module.specs.Places.{Typing}
use Rattle.qw_module.specs.Validity.{outside_of, functions_of, sequences_of}

-- a function's typing, by its parameters, its other locals and its results
abbrev pub typing_with : Outside → (params declared results : List ValType) → Typing
typing_with outside params declared results = record { outside = outside; locals = params ++ declared; results = results }

abbrev pub typing_of : Checker → Typing
typing_of checker = typing_with (outside_of checker.«module».now) checker.parameters.now checker.locals.now (types_of checker.result)

abbrev pub body_of : Checker → Sequences
body_of checker = sequences_of checker.body.now

-- each function's type is there
abbrev pub HaveTypes : Module → Type 0
HaveTypes m = All (λ type. type < length m.types.items) (functions_of m)
