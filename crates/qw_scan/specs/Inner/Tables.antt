-- Mirrors `Scope`: what the body of a function is checked under.
use Rattle.std.specs.Prelude.{ℕ, List, ◌++◌, map, slice_get, unwrap_or}
use Rattle.qw_module.specs.Typing.{Signature, GlobalType, types_of}
use Rattle.qw_module.specs.Places.{Typing}
use Rattle.qw_scan.specs.declared.scope.GlobalKind.{GlobalKind}
use Rattle.qw_scan.specs.declared.scope.Scope.{Scope}
use Rattle.qw_scan.specs.Inner.TypesAt.{type_by, no_signature}

abbrev pub global_of : GlobalKind → GlobalType
global_of global = record { type = global.ty; mutable = global.mutable }

-- the type of the function whose type has this index
abbrev pub signature_in : List Signature → ℕ → Signature
signature_in types index = unwrap_or (slice_get types index) no_signature

abbrev pub typing_of : Scope → Typing
typing_of scope =
    record {
      outside = record {
        functions = map (signature_in scope.types.now) scope.functions.now;
        globals = map global_of scope.globals.now;
        memories = scope.memories;
      };
      locals = map type_by scope.parameters.now ++ scope.locals.now;
      results = types_of scope.result;
    }
