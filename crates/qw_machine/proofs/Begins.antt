-- The run of a valid module begins typed.
use Rattle.std.proofs.Common.{◌≡◌, ℕ, ◌<◌, ◌^◌, List, [], ◌∷◌, ◌++◌, length, map, reverse, replicate, All, Option, None, Some, IsSomeAnd, slice_get, refl, sym, ap, ap₂, subst}
use Rattle.std.specs.List.{AllByRecursion, filter_map}
use Rattle.std.specs.Option.{option_map_or}
use Rattle.std.proofs.lemmas.List.Elements.{recursion_from_All}
use Rattle.std.proofs.lemmas.Option.{slice_get_within, get_or_from_slice_get}
use Rattle.qw_module.specs.declared.instruction.ValType.{ValType}
use Rattle.qw_module.specs.declared.module.FuncType.{FuncType}
use Rattle.qw_module.specs.declared.module.Function.{Function}
use Rattle.qw_module.specs.declared.module.Global.{Global}
use Rattle.qw_module.specs.declared.module.Import.{Import}
use Rattle.qw_module.specs.declared.module.Import.TheVariants as import
use Rattle.qw_module.specs.declared.module.Module.{Module}
use Rattle.qw_module.specs.Typing.{Signature, Typed}
use Rattle.qw_module.specs.Execution.{Callee, own}
use Rattle.qw_module.specs.Soundness.{raise_signature, pages_signature, IsClosureOf, AreCalleesOf, AreGlobalsOf, IsStoreOf, IsTypedState}
use Rattle.qw_module.specs.Start.{host_of, closure_of, callees_of, initial_value, first_store, begun}
use Rattle.qw_module.specs.Validity.{code_of_body, declared_types, imported_function, signature_of, signature_in, global_type, outside_of, function_scope, IsTypedFunction, IsValidFunction, IsValidGlobal, IsValid, TakesOneI32, TakesAndLeavesI32, IsLinked, IsOneI32, IsShaped}
use Rattle.qw_module.proofs.Sound.{AreOf-zeros}
use Rattle.qw_module.proofs.TypedOperands.{start-typed}

pub signature_is : (m : Module) (type : ℕ) (ty : FuncType) → slice_get m.types.items type ≡ Some ty → signature_in m type ≡ signature_of ty
signature_is m type ty found = ap (λ (o : Option FuncType). let empty : Signature = record { params = []; results = [] } in option_map_or signature_of o empty) found

pub one_type : (m : Module) (type : ℕ) (o : Option FuncType) → slice_get m.types.items type ≡ o → IsSomeAnd o TakesOneI32 → signature_in m type ≡ raise_signature
one_type m type None e one = absurd one
one_type m type (Some ty) e one =
    subst (λ s. s ≡ raise_signature) (sym (signature_is m type ty e)) (ap₂ (λ (params results : List ValType). let s : Signature = record { params = params; results = results } in s) one.0 one.1)

pages_type : (m : Module) (type : ℕ) (o : Option FuncType) → slice_get m.types.items type ≡ o → IsSomeAnd o TakesAndLeavesI32 → signature_in m type ≡ pages_signature
pages_type m type None e one = absurd one
pages_type m type (Some ty) e one =
    subst (λ s. s ≡ pages_signature) (sym (signature_is m type ty e)) (ap₂ (λ (params results : List ValType). let s : Signature = record { params = params; results = results } in s) one.0 one.1)

-- each function is of its type
pub closure_is : (m : Module) (f : Function) (o : Option FuncType) → slice_get m.types.items f.type_index ≡ o → IsSomeAnd o (IsTypedFunction m f) →
    IsClosureOf (outside_of m) (closure_of m f) (signature_in m f.type_index)
closure_is m f None e valid = absurd valid
closure_is m f (Some ty) e valid = record {
  declared = declared_types f.locals.items;
  params_are = refl;
  declared_are = refl;
  results_are = refl;
  typed = subst (λ (s : Signature). Typed (function_scope (outside_of m) s (declared_types f.locals.items)) (code_of_body f.body) [] (reverse s.results))
      (sym (signature_is m f.type_index ty e)) valid.typed;
}

own_callees : (m : Module) (functions : List Function) → AllByRecursion (IsValidFunction m) functions →
    AreCalleesOf (outside_of m) (map (λ f. own (closure_of m f)) functions) (map (signature_in m) (map (λ (f : Function). f.type_index) functions))
own_callees m [] all = tt
own_callees m (f ∷ functions) all = (closure_is m f (slice_get m.types.items f.type_index) refl all.0, own_callees m functions all.1)

with_hosts : (m : Module) (imports : List Import) (callees : List Callee) (types : List ℕ) → AllByRecursion (IsLinked m) imports →
    AreCalleesOf (outside_of m) callees (map (signature_in m) types) →
    AreCalleesOf (outside_of m) (filter_map host_of imports ++ callees) (map (signature_in m) (filter_map imported_function imports ++ types))
with_hosts m [] callees types each are = are
with_hosts m (import.Memory limits ∷ imports) callees types each are = with_hosts m imports callees types each.1 are
with_hosts m (import.Raise type ∷ imports) callees types each are =
    (one_type m type (slice_get m.types.items type) refl each.0, with_hosts m imports callees types each.1 are)
with_hosts m (import.Pages type ∷ imports) callees types each are =
    (pages_type m type (slice_get m.types.items type) refl each.0, with_hosts m imports callees types each.1 are)

globals_are : (globals : List Global) → AllByRecursion IsValidGlobal globals → AreGlobalsOf (map (λ (g : Global). initial_value (code_of_body g.init)) globals) (map global_type globals)
globals_are [] all = tt
globals_are (g ∷ globals) all = (rw all.0.alone all.0.below, globals_are globals all.1)

-- the globals begin as values of their types
pub first_globals-are : (m : Module) → IsValid m → AreGlobalsOf (map (λ (g : Global). initial_value (code_of_body g.init)) m.globals.items) ((outside_of m).globals)
first_globals-are m valid = globals_are m.globals.items (recursion_from_All IsValidGlobal m.globals.items valid.globals)

-- all functions are of their types
pub callees_are : (m : Module) → IsValid m → All (IsLinked m) m.imports.items → AreCalleesOf (outside_of m) (callees_of m) ((outside_of m).functions)
callees_are m valid linked =
    with_hosts m m.imports.items _ _ (recursion_from_All (IsLinked m) m.imports.items linked)
    (own_callees m m.functions.items (recursion_from_All (IsValidFunction m) m.functions.items valid.functions))

first_store-is : (m : Module) (number : ℕ) → IsValid m → IsShaped m number → IsStoreOf (outside_of m) (first_store m)
first_store-is m number valid shaped = record {
  functions = callees_are m valid shaped.linked;
  globals = first_globals-are m valid;
}

run_typed : (m : Module) (number argument : ℕ) (f : Function) (o : Option FuncType) → IsValid m → IsShaped m number → argument < 2 ^ 32 →
    slice_get m.functions.items number ≡ Some f → slice_get m.types.items f.type_index ≡ o → IsSomeAnd o (IsTypedFunction m f) → IsOneI32 m f.type_index → IsTypedState (begun m number argument)
run_typed m number argument f None valid shaped small found e typed one = absurd typed
run_typed m number argument f (Some ty) valid shaped small found e typed one =
    let is : signature_of ty ≡ raise_signature = subst (λ s. s ≡ raise_signature) (signature_is m f.type_index ty e) (one_type m f.type_index (slice_get m.types.items f.type_index) refl one) in
    let declared : List ValType = declared_types f.locals.items in
    let code_typed = subst (λ (s : Signature). Typed (function_scope (outside_of m) s declared) (code_of_body f.body) [] (reverse s.results)) is typed.typed in
    rw found (start-typed (function_scope (outside_of m) raise_signature declared) (first_store m) (code_of_body f.body) (argument ∷ replicate (length declared) 0) refl
    (first_store-is m number valid shaped) (small, AreOf-zeros declared) code_typed)

begun_with : (m : Module) (number argument : ℕ) (o : Option Function) → IsValid m → IsShaped m number → argument < 2 ^ 32 →
    slice_get m.functions.items number ≡ o → IsSomeAnd o (λ (f : Function). IsOneI32 m f.type_index) → IsTypedState (begun m number argument)
begun_with m number argument None valid shaped small found one = absurd one
begun_with m number argument (Some f) valid shaped small found one =
    let here : IsValidFunction m f =
    subst (IsValidFunction m) (get_or_from_slice_get m.functions.items number f f found) (valid.functions number f (slice_get_within m.functions.items number f found)) in
    run_typed m number argument f (slice_get m.types.items f.type_index) valid shaped small found refl here one

pub valid-begins-typed : (m : Module) (number argument : ℕ) → IsValid m → IsShaped m number → argument < 2 ^ 32 → IsTypedState (begun m number argument)
valid-begins-typed m number argument valid shaped small = begun_with m number argument (slice_get m.functions.items number) valid shaped small refl shaped.run
