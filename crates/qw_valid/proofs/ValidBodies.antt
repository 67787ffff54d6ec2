-- A function whose body's places are typable is valid.
use Rattle.std.proofs.Common.{◌≡◌, ℕ, ◌<◌, List, [], ◌∷◌, ◌++◌, length, map, reverse, All, Option, Some, slice_get, refl, ap, subst}
use Rattle.std.specs.Prelude.{IsSomeAnd, Result, Ok, Err, OnOk}
use Rattle.qw_valid.specs.Inner.Checkers.{typing_with}
use Rattle.std.specs.List.{AllByRecursion, filter_map}
use Rattle.std.specs.Option.{option_map_or}
use Rattle.std.proofs.lemmas.List.Elements.{All-from_recursion, recursion_from_All}
use Rattle.qw_module.specs.declared.instruction.ValType.{ValType}
use Rattle.qw_module.specs.declared.module.FuncType.{FuncType}
use Rattle.qw_module.specs.declared.module.Function.{Function}
use Rattle.qw_module.specs.declared.module.Import.{Import}
use Rattle.qw_module.specs.declared.module.Import.TheVariants as import
use Rattle.qw_module.specs.declared.module.Module.{Module}
use Rattle.qw_module.specs.Typing.{Signature}
use Rattle.qw_module.specs.Places.{Typing, tokens_of, IsTypable}
use Rattle.qw_module.specs.Validity.{code_of_body, declared_types, signature_of, signature_in, outside_of, imported_function, functions_of, IsValidImport, IsTypedFunction, IsValidFunction}
use Rattle.qw_module.proofs.PlaceLemmas.{typed_body}
use Rattle.qw_valid.specs.ValidFaults.{HasBody, typing_with_signature, typing_in}

-- all functions of a module have their types there
types_there : (m : Module) (imports : List Import) (functions : List Function) → AllByRecursion (IsValidImport m) imports → AllByRecursion (HasBody m) functions →
    AllByRecursion (λ type. type < length m.types.items) (filter_map imported_function imports ++ map (λ (function : Function). function.type_index) functions)
types_there m [] [] valid bodies = tt
types_there m [] (f ∷ functions) valid bodies = (bodies.0.0, types_there m [] functions tt bodies.1)
types_there m (import.Memory limits ∷ imports) functions valid bodies = types_there m imports functions valid.1 bodies
types_there m (import.Raise type ∷ imports) functions valid bodies = (valid.0, types_there m imports functions valid.1 bodies)
types_there m (import.Pages type ∷ imports) functions valid bodies = (valid.0, types_there m imports functions valid.1 bodies)

pub have_types : (m : Module) → All (IsValidImport m) m.imports.items → All (HasBody m) m.functions.items → All (λ type. type < length m.types.items) (functions_of m)
have_types m imports functions = All-from_recursion (λ type. type < length m.types.items) (functions_of m)
    (types_there m m.imports.items m.functions.items (recursion_from_All (IsValidImport m) m.imports.items imports) (recursion_from_All (HasBody m) m.functions.items functions))

pub signature_is : (m : Module) (type : ℕ) (ty : FuncType) → slice_get m.types.items type ≡ Some ty → signature_in m type ≡ signature_of ty
signature_is m type ty found = ap (λ (o : Option FuncType). let empty : Signature = record { params = []; results = [] } in option_map_or signature_of o empty) found

-- by the type that was found
pub typing_is : (m : Module) (function : Function) (ty : FuncType) → slice_get m.types.items function.type_index ≡ Some ty →
    typing_in m function ≡ typing_with_signature m function (signature_of ty)
typing_is m function ty found = ap (typing_with_signature m function) (signature_is m function.type_index ty found)

is_some_and_of : {A : Type 0} (o : Option A) (P : A → Type 0) (x : A) → o ≡ Some x → P x → IsSomeAnd o P
is_some_and_of o P x e p = rw e p

pub valid_function : (m : Module) (function : Function) (ty : FuncType) → slice_get m.types.items function.type_index ≡ Some ty → HasBody m function →
    IsTypable (typing_with_signature m function (signature_of ty)) (tokens_of (code_of_body function.body)) → IsValidFunction m function
valid_function m function ty found has typable =
    is_some_and_of (slice_get m.types.items function.type_index) (IsTypedFunction m function) ty found
    (record { numbered = has.1; typed = typed_body (typing_with_signature m function (signature_of ty)) (code_of_body function.body) typable })

-- the typing that a checker has
pub typing_same : (m : Module) (function : Function) (ty : FuncType) (params declared results : List ValType) →
    params ≡ ty.params.items → declared ≡ declared_types function.locals.items → results ≡ reverse ty.results.items →
    typing_with (outside_of m) params declared results ≡ typing_with_signature m function (signature_of ty)
typing_same m function ty params declared results a b c = rw (a, b, c) refl

pub valid_by : {A E : Type 0} (r : Result A E) (m : Module) (function : Function) (ty : FuncType) (f : Typing) → f ≡ typing_with_signature m function (signature_of ty) →
    slice_get m.types.items function.type_index ≡ Some ty → HasBody m function → OnOk r (IsTypable f (tokens_of (code_of_body function.body))) → OnOk r (IsValidFunction m function)
valid_by (Ok value) m function ty f same found has typable =
    valid_function m function ty found has (subst (λ (g : Typing). IsTypable g (tokens_of (code_of_body function.body))) same typable)
valid_by (Err fault) m function ty f same found has typable = tt
