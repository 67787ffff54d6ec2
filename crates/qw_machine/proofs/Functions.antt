-- A module's own function by its number: that it is there, its type, its body, and the store that it runs over.
use Rattle.std.proofs.Common.{◌≡◌, ℕ, ◌<◌, List, length, get_or, Option, None, Some, IsSomeAnd, slice_get, refl, subst, ⊎_elim, arith}
use Rattle.std.proofs.lemmas.Option.{slice_get_within, slice_get_cases, get_or_from_slice_get}
use Rattle.qw_module.specs.declared.module.FuncType.{FuncType}
use Rattle.qw_module.specs.declared.module.Function.{Function}
use Rattle.qw_module.specs.declared.module.Module.{Module}
use Rattle.qw_module.specs.Syntax.{IsNumbered}
use Rattle.qw_module.specs.Validity.{sequences_of, IsTypedFunction, IsValidFunction, IsValid}
use Rattle.qw_module.specs.Start.{body_of}

-- what is there, with its element
some_and : {T : Type 0} (o : Option T) (P : T → Type 0) → IsSomeAnd o P → (x : T) × (o ≡ Some x) × P x
some_and None P holds = absurd holds
some_and (Some x) P holds = (x, refl, holds)

pub element_there : {T : Type 0} (xs : List T) (i : ℕ) → i < length xs → (x : T) × (slice_get xs i ≡ Some x)
element_there {T} xs i inside =
    ⊎_elim (λ there. (there.0, there.2)) (λ past. absurd (omega (arith, inside, past.0))) (slice_get_cases xs i).1

-- a function of a valid module is valid
pub valid_function : (m : Module) (number : ℕ) (function : Function) → IsValid m → slice_get m.functions.items number ≡ Some function →
    IsValidFunction m function
valid_function m number function valid found =
    let inside = slice_get_within m.functions.items number function found in
    let same : get_or m.functions.items number function ≡ function = get_or_from_slice_get m.functions.items number function function found in
    subst (λ (f : Function). IsValidFunction m f) same (valid.functions number function inside)

-- it has a type, and its body is of this type
pub typed_function : (m : Module) (number : ℕ) (function : Function) → IsValid m → slice_get m.functions.items number ≡ Some function →
    (type : FuncType) × (slice_get m.types.items function.type_index ≡ Some type) × IsTypedFunction m function type
typed_function m number function valid found =
    some_and (slice_get m.types.items function.type_index) (IsTypedFunction m function) (valid_function m number function valid found)

pub body_is : (m : Module) (number : ℕ) (function : Function) → slice_get m.functions.items number ≡ Some function →
    body_of m number ≡ sequences_of function.body
body_is m number function found = rw found refl

-- the body of a function of a valid module is numbered
pub numbered-of : (m : Module) → IsValid m → (number : ℕ) → number < length m.functions.items → IsNumbered (body_of m number)
numbered-of m valid number inside =
    let there = element_there m.functions.items number inside in
    rw (body_is m number there.0 there.1) (typed_function m number there.0 valid there.1).2.numbered
