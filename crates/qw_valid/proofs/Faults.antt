-- What a fault tells of its module: it isn't valid.
use Rattle.std.proofs.Common.{◌≡◌, ◌≢◌, ℕ, ◌+◌, ◌<◌, length, get_or, All, Option, Some, None, slice_get, refl, sym, subst}
use Rattle.std.specs.Prelude.{IsSomeAnd, Result, Ok, Err, OnOk}
use Rattle.std.proofs.lemmas.Option.{slice_get_within, slice_get_read, get_or_from_slice_get}
use Rattle.qw_module.specs.declared.module.FuncType.{FuncType}
use Rattle.qw_module.specs.declared.module.Function.{Function}
use Rattle.qw_module.specs.declared.module.Module.{Module}
use Rattle.qw_valid.specs.declared.valid.Part.{Part}
use Rattle.qw_valid.specs.declared.valid.Part.TheVariants as part
use Rattle.qw_valid.specs.declared.valid.ValidFault.{ValidFault}
use Rattle.qw_valid.specs.declared.valid.ValidFault.TheVariants as refusal
use Rattle.qw_valid.specs.declared.walk.BodyFault.{BodyFault}
use Rattle.qw_valid.specs.declared.walk.BodyFault.TheVariants as body
use Rattle.qw_module.specs.Places.{Typing, tokens_of, IsRefusedAt}
use Rattle.qw_module.specs.Validity.{code_of_body, signature_of, imported_functions, IsTypedFunction, IsValidFunction, IsValid}
use Rattle.qw_module.proofs.PlaceLemmas.{typable_body, none_refused}
use Rattle.qw_valid.specs.Inner.Refusals.{fault_in}
use Rattle.qw_valid.specs.ValidFaults.{HasBody, PartHolds, ArePartsValid, typing_with_signature, typing_in, IsFault}
use Rattle.qw_valid.proofs.ValidBodies.{typing_is}

-- a valid function has a type, and a numbered body
body_there : (m : Module) (function : Function) (o : Option FuncType) → slice_get m.types.items function.type_index ≡ o → IsSomeAnd o (IsTypedFunction m function) → HasBody m function
body_there m function None e valid = absurd valid
body_there m function (Some ty) e valid = (slice_get_within m.types.items function.type_index ty e, valid.numbered)

has_body : (m : Module) (function : Function) → IsValidFunction m function → HasBody m function
has_body m function valid = body_there m function (slice_get m.types.items function.type_index) refl valid

-- none of whose places is refused
typed_there : (m : Module) (function : Function) (at : ℕ) (o : Option FuncType) → slice_get m.types.items function.type_index ≡ o → IsSomeAnd o (IsTypedFunction m function) →
    IsRefusedAt (typing_in m function) (tokens_of (code_of_body function.body)) at → ⊥
typed_there m function at None e valid refused = absurd valid
typed_there m function at (Some ty) e valid refused =
    let f = typing_with_signature m function (signature_of ty) in
    none_refused f (tokens_of (code_of_body function.body)) at (typable_body f (code_of_body function.body) valid.typed)
    (subst (λ (g : Typing). IsRefusedAt g (tokens_of (code_of_body function.body)) at) (typing_is m function ty e) refused)

not_refused : (m : Module) (function : Function) (at : ℕ) → IsValidFunction m function →
    IsRefusedAt (typing_in m function) (tokens_of (code_of_body function.body)) at → ⊥
not_refused m function at valid refused = typed_there m function at (slice_get m.types.items function.type_index) refl valid refused

-- all parts of a valid module are valid
pub parts_of : (m : Module) → IsValid m → (p : Part) → PartHolds m p
parts_of m valid part.Types = valid.types
parts_of m valid part.Imports = valid.imports
parts_of m valid part.Functions = λ n d h. has_body m (get_or m.functions.items n d) (valid.functions n d h)
parts_of m valid part.Memory = (valid.memories, valid.one_memory)
parts_of m valid part.Globals = valid.globals
parts_of m valid part.Exports = (valid.exports, valid.names)

valid_at : (m : Module) (number : ℕ) (function : Function) → IsValid m → slice_get m.functions.items number ≡ Some function → IsValidFunction m function
valid_at m number function valid found =
    subst (IsValidFunction m) (get_or_from_slice_get m.functions.items number function function found)
    (valid.functions number function (slice_get_within m.functions.items number function found))

-- a module with a fault isn't valid, unless memory was wanting
pub fault_invalid : (fault : ValidFault) (m : Module) → IsFault fault m → fault ≢ refusal.NoMemory → IsValid m → ⊥
fault_invalid (refusal.Part p) m (before, fails) other valid = fails (parts_of m valid p)
fault_invalid (refusal.Body func at) m (parts, number, function, func_is, found, earlier, refused) other valid =
    not_refused m function at (valid_at m number function valid found) refused
fault_invalid refusal.NoMemory m unit other valid = other refl

-- a module whose parts and functions are valid is
valid_module : (m : Module) → ArePartsValid m → All (IsValidFunction m) m.functions.items → IsValid m
valid_module m parts functions = record {
  types = parts part.Types;
  imports = parts part.Imports;
  functions = functions;
  memories = (parts part.Memory).0;
  one_memory = (parts part.Memory).1;
  globals = parts part.Globals;
  exports = (parts part.Exports).0;
  names = (parts part.Exports).1;
}

pub valid_if_functions : {A E : Type 0} (r : Result A E) (m : Module) → ArePartsValid m → OnOk r (All (IsValidFunction m) m.functions.items) → OnOk r (IsValid m)
valid_if_functions (Ok value) m parts functions = valid_module m parts functions
valid_if_functions (Err fault) m parts functions = tt

-- the functions before one, read from the list
earlier_valid : (m : Module) (number : ℕ) → number < length m.functions.items →
    ((k : ℕ) (d : Function) → k < number → IsValidFunction m (get_or m.functions.items k d)) →
    (k : ℕ) (earlier : Function) → k < number → slice_get m.functions.items k ≡ Some earlier → IsValidFunction m earlier
earlier_valid m number within valid k earlier less found =
    subst (IsValidFunction m) (get_or_from_slice_get m.functions.items k earlier earlier found) (valid k earlier less)

-- the first function that is refused
pub body_fault : (m : Module) (number func at : ℕ) (function : Function) → ArePartsValid m → number < length m.functions.items → function ≡ get_or m.functions.items number function →
    func ≡ length (imported_functions m) + number → ((k : ℕ) (d : Function) → k < number → IsValidFunction m (get_or m.functions.items k d)) →
    IsRefusedAt (typing_in m function) (tokens_of (code_of_body function.body)) at → IsFault (refusal.Body func at) m
body_fault m number func at function parts within is func_is valid refused =
    (parts, number, function, func_is, slice_get_read m.functions.items (length m.functions.items) number function refl within is, earlier_valid m number within valid, refused)

-- what the fault of its body says
pub fault_is : {A : Type 0} (r : Result A BodyFault) (why : BodyFault) (m : Module) (number func : ℕ) (function : Function) (fault : ValidFault) → r ≡ Err why → ArePartsValid m →
    number < length m.functions.items → function ≡ get_or m.functions.items number function → func ≡ length (imported_functions m) + number →
    ((k : ℕ) (d : Function) → k < number → IsValidFunction m (get_or m.functions.items k d)) →
    ((at : ℕ) → r ≡ Err (body.At at) → IsRefusedAt (typing_in m function) (tokens_of (code_of_body function.body)) at) → fault ≡ fault_in func why → IsFault fault m
fault_is r (body.At at) m number func function fault refused_is parts within is func_is valid refused e =
    subst (λ (f : ValidFault). IsFault f m) (sym e) (body_fault m number func at function parts within is func_is valid (refused at refused_is))
fault_is r body.NoMemory m number func function fault refused_is parts within is func_is valid refused e =
    subst (λ (f : ValidFault). IsFault f m) (sym e) tt
