-- What each fault says of a module that is refused.
use Rattle.std.specs.Prelude.{◌≡◌, ℕ, ◌+◌, ◌<◌, ◌≤◌, ◌++◌, length, reverse, All, Some, slice_get}
use Rattle.std.specs.List.{AllPairs}
use Rattle.qw_module.specs.declared.module.Function.{Function}
use Rattle.qw_module.specs.declared.module.Module.{Module}
use Rattle.qw_valid.specs.declared.valid.Part.{Part}
use Rattle.qw_valid.specs.declared.valid.Part.TheVariants as part
use Rattle.qw_valid.specs.declared.valid.ValidFault.{ValidFault}
use Rattle.qw_valid.specs.declared.valid.ValidFault.TheVariants as fault
use Rattle.qw_module.specs.Syntax.{IsNumbered}
use Rattle.qw_module.specs.Typing.{Signature}
use Rattle.qw_module.specs.Places.{Typing, tokens_of, IsRefusedAt}
use Rattle.qw_module.specs.Validity.{sequences_of, code_of_body, declared_types, signature_in, outside_of, imported_functions, memories_of, IsValidType, IsValidMemory, IsValidImport, IsValidGlobal, IsExport, IsValidFunction, HaveOtherNames}

-- a function has a type of the module, and a numbered body
abbrev pub HasBody : Module → Function → Type 0
HasBody m function = (function.type_index < length m.types.items) × IsNumbered (sequences_of function.body)

-- a part is valid, bodies apart
abbrev pub PartHolds : Module → Part → Type 0
PartHolds m part.Types = All IsValidType m.types.items
PartHolds m part.Imports = All (IsValidImport m) m.imports.items
PartHolds m part.Functions = All (HasBody m) m.functions.items
PartHolds m part.Memory = All IsValidMemory m.memories.items × (length (memories_of m) ≤ 1)
PartHolds m part.Globals = All IsValidGlobal m.globals.items
PartHolds m part.Exports = All (IsExport m) m.exports.items × AllPairs HaveOtherNames m.exports.items

-- what a part comes after
abbrev pub place_of : Part → ℕ
place_of part.Types = 0
place_of part.Imports = 1
place_of part.Functions = 2
place_of part.Memory = 3
place_of part.Globals = 4
place_of part.Exports = 5

-- all parts before one are valid; all parts are
abbrev pub BeforeHold : Module → ℕ → Type 0
BeforeHold m n = (p : Part) → place_of p < n → PartHolds m p

abbrev pub ArePartsValid : Module → Type 0
ArePartsValid m = (p : Part) → PartHolds m p

-- what the body of a function is typed under
abbrev pub typing_with_signature : Module → Function → Signature → Typing
typing_with_signature m function signature =
    record { outside = outside_of m; locals = signature.params ++ declared_types function.locals.items; results = reverse signature.results }

abbrev pub typing_in : Module → Function → Typing
typing_in m function = typing_with_signature m function (signature_in m function.type_index)

-- The first part that isn't valid; or the first function whose body isn't typed, counted among all functions, and there the first
-- place refused; or want of memory.
abbrev pub IsFault : ValidFault → Module → Type 0
IsFault (fault.Part p) m = BeforeHold m (place_of p) × (¬ PartHolds m p)
IsFault (fault.Body func at) m =
    ArePartsValid m × (number : ℕ) × (function : Function) × (func ≡ length (imported_functions m) + number)
    × (slice_get m.functions.items number ≡ Some function)
    × ((k : ℕ) (earlier : Function) → k < number → slice_get m.functions.items k ≡ Some earlier → IsValidFunction m earlier)
    × IsRefusedAt (typing_in m function) (tokens_of (code_of_body function.body)) at
IsFault fault.NoMemory m = Unit {0}
