-- When a module is valid (WebAssembly Core Specification 1.0, 3.2 and 3.4).
use Rattle.std.specs.Prelude.{◌≡◌, ◌≢◌, ℕ, ◌+◌, ◌^◌, ◌<◌, ◌≤◌, List, [], ◌∷◌, ◌++◌, length, map, reverse, replicate, codes, All, Contains, Option, Some, None, IfSome, IsSomeAnd, slice_get}
use Rattle.std.specs.List.{filter_map, AllByRecursion, AllPairs}
use Rattle.std.specs.Option.{option_map_or}
use Rattle.std.specs.String.{string_bytes}
use Rattle.std.specs.Global.{Vec}
use Rattle.qw_module.specs.declared.instruction.ValType.{ValType}
use Rattle.qw_module.specs.declared.instruction.ValType.TheVariants.{I32}
use Rattle.qw_module.specs.declared.instruction.Const.{Const}
use Rattle.qw_module.specs.declared.instruction.Op.TheVariants as o
use Rattle.qw_module.specs.declared.instruction.Instr.{Instr}
use Rattle.qw_module.specs.declared.instruction.Instr.TheVariants as i
use Rattle.qw_module.specs.declared.module.Locals.{Locals}
use Rattle.qw_module.specs.declared.module.FuncType.{FuncType}
use Rattle.qw_module.specs.declared.module.Limits.{Limits}
use Rattle.qw_module.specs.declared.module.Import.{Import}
use Rattle.qw_module.specs.declared.module.Import.TheVariants as import
use Rattle.qw_module.specs.declared.module.Body.{Body}
use Rattle.qw_module.specs.declared.module.Function.{Function}
use Rattle.qw_module.specs.declared.module.Global.{Global}
use Rattle.qw_module.specs.declared.module.Export.{Export}
use Rattle.qw_module.specs.declared.module.ExportKind.{ExportKind}
use Rattle.qw_module.specs.declared.module.ExportKind.TheVariants as kind
use Rattle.qw_module.specs.declared.module.Module.{Module}
use Rattle.qw_module.specs.Numbers.{values_of, constant, type_of_constant}
use Rattle.qw_module.specs.Syntax.{Code, done, op, Sequences, code_of, IsNumbered}
use Rattle.qw_module.specs.Typing.{Signature, GlobalType, Outside, Scope, scope_of, Typed}

-- the sequences of a body, and the code that it stands for
abbrev pub items_of : List (Vec Instr) → List (List Instr)
items_of sequences = map (λ (sequence : Vec Instr). sequence.items) sequences

abbrev pub sequences_of : Body → Sequences
sequences_of body = record { each = items_of body.sequences.items; labels = body.labels.items }

abbrev pub code_of_body : Body → Code
code_of_body body = code_of (sequences_of body)

-- the types of a function's locals after its parameters: each run is so many of its type (5.5.13)
abbrev pub declared_types : List Locals → List ValType
declared_types [] = []
declared_types (run ∷ runs) = replicate run.count run.ty ++ declared_types runs

-- what an import adds to the functions, as the index of its type, and to the memories
abbrev pub imported_function : Import → Option ℕ
imported_function (import.Memory limits) = None
imported_function (import.Raise type) = Some type
imported_function (import.Pages type) = Some type

abbrev pub imported_memory : Import → Option Limits
imported_memory (import.Memory limits) = Some limits
imported_memory (import.Raise type) = None
imported_memory (import.Pages type) = None

-- The functions of a module by the indices of their types, and its memories, the imported ones first (2.5.1).
abbrev pub imported_functions : Module → List ℕ
imported_functions m = filter_map imported_function m.imports.items

abbrev pub functions_of : Module → List ℕ
functions_of m = imported_functions m ++ map (λ (function : Function). function.type_index) m.functions.items

abbrev pub memories_of : Module → List Limits
memories_of m = filter_map imported_memory m.imports.items ++ m.memories.items

-- a function has at most one result (3.2.2)
abbrev pub IsValidType : FuncType → Type 0
IsValidType type = length type.results.items ≤ 1

-- how many pages a memory may have by its limits (3.2.4); how many one has here at most is `most_pages`
abbrev pub page_limit : ℕ
page_limit = 2 ^ 16

-- a memory has at most 2^16 pages, and no greatest number of them below the least (3.2.1 and 3.2.4)
abbrev pub IsValidMemory : Limits → Type 0
IsValidMemory limits = (limits.min ≤ page_limit) × IfSome limits.max (λ greatest. (greatest ≤ page_limit) × (limits.min ≤ greatest))

-- an imported memory is within the limits of one, and an imported function has a type of the module (3.4.9)
abbrev pub IsValidImport : Module → Import → Type 0
IsValidImport m (import.Memory limits) = IsValidMemory limits
IsValidImport m (import.Raise type) = type < length m.types.items
IsValidImport m (import.Pages type) = type < length m.types.items

-- A numbered body is the initial expression of a global of this type: the code that it stands for is one constant of the type
-- (3.3.7 and 3.4.4). An expression may read imported globals too, of which the profile has none.
pub record IsInitial (type : ValType) (sequences : Sequences) : Type 0 where
  pub numbered : IsNumbered sequences
  pub value : Const
  pub alone : code_of sequences ≡ op (o.Const value) done
  pub of_type : type_of_constant value ≡ type
  pub below : constant value < values_of type

abbrev pub IsValidGlobal : Global → Type 0
IsValidGlobal global = IsInitial global.ty (sequences_of global.init)

-- what is exported is in the module (3.4.8)
abbrev pub IsExportedOf : Module → ExportKind → Type 0
IsExportedOf m (kind.Function index) = index < length (functions_of m)
IsExportedOf m (kind.Memory index) = index < length (memories_of m)
IsExportedOf m (kind.Global index) = index < length m.globals.items

abbrev pub IsExport : Module → Export → Type 0
IsExport m export = IsExportedOf m export.kind

-- the types of functions by the indices of these; a type that isn't there is read as one that takes and leaves nothing
abbrev pub signature_of : FuncType → Signature
signature_of type = record { params = type.params.items; results = type.results.items }

abbrev pub signature_in : Module → ℕ → Signature
signature_in m index = option_map_or signature_of (slice_get m.types.items index) (record { params = []; results = [] })

abbrev pub global_type : Global → GlobalType
global_type global = record { type = global.ty; mutable = global.mutable }

-- what the code of a module may name: all its functions, imported or its own, its globals and its memories (3.4.10)
abbrev pub outside_of : Module → Outside
outside_of m =
    record {
      functions = map (signature_in m) (functions_of m);
      globals = map global_type m.globals.items;
      memories = length (memories_of m);
    }

-- what the body of a function is typed under: its locals begin with its parameters, and its outermost label takes its results (3.4.1)
abbrev pub function_scope : Outside → Signature → (declared : List ValType) → Scope
function_scope outside signature declared =
    scope_of outside (signature.params ++ declared) (reverse signature.results) (reverse signature.results ∷ [])

-- A function of a module, whose type this is, is valid: its body is numbered, and the code that it stands for leads from no
-- operands to its results (3.4.1).
pub record IsTypedFunction (m : Module) (function : Function) (type : FuncType) : Type 0 where
  pub numbered : IsNumbered (sequences_of function.body)
  pub typed : Typed (function_scope (outside_of m) (signature_of type) (declared_types function.locals.items)) (code_of_body function.body) []
      (reverse type.results.items)

abbrev pub IsValidFunction : Module → Function → Type 0
IsValidFunction m function = IsSomeAnd (slice_get m.types.items function.type_index) (IsTypedFunction m function)

-- no two exports have one name (3.4.10)
abbrev pub HaveOtherNames : Export → Export → Type 0
HaveOtherNames one other = string_bytes one.name ≢ string_bytes other.name

-- A valid module (3.4.10).
pub record IsValid (m : Module) : Type 0 where
  pub types : All IsValidType m.types.items
  pub imports : All (IsValidImport m) m.imports.items
  pub functions : All (IsValidFunction m) m.functions.items
  pub memories : All IsValidMemory m.memories.items
  pub one_memory : length (memories_of m) ≤ 1
  pub globals : All IsValidGlobal m.globals.items
  pub exports : All (IsExport m) m.exports.items
  pub names : AllPairs HaveOtherNames m.exports.items

-- a function's type: one i32, and no result
abbrev pub TakesOneI32 : FuncType → Type 0
TakesOneI32 type = (type.params.items ≡ I32 ∷ []) × (type.results.items ≡ [])

abbrev pub IsOneI32 : Module → ℕ → Type 0
IsOneI32 m type = IsSomeAnd (slice_get m.types.items type) TakesOneI32

-- a function's type: one i32, and one i32 as its result
abbrev pub TakesAndLeavesI32 : FuncType → Type 0
TakesAndLeavesI32 type = (type.params.items ≡ I32 ∷ []) × (type.results.items ≡ I32 ∷ [])

abbrev pub IsI32ToI32 : Module → ℕ → Type 0
IsI32ToI32 m type = IsSomeAnd (slice_get m.types.items type) TakesAndLeavesI32

-- an import is linked to what is of its own type
abbrev pub IsLinked : Module → Import → Type 0
IsLinked m (import.Memory limits) = Unit {0}
IsLinked m (import.Raise type) = IsOneI32 m type
IsLinked m (import.Pages type) = IsI32ToI32 m type

-- The shape that is executed: the module imports the memory and the function `raise`, it may import the function `pages`, and exports its
-- own function of this number as `run`; `run` and `raise` take one i32 and leave nothing, and `pages` takes one and leaves one.
pub record IsShaped (m : Module) (number : ℕ) : Type 0 where
  pub memory : (limits : Limits) × Contains m.imports.items (import.Memory limits)
  pub raise : (type : ℕ) × Contains m.imports.items (import.Raise type)
  pub linked : All (IsLinked m) m.imports.items
  pub run : IsSomeAnd (slice_get m.functions.items number) (λ (function : Function). IsOneI32 m function.type_index)
  pub exported : (export : Export) × Contains m.exports.items export × (string_bytes export.name ≡ codes "run") × (export.kind ≡ kind.Function (length (imported_functions m) + number))

-- an instruction calls only functions of indices below n
abbrev pub CallsBelow : ℕ → Instr → Type 0
CallsBelow n (i.Call index) = index < n
CallsBelow n _ = Unit {0}

-- the own function of this number calls only functions numbered below it, the imported ones before all its own
abbrev pub DescendsAt : Module → (number : ℕ) → Function → Type 0
DescendsAt m number function =
    AllByRecursion (AllByRecursion (CallsBelow (length (imported_functions m) + number))) (items_of function.body.sequences.items)

-- all functions call downwards only, so no function is ever called within itself
abbrev pub IsDescending : Module → Type 0
IsDescending m = (number : ℕ) (function : Function) → slice_get m.functions.items number ≡ Some function → DescendsAt m number function
