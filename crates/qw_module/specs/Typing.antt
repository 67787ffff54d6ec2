-- Validity (WebAssembly Core Specification 1.0, 3): the typing rules of instruction sequences.
use Rattle.std.specs.Prelude.{◌≡◌, ℕ, ◌<◌, ◌≤◌, ◌^◌, Bool, true, List, [], ◌∷◌, ◌++◌, reverse, Option, Some, None, slice_get}
use Rattle.std.specs.List.{AllByRecursion}
use Rattle.qw_module.specs.declared.instruction.ValType.{ValType}
use Rattle.qw_module.specs.declared.instruction.ValType.TheVariants.{I32}
use Rattle.qw_module.specs.declared.instruction.Op.{Op}
use Rattle.qw_module.specs.declared.instruction.Op.TheVariants.{Nop, Drop, Select, LocalGet, LocalSet, LocalTee, GlobalGet, GlobalSet, Eqz, Convert, MemorySize, MemoryGrow}
use Rattle.qw_module.specs.declared.instruction.Op.TheVariants as o
use Rattle.qw_module.specs.declared.instruction.Const.{Const}
use Rattle.qw_module.specs.declared.instruction.Unary.{Unary}
use Rattle.qw_module.specs.declared.instruction.Binary.{Binary}
use Rattle.qw_module.specs.declared.instruction.Division.{Division}
use Rattle.qw_module.specs.declared.instruction.Relation.{Relation}
use Rattle.qw_module.specs.declared.instruction.Conversion.{Conversion}
use Rattle.qw_module.specs.declared.instruction.Load.{Load}
use Rattle.qw_module.specs.declared.instruction.Store.{Store}
use Rattle.qw_module.specs.declared.instruction.MemArg.{MemArg}
use Rattle.qw_module.specs.Syntax.{Code, done, op, unreachable, block, loop, if_then, if_else, br, br_if, br_table, return, call}
use Rattle.qw_module.specs.Numbers.{values_of, constant, type_of_constant, converts_from, converts_to, type_of_load, load_width, type_of_store, store_width}

-- the types of a block's results (2.3.2)
abbrev pub types_of : Option ValType → List ValType
types_of None = []
types_of (Some type) = type ∷ []

-- a function's type: its parameters and its results, in order (2.3.3)
pub record Signature : Type 0 where
  pub params : List ValType
  pub results : List ValType

-- a global's type, and whether it may be set (2.3.7)
pub record GlobalType : Type 0 where
  pub type : ValType
  pub mutable : Bool

-- what a module has that its code may name (3.1.1): functions and globals by their indices, and so many memories
pub record Outside : Type 0 where
  pub functions : List Signature
  pub globals : List GlobalType
  pub memories : ℕ

-- What a sequence is typed under (3.1.1): what the module has, the types of the function's locals and of its results, and for
-- each label, from the innermost out, the types of the operands that a branch to it takes. Of operands the last one's type
-- stands first.
pub record Scope : Type 0 where
  pub outside : Outside
  pub locals : List ValType
  pub results : List ValType
  pub labels : List (List ValType)

abbrev pub scope_of : Outside → (locals results : List ValType) → (labels : List (List ValType)) → Scope
scope_of outside locals results labels = record { outside = outside; locals = locals; results = results; labels = labels }

-- with one more label
abbrev pub within : Scope → List ValType → Scope
within scope types = scope_of scope.outside scope.locals scope.results (types ∷ scope.labels)

-- a label of this index takes these
abbrev pub Takes : Scope → ℕ → List ValType → Type 0
Takes scope index taken = slice_get scope.labels index ≡ Some taken

-- OpTyped scope o before after: the types of the operands before the instruction and after it, the last one first.
pub data OpTyped : Scope → Op → List ValType → List ValType → Type 0 where
  -- 3.3.5 and 3.3.2
  typed-nop : (scope : Scope) (types : List ValType) → OpTyped scope Nop types types
  typed-drop : (scope : Scope) (types : List ValType) (t : ValType) → OpTyped scope Drop (t ∷ types) types
  typed-select : (scope : Scope) (types : List ValType) (t : ValType) → OpTyped scope Select (I32 ∷ t ∷ t ∷ types) (t ∷ types)
  -- 3.3.3
  typed-local_get : (scope : Scope) (types : List ValType) (x : ℕ) (t : ValType) → slice_get scope.locals x ≡ Some t →
      OpTyped scope (LocalGet x) types (t ∷ types)
  typed-local_set : (scope : Scope) (types : List ValType) (x : ℕ) (t : ValType) → slice_get scope.locals x ≡ Some t →
      OpTyped scope (LocalSet x) (t ∷ types) types
  typed-local_tee : (scope : Scope) (types : List ValType) (x : ℕ) (t : ValType) → slice_get scope.locals x ≡ Some t →
      OpTyped scope (LocalTee x) (t ∷ types) (t ∷ types)
  typed-global_get : (scope : Scope) (types : List ValType) (x : ℕ) (g : GlobalType) → slice_get scope.outside.globals x ≡ Some g →
      OpTyped scope (GlobalGet x) types (g.type ∷ types)
  typed-global_set : (scope : Scope) (types : List ValType) (x : ℕ) (g : GlobalType) → slice_get scope.outside.globals x ≡ Some g → g.mutable ≡ true →
      OpTyped scope (GlobalSet x) (g.type ∷ types) types
  -- 3.3.1; a constant is a value of its type (2.2.2)
  typed-const : (scope : Scope) (types : List ValType) (c : Const) → constant c < values_of (type_of_constant c) →
      OpTyped scope (o.Const c) types (type_of_constant c ∷ types)
  typed-unary : (scope : Scope) (types : List ValType) (t : ValType) (u : Unary) → OpTyped scope (o.Unary t u) (t ∷ types) (t ∷ types)
  typed-binary : (scope : Scope) (types : List ValType) (t : ValType) (b : Binary) → OpTyped scope (o.Binary t b) (t ∷ t ∷ types) (t ∷ types)
  typed-division : (scope : Scope) (types : List ValType) (t : ValType) (d : Division) → OpTyped scope (o.Division t d) (t ∷ t ∷ types) (t ∷ types)
  typed-eqz : (scope : Scope) (types : List ValType) (t : ValType) → OpTyped scope (Eqz t) (t ∷ types) (I32 ∷ types)
  typed-relation : (scope : Scope) (types : List ValType) (t : ValType) (r : Relation) → OpTyped scope (o.Relation t r) (t ∷ t ∷ types) (I32 ∷ types)
  typed-convert : (scope : Scope) (types : List ValType) (v : Conversion) → OpTyped scope (Convert v) (converts_from v ∷ types) (converts_to v ∷ types)
  -- 3.3.4; there is a memory, and the alignment is at most the access's octets. Alignment and offset are any natural numbers here,
  -- and u32 in the code.
  typed-load : (scope : Scope) (types : List ValType) (l : Load) (arg : MemArg) → 1 ≤ scope.outside.memories → 2 ^ arg.align ≤ load_width l →
      OpTyped scope (o.Load l arg) (I32 ∷ types) (type_of_load l ∷ types)
  typed-store : (scope : Scope) (types : List ValType) (s : Store) (arg : MemArg) → 1 ≤ scope.outside.memories → 2 ^ arg.align ≤ store_width s →
      OpTyped scope (o.Store s arg) (type_of_store s ∷ I32 ∷ types) types
  typed-size : (scope : Scope) (types : List ValType) → 1 ≤ scope.outside.memories → OpTyped scope MemorySize types (I32 ∷ types)
  typed-grow : (scope : Scope) (types : List ValType) → 1 ≤ scope.outside.memories → OpTyped scope MemoryGrow (I32 ∷ types) (I32 ∷ types)

-- Typed scope code before after: the sequence leads from operands of these types to operands of those (3.3.6).
-- After an unconditional branch the operands may have any types (3.3.5, br).
pub data Typed : Scope → Code → List ValType → List ValType → Type 0 where
  typed-done : (scope : Scope) (types : List ValType) → Typed scope done types types
  typed-op : (scope : Scope) (o : Op) (rest : Code) (before middle after : List ValType) → OpTyped scope o before middle →
      Typed scope rest middle after → Typed scope (op o rest) before after
  typed-unreachable : (scope : Scope) (rest : Code) (before any after : List ValType) → Typed scope rest any after →
      Typed scope (unreachable rest) before after
  typed-block : (scope : Scope) (result : Option ValType) (inner rest : Code) (before after : List ValType) →
      Typed (within scope (types_of result)) inner [] (types_of result) → Typed scope rest (types_of result ++ before) after →
      Typed scope (block result inner rest) before after
  typed-loop : (scope : Scope) (result : Option ValType) (inner rest : Code) (before after : List ValType) →
      Typed (within scope []) inner [] (types_of result) → Typed scope rest (types_of result ++ before) after →
      Typed scope (loop result inner rest) before after
  -- an empty sequence leaves no result, so an `if` without `else` has none
  typed-if_then : (scope : Scope) (inner rest : Code) (before after : List ValType) →
      Typed (within scope []) inner [] [] → Typed scope rest before after → Typed scope (if_then None inner rest) (I32 ∷ before) after
  typed-if_else : (scope : Scope) (result : Option ValType) (inner other rest : Code) (before after : List ValType) →
      Typed (within scope (types_of result)) inner [] (types_of result) → Typed (within scope (types_of result)) other [] (types_of result) →
      Typed scope rest (types_of result ++ before) after → Typed scope (if_else result inner other rest) (I32 ∷ before) after
  typed-br : (scope : Scope) (index : ℕ) (rest : Code) (taken below any after : List ValType) → Takes scope index taken →
      Typed scope rest any after → Typed scope (br index rest) (taken ++ below) after
  typed-br_if : (scope : Scope) (index : ℕ) (rest : Code) (taken below after : List ValType) → Takes scope index taken →
      Typed scope rest (taken ++ below) after → Typed scope (br_if index rest) (I32 ∷ taken ++ below) after
  -- all labels take alike
  typed-br_table : (scope : Scope) (labels : List ℕ) (default : ℕ) (rest : Code) (taken below any after : List ValType) →
      AllByRecursion (λ index. Takes scope index taken) labels → Takes scope default taken →
      Typed scope rest any after → Typed scope (br_table labels default rest) (I32 ∷ taken ++ below) after
  typed-return : (scope : Scope) (rest : Code) (below any after : List ValType) → Typed scope rest any after →
      Typed scope (return rest) (scope.results ++ below) after
  -- the last operand is the last argument
  typed-call : (scope : Scope) (index : ℕ) (signature : Signature) (rest : Code) (types after : List ValType) →
      slice_get scope.outside.functions index ≡ Some signature → Typed scope rest (reverse signature.results ++ types) after →
      Typed scope (call index rest) (reverse signature.params ++ types) after
