-- What typed operands and locals are to an instruction, and how a function begins typed.
use Rattle.std.proofs.Common.{◌≡◌, ℕ, ◌<◌, List, [], ◌∷◌, ◌++◌, length, refl, append-nil}
use Rattle.qw_module.specs.declared.instruction.ValType.{ValType}
use Rattle.qw_module.specs.declared.instruction.ValType.TheVariants.{I32}
use Rattle.qw_module.specs.declared.instruction.Op.{Op}
use Rattle.qw_module.specs.declared.instruction.Op.TheVariants.{Nop, Drop, Select, LocalGet, LocalSet, LocalTee, GlobalGet, GlobalSet, Eqz, Convert, MemorySize, MemoryGrow}
use Rattle.qw_module.specs.declared.instruction.Op.TheVariants as o
use Rattle.qw_module.specs.Numbers.{values_of, constant, type_of_constant, converts_from, type_of_store}
use Rattle.qw_module.specs.Syntax.{Code, done}
use Rattle.qw_module.specs.Execution.{Store, label, settled}
use Rattle.qw_module.specs.Typing.{Scope, scope_of, OpTyped, typed-nop, typed-drop, typed-select, typed-local_get, typed-local_set, typed-local_tee, typed-global_get, typed-global_set, typed-const, typed-unary, typed-binary, typed-division, typed-eqz, typed-relation, typed-convert, typed-load, typed-store, typed-size, typed-grow, Typed, typed-done}
use Rattle.qw_module.specs.Soundness.{AreOf, AreGlobalsOf, IsStoreOf, IsTypedState}
use Rattle.qw_module.proofs.Sound.{local_there, global_there, settled-typed}

-- values of one type and more
pub first_of_types : (values : List ℕ) (t : ValType) (types : List ValType) → AreOf values (t ∷ types) →
    (v : ℕ) × (rest : List ℕ) × (values ≡ v ∷ rest) × (v < values_of t) × AreOf rest types
first_of_types [] t types are = absurd are
first_of_types (v ∷ rest) t types are = (v, rest, refl, are.0, are.1)

pub first_two_of_types : (values : List ℕ) (t u : ValType) (types : List ValType) → AreOf values (t ∷ u ∷ types) →
    (v w : ℕ) × (rest : List ℕ) × (values ≡ v ∷ w ∷ rest) × (v < values_of t) × (w < values_of u) × AreOf rest types
first_two_of_types [] t u types are = absurd are
first_two_of_types (v ∷ []) t u types are = absurd are.1
first_two_of_types (v ∷ w ∷ rest) t u types are = (v, w, rest, refl, are.0, are.1.0, are.1.1)

pub first_three_of_types : (values : List ℕ) (t u w : ValType) (types : List ValType) → AreOf values (t ∷ u ∷ w ∷ types) →
    (x y z : ℕ) × (rest : List ℕ) × (values ≡ x ∷ y ∷ z ∷ rest) × (x < values_of t) × (y < values_of u) × (z < values_of w) × AreOf rest types
first_three_of_types [] t u w types are = absurd are
first_three_of_types (x ∷ []) t u w types are = absurd are.1
first_three_of_types (x ∷ y ∷ []) t u w types are = absurd are.1.1
first_three_of_types (x ∷ y ∷ z ∷ rest) t u w types are = (x, y, z, rest, refl, are.0, are.1.0, are.1.1.0, are.1.1.1)

-- The facts of an instruction, over the operands, locals and globals alone.
abbrev pub HasOne : ValType → List ℕ → Type 0
HasOne t operands = (x : ℕ) × (rest : List ℕ) × (operands ≡ x ∷ rest) × (x < values_of t)

abbrev pub HasTwo : ValType → ValType → List ℕ → Type 0
HasTwo t u operands = (y x : ℕ) × (rest : List ℕ) × (operands ≡ y ∷ x ∷ rest) × (y < values_of t) × (x < values_of u)

abbrev pub HasFor : Op → (globals operands locals : List ℕ) → Type 0
HasFor Nop globals operands locals = Unit {0}
HasFor Drop globals operands locals = (v : ℕ) × (rest : List ℕ) × (operands ≡ v ∷ rest)
HasFor Select globals operands locals = (n y x : ℕ) × (rest : List ℕ) × (operands ≡ n ∷ y ∷ x ∷ rest)
HasFor (LocalGet x) globals operands locals = x < length locals
HasFor (LocalSet x) globals operands locals = (v : ℕ) × (rest : List ℕ) × (operands ≡ v ∷ rest) × (x < length locals)
HasFor (LocalTee x) globals operands locals = (v : ℕ) × (rest : List ℕ) × (operands ≡ v ∷ rest) × (x < length locals)
HasFor (GlobalGet x) globals operands locals = x < length globals
HasFor (GlobalSet x) globals operands locals = (v : ℕ) × (rest : List ℕ) × (operands ≡ v ∷ rest) × (x < length globals)
HasFor (o.Const k) globals operands locals = constant k < values_of (type_of_constant k)
HasFor (o.Unary t u) globals operands locals = HasOne t operands
HasFor (o.Binary t b) globals operands locals = HasTwo t t operands
HasFor (o.Division t d) globals operands locals = HasTwo t t operands
HasFor (Eqz t) globals operands locals = HasOne t operands
HasFor (o.Relation t r) globals operands locals = HasTwo t t operands
HasFor (Convert v) globals operands locals = HasOne (converts_from v) operands
HasFor (o.Load l arg) globals operands locals = HasOne I32 operands
HasFor (o.Store s arg) globals operands locals = HasTwo (type_of_store s) I32 operands
HasFor MemorySize globals operands locals = Unit {0}
HasFor MemoryGrow globals operands locals = HasOne I32 operands

has_one : (values : List ℕ) (t : ValType) (types : List ValType) → AreOf values (t ∷ types) → HasOne t values
has_one values t types are = let first = first_of_types values t types are in (first.0, first.1, first.2, first.3)

has_two : (values : List ℕ) (t u : ValType) (types : List ValType) → AreOf values (t ∷ u ∷ types) → HasTwo t u values
has_two values t u types are = let first = first_two_of_types values t u types are in (first.0, first.1, first.2, first.3, first.4, first.5)

pub has_for : (scope : Scope) (operator : Op) (before middle : List ValType) → OpTyped scope operator before middle →
    (globals operands values : List ℕ) → AreGlobalsOf globals scope.outside.globals → AreOf operands before → AreOf values scope.locals →
    HasFor operator globals operands values
has_for _ _ _ _ (typed-nop scope types) globals operands values are_globals are are_locals = tt
has_for _ _ _ _ (typed-drop scope types t) globals operands values are_globals are are_locals =
    let first = first_of_types operands t types are in (first.0, first.1, first.2)
has_for _ _ _ _ (typed-select scope types t) globals operands values are_globals are are_locals =
    let first = first_three_of_types operands I32 t t types are in (first.0, first.1, first.2, first.3, first.4)
has_for _ _ _ _ (typed-local_get scope types x t found) globals operands values are_globals are are_locals = local_there values scope.locals x t are_locals found
has_for _ _ _ _ (typed-local_set scope types x t found) globals operands values are_globals are are_locals =
    let first = first_of_types operands t types are in (first.0, first.1, first.2, local_there values scope.locals x t are_locals found)
has_for _ _ _ _ (typed-local_tee scope types x t found) globals operands values are_globals are are_locals =
    let first = first_of_types operands t types are in (first.0, first.1, first.2, local_there values scope.locals x t are_locals found)
has_for _ _ _ _ (typed-global_get scope types x g found) globals operands values are_globals are are_locals =
    global_there globals scope.outside.globals x g are_globals found
has_for _ _ _ _ (typed-global_set scope types x g found mutable) globals operands values are_globals are are_locals =
    let first = first_of_types operands g.type types are in (first.0, first.1, first.2, global_there globals scope.outside.globals x g are_globals found)
has_for _ _ _ _ (typed-const scope types k value) globals operands values are_globals are are_locals = value
has_for _ _ _ _ (typed-unary scope types t u) globals operands values are_globals are are_locals = has_one operands t types are
has_for _ _ _ _ (typed-binary scope types t b) globals operands values are_globals are are_locals = has_two operands t t types are
has_for _ _ _ _ (typed-division scope types t d) globals operands values are_globals are are_locals = has_two operands t t types are
has_for _ _ _ _ (typed-eqz scope types t) globals operands values are_globals are are_locals = has_one operands t types are
has_for _ _ _ _ (typed-relation scope types t r) globals operands values are_globals are are_locals = has_two operands t t types are
has_for _ _ _ _ (typed-convert scope types v) globals operands values are_globals are are_locals = has_one operands (converts_from v) types are
has_for _ _ _ _ (typed-load scope types l arg memory aligned) globals operands values are_globals are are_locals = has_one operands I32 types are
has_for _ _ _ _ (typed-store scope types st arg memory aligned) globals operands values are_globals are are_locals =
    has_two operands (type_of_store st) I32 types are
has_for _ _ _ _ (typed-size scope types memory) globals operands values are_globals are are_locals = tt
has_for _ _ _ _ (typed-grow scope types memory) globals operands values are_globals are are_locals = has_one operands I32 types are

-- The start of a function: its code over its locals, within the one label of its results (3.4.1).
pub start-typed : (scope : Scope) (store : Store) (code : Code) (values : List ℕ) → scope.labels ≡ scope.results ∷ [] → IsStoreOf scope.outside store →
    AreOf values scope.locals → Typed scope code [] scope.results →
    IsTypedState (settled store (label done (length scope.results) [] done ∷ []) code [] values)
start-typed scope store code values labels store_is are typed =
    let outer : Scope = scope_of scope.outside scope.locals scope.results [] in
    let finished : Typed outer done (scope.results ++ []) (scope.results ++ []) = typed-done outer (scope.results ++ []) in
    settled-typed (label done (length scope.results) [] done ∷ []) store code [] values scope [] scope.results store_is tt are typed (
      scope.results,
      [],
      scope.results ++ [],
      labels,
      record { below_types = []; arity_is = refl; below_are = tt; target_typed = finished; after_typed = finished },
      (refl, append-nil scope.results),
    )
