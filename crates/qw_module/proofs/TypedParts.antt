-- What a typed operator says of the types before and after it, and a typed sequence of its first instruction and of what follows
-- it, read from their rules.
use Rattle.std.proofs.Common.{◌≡◌, ◌^◌, ◌<◌, ◌≤◌, true, List, [], ◌∷◌, ◌++◌, reverse, Some, None, slice_get, refl}
use Rattle.std.specs.List.{AllByRecursion}
use Rattle.qw_module.specs.declared.instruction.ValType.{ValType}
use Rattle.qw_module.specs.declared.instruction.ValType.TheVariants.{I32}
use Rattle.qw_module.specs.declared.instruction.Op.{Op}
use Rattle.qw_module.specs.declared.instruction.Op.TheVariants.{Nop, Drop, Select, LocalGet, LocalSet, LocalTee, GlobalGet, GlobalSet, Eqz, Convert, MemorySize, MemoryGrow}
use Rattle.qw_module.specs.declared.instruction.Op.TheVariants as o
use Rattle.qw_module.specs.Numbers.{values_of, constant, type_of_constant, converts_from, converts_to, type_of_load, load_width, type_of_store, store_width}
use Rattle.qw_module.specs.Syntax.{Code, done, op, unreachable, block, loop, if_then, if_else, br, br_if, br_table, return, call}
use Rattle.qw_module.specs.Typing.{types_of, Signature, GlobalType, Scope, within, Takes, OpTyped, typed-nop, typed-drop, typed-select, typed-local_get, typed-local_set, typed-local_tee, typed-global_get, typed-global_set, typed-const, typed-unary, typed-binary, typed-division, typed-eqz, typed-relation, typed-convert, typed-load, typed-store, typed-size, typed-grow, Typed, typed-done, typed-op, typed-unreachable, typed-block, typed-loop, typed-if_then, typed-if_else, typed-br, typed-br_if, typed-br_table, typed-return, typed-call}

-- from one operand of a type to one, or from two to one, over more
abbrev pub OneToOne : ValType → ValType → List ValType → List ValType → Type 0
OneToOne t u before after = (types : List ValType) × (before ≡ t ∷ types) × (after ≡ u ∷ types)

abbrev pub TwoToOne : ValType → ValType → List ValType → List ValType → Type 0
TwoToOne t u before after = (types : List ValType) × (before ≡ t ∷ t ∷ types) × (after ≡ u ∷ types)

abbrev pub OpParts : Scope → Op → List ValType → List ValType → Type 0
OpParts scope Nop before after = before ≡ after
OpParts scope Drop before after = (t : ValType) × (before ≡ t ∷ after)
OpParts scope Select before after = (t : ValType) × (types : List ValType) × (before ≡ I32 ∷ t ∷ t ∷ types) × (after ≡ t ∷ types)
OpParts scope (LocalGet x) before after = (t : ValType) × (slice_get scope.locals x ≡ Some t) × (after ≡ t ∷ before)
OpParts scope (LocalSet x) before after = (t : ValType) × (slice_get scope.locals x ≡ Some t) × (before ≡ t ∷ after)
OpParts scope (LocalTee x) before after = (t : ValType) × (slice_get scope.locals x ≡ Some t) × OneToOne t t before after
OpParts scope (GlobalGet x) before after = (g : GlobalType) × (slice_get scope.outside.globals x ≡ Some g) × (after ≡ g.type ∷ before)
OpParts scope (GlobalSet x) before after =
    (g : GlobalType) × (slice_get scope.outside.globals x ≡ Some g) × (g.mutable ≡ true) × (before ≡ g.type ∷ after)
OpParts scope (o.Const c) before after = (constant c < values_of (type_of_constant c)) × (after ≡ type_of_constant c ∷ before)
OpParts scope (o.Unary t u) before after = OneToOne t t before after
OpParts scope (o.Binary t b) before after = TwoToOne t t before after
OpParts scope (o.Division t d) before after = TwoToOne t t before after
OpParts scope (Eqz t) before after = OneToOne t I32 before after
OpParts scope (o.Relation t r) before after = TwoToOne t I32 before after
OpParts scope (Convert v) before after = OneToOne (converts_from v) (converts_to v) before after
OpParts scope (o.Load l arg) before after = (1 ≤ scope.outside.memories) × (2 ^ arg.align ≤ load_width l) × OneToOne I32 (type_of_load l) before after
OpParts scope (o.Store s arg) before after = (1 ≤ scope.outside.memories) × (2 ^ arg.align ≤ store_width s) × (before ≡ type_of_store s ∷ I32 ∷ after)
OpParts scope MemorySize before after = (1 ≤ scope.outside.memories) × (after ≡ I32 ∷ before)
OpParts scope MemoryGrow before after = (1 ≤ scope.outside.memories) × OneToOne I32 I32 before after

pub op_parts : (scope : Scope) (operator : Op) (before after : List ValType) → OpTyped scope operator before after → OpParts scope operator before after
op_parts _ _ _ _ (typed-nop scope types) = refl
op_parts _ _ _ _ (typed-drop scope types t) = (t, refl)
op_parts _ _ _ _ (typed-select scope types t) = (t, types, refl, refl)
op_parts _ _ _ _ (typed-local_get scope types x t found) = (t, found, refl)
op_parts _ _ _ _ (typed-local_set scope types x t found) = (t, found, refl)
op_parts _ _ _ _ (typed-local_tee scope types x t found) = (t, found, (types, refl, refl))
op_parts _ _ _ _ (typed-global_get scope types x g found) = (g, found, refl)
op_parts _ _ _ _ (typed-global_set scope types x g found mutable) = (g, found, mutable, refl)
op_parts _ _ _ _ (typed-const scope types c value) = (value, refl)
op_parts _ _ _ _ (typed-unary scope types t u) = (types, refl, refl)
op_parts _ _ _ _ (typed-binary scope types t b) = (types, refl, refl)
op_parts _ _ _ _ (typed-division scope types t d) = (types, refl, refl)
op_parts _ _ _ _ (typed-eqz scope types t) = (types, refl, refl)
op_parts _ _ _ _ (typed-relation scope types t r) = (types, refl, refl)
op_parts _ _ _ _ (typed-convert scope types v) = (types, refl, refl)
op_parts _ _ _ _ (typed-load scope types l arg memory aligned) = (memory, aligned, (types, refl, refl))
op_parts _ _ _ _ (typed-store scope types s arg memory aligned) = (memory, aligned, refl)
op_parts _ _ _ _ (typed-size scope types memory) = (memory, refl)
op_parts _ _ _ _ (typed-grow scope types memory) = (memory, (types, refl, refl))

abbrev pub Parts : Scope → Code → List ValType → List ValType → Type 0
Parts scope done before after = before ≡ after
Parts scope (op o rest) before after = (middle : List ValType) × OpTyped scope o before middle × Typed scope rest middle after
Parts scope (unreachable rest) before after = (any : List ValType) × Typed scope rest any after
Parts scope (block result inner rest) before after = Typed (within scope (types_of result)) inner [] (types_of result) × Typed scope rest (types_of result ++ before) after
Parts scope (loop result inner rest) before after = Typed (within scope []) inner [] (types_of result) × Typed scope rest (types_of result ++ before) after
Parts scope (if_then result inner rest) before after =
    (types : List ValType) × (result ≡ None) × (before ≡ I32 ∷ types) × Typed (within scope []) inner [] [] × Typed scope rest types after
Parts scope (if_else result inner other rest) before after =
    (types : List ValType) × (before ≡ I32 ∷ types) × Typed (within scope (types_of result)) inner [] (types_of result)
    × Typed (within scope (types_of result)) other [] (types_of result) × Typed scope rest (types_of result ++ types) after
Parts scope (br index rest) before after = (taken below any : List ValType) × Takes scope index taken × (before ≡ taken ++ below) × Typed scope rest any after
Parts scope (br_if index rest) before after =
    (taken below : List ValType) × Takes scope index taken × (before ≡ I32 ∷ taken ++ below) × Typed scope rest (taken ++ below) after
Parts scope (br_table labels default rest) before after =
    (taken below any : List ValType) × AllByRecursion (λ index. Takes scope index taken) labels × Takes scope default taken
    × (before ≡ I32 ∷ taken ++ below) × Typed scope rest any after
Parts scope (return rest) before after = (below any : List ValType) × (before ≡ scope.results ++ below) × Typed scope rest any after
Parts scope (call index rest) before after =
    (signature : Signature) × (types : List ValType) × (slice_get scope.outside.functions index ≡ Some signature)
    × (before ≡ reverse signature.params ++ types) × Typed scope rest (reverse signature.results ++ types) after

pub parts : (scope : Scope) (code : Code) (before after : List ValType) → Typed scope code before after → Parts scope code before after
parts _ _ _ _ (typed-done scope types) = refl
parts _ _ _ _ (typed-op scope o rest before middle after first more) = (middle, first, more)
parts _ _ _ _ (typed-unreachable scope rest before any after more) = (any, more)
parts _ _ _ _ (typed-block scope result inner rest before after first more) = (first, more)
parts _ _ _ _ (typed-loop scope result inner rest before after first more) = (first, more)
parts _ _ _ _ (typed-if_then scope inner rest before after first more) = (before, refl, refl, first, more)
parts _ _ _ _ (typed-if_else scope result inner other rest before after first second more) = (before, refl, first, second, more)
parts _ _ _ _ (typed-br scope index rest taken below any after found more) = (taken, below, any, found, refl, more)
parts _ _ _ _ (typed-br_if scope index rest taken below after found more) = (taken, below, found, refl, more)
parts _ _ _ _ (typed-br_table scope labels default rest taken below any after all found more) = (taken, below, any, all, found, refl, more)
parts _ _ _ _ (typed-return scope rest below any after more) = (below, any, refl, more)
parts _ _ _ _ (typed-call scope index signature rest types after found more) = (signature, types, found, refl, more)
