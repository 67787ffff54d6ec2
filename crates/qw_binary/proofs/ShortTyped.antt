-- The numbers of a typed code fit, where its offsets do.
use Rattle.std.proofs.Common.{ℕ, ◌+◌, ◌^◌, ◌≤◌, List, [], ◌∷◌, length, arith, inl, inr}
use Rattle.std.specs.List.{AllByRecursion}
use Rattle.std.proofs.lemmas.Bool.{cases_lt}
use Rattle.std.proofs.lemmas.Option.{slice_get_within}
use Rattle.std.proofs.Math.Pow.{pow_mono}
use Rattle.qw_module.specs.declared.instruction.ValType.{ValType}
use Rattle.qw_module.specs.declared.instruction.ValType.TheVariants.{I32, I64}
use Rattle.qw_module.specs.declared.instruction.Load.{Load}
use Rattle.qw_module.specs.declared.instruction.Load.TheVariants as load
use Rattle.qw_module.specs.declared.instruction.Store.{Store}
use Rattle.qw_module.specs.declared.instruction.Store.TheVariants as store
use Rattle.qw_module.specs.declared.instruction.Op.{Op}
use Rattle.qw_module.specs.declared.instruction.Op.TheVariants as o
use Rattle.qw_module.specs.Numbers.{load_width, store_width}
use Rattle.qw_module.specs.Syntax.{Code, done, op, unreachable, block, loop, if_then, if_else, br, br_if, br_table, return, call}
use Rattle.qw_module.specs.Typing.{types_of, Scope, within, Takes, OpTyped, Typed}
use Rattle.qw_module.proofs.TypedParts.{op_parts, parts}
use Rattle.qw_module.specs.Offsets.{FitsOffset}
use Rattle.qw_binary.specs.Sizes.{Fits, FitsOp, FitsCode, code_octets}
use Rattle.qw_module.specs.Offsets.{FitOffsets}

load_most : (l : Load) → load_width l ≤ 8
load_most (load.Full I32) = omega arith
load_most (load.Full I64) = omega arith
load_most (load.From8 t s) = omega arith
load_most (load.From16 t s) = omega arith
load_most (load.I64From32 s) = omega arith

store_most : (s : Store) → store_width s ≤ 8
store_most (store.Full I32) = omega arith
store_most (store.Full I64) = omega arith
store_most (store.To8 t) = omega arith
store_most (store.To16 t) = omega arith
store_most store.I64To32 = omega arith

align_fits : (align width : ℕ) → width ≤ 8 → 2 ^ align ≤ width → Fits align
align_fits align width most le =
    elim (cases_lt align 4) [
      | inl few ↦ omega (arith, few)
      | inr many ↦ (let m : 2 ^ 4 ≤ 2 ^ align = pow_mono many in let none : ⊥ = omega (arith, m, le, most) in absurd none)
    ]

-- what a scope has is few enough to be named
pub record IsNarrow (scope : Scope) : Type 0 where
  pub locals : length scope.locals ≤ 2 ^ 32
  pub functions : length scope.outside.functions ≤ 2 ^ 32
  pub globals : length scope.outside.globals ≤ 2 ^ 32

inner : (scope : Scope) (types : List ValType) → IsNarrow scope → IsNarrow (within scope types)
inner scope types h = record { locals = h.locals; functions = h.functions; globals = h.globals }

fits_op : (scope : Scope) (operator : Op) (before after : List ValType) → IsNarrow scope → FitsOffset operator → OpTyped scope operator before after → FitsOp operator
fits_op scope (o.LocalGet x) before after h f t = let p = op_parts scope (o.LocalGet x) before after t in omega (arith, slice_get_within scope.locals x p.0 p.1, h.locals)
fits_op scope (o.LocalSet x) before after h f t = let p = op_parts scope (o.LocalSet x) before after t in omega (arith, slice_get_within scope.locals x p.0 p.1, h.locals)
fits_op scope (o.LocalTee x) before after h f t = let p = op_parts scope (o.LocalTee x) before after t in omega (arith, slice_get_within scope.locals x p.0 p.1, h.locals)
fits_op scope (o.GlobalGet x) before after h f t = let p = op_parts scope (o.GlobalGet x) before after t in omega (arith, slice_get_within scope.outside.globals x p.0 p.1, h.globals)
fits_op scope (o.GlobalSet x) before after h f t = let p = op_parts scope (o.GlobalSet x) before after t in omega (arith, slice_get_within scope.outside.globals x p.0 p.1, h.globals)
fits_op scope (o.Const c) before after h f t = (op_parts scope (o.Const c) before after t).0
fits_op scope (o.Load l arg) before after h f t = (align_fits arg.align (load_width l) (load_most l) (op_parts scope (o.Load l arg) before after t).1, f)
fits_op scope (o.Store s arg) before after h f t = (align_fits arg.align (store_width s) (store_most s) (op_parts scope (o.Store s arg) before after t).1, f)
fits_op scope o.Nop before after h f t = tt
fits_op scope o.Drop before after h f t = tt
fits_op scope o.Select before after h f t = tt
fits_op scope (o.Unary t u) before after h f d = tt
fits_op scope (o.Binary t b) before after h f d = tt
fits_op scope (o.Division t b) before after h f d = tt
fits_op scope (o.Eqz t) before after h f d = tt
fits_op scope (o.Relation t r) before after h f d = tt
fits_op scope (o.Convert v) before after h f d = tt
fits_op scope o.MemorySize before after h f t = tt
fits_op scope o.MemoryGrow before after h f t = tt

label_fits : (scope : Scope) (label : ℕ) (taken : List ValType) → length scope.labels ≤ 2 ^ 32 → Takes scope label taken → Fits label
label_fits scope label taken few found = omega (arith, slice_get_within scope.labels label taken found)

labels_fit : (scope : Scope) (taken : List ValType) (labels : List ℕ) → length scope.labels ≤ 2 ^ 32 → AllByRecursion (λ index. Takes scope index taken) labels → AllByRecursion Fits labels
labels_fit scope taken [] few h = tt
labels_fit scope taken (label ∷ labels) few h = (label_fits scope label taken few h.0, labels_fit scope taken labels few h.1)

pub fits_typed : (scope : Scope) (code : Code) (before after : List ValType) → IsNarrow scope → length scope.labels + code_octets code ≤ 2 ^ 32 → FitOffsets code → Typed scope code before after → FitsCode code
fits_typed scope done before after h few f t = tt
fits_typed scope (op o rest) before after h few f t =
    let p = parts scope (op o rest) before after t in
    (fits_op scope o before p.0 h f.0 p.1, fits_typed scope rest p.0 after h (omega (arith, few)) f.1 p.2)
fits_typed scope (unreachable rest) before after h few f t =
    let p = parts scope (unreachable rest) before after t in
    fits_typed scope rest p.0 after h (omega (arith, few)) f p.1
fits_typed scope (block result first rest) before after h few f t =
    let p = parts scope (block result first rest) before after t in (
      fits_typed (within scope (types_of result)) first [] (types_of result) (inner scope (types_of result) h) (omega (arith, few)) f.0 p.0,
      fits_typed scope rest _ after h (omega (arith, few)) f.1 p.1,
    )
fits_typed scope (loop result first rest) before after h few f t =
    let p = parts scope (loop result first rest) before after t in (
      fits_typed (within scope []) first [] (types_of result) (inner scope [] h) (omega (arith, few)) f.0 p.0,
      fits_typed scope rest _ after h (omega (arith, few)) f.1 p.1,
    )
fits_typed scope (if_then result first rest) before after h few f t =
    let p = parts scope (if_then result first rest) before after t in
    (fits_typed (within scope []) first [] [] (inner scope [] h) (omega (arith, few)) f.0 p.3, fits_typed scope rest p.0 after h (omega (arith, few)) f.1 p.4)
fits_typed scope (if_else result first other rest) before after h few f t =
    let p = parts scope (if_else result first other rest) before after t in (
      fits_typed (within scope (types_of result)) first [] (types_of result) (inner scope (types_of result) h) (omega (arith, few)) f.0 p.2,
      fits_typed (within scope (types_of result)) other [] (types_of result) (inner scope (types_of result) h) (omega (arith, few)) f.1 p.3,
      fits_typed scope rest _ after h (omega (arith, few)) f.2 p.4,
    )
fits_typed scope (br label rest) before after h few f t =
    let p = parts scope (br label rest) before after t in
    (label_fits scope label p.0 (omega (arith, few)) p.3, fits_typed scope rest p.2 after h (omega (arith, few)) f p.5)
fits_typed scope (br_if label rest) before after h few f t =
    let p = parts scope (br_if label rest) before after t in
    (label_fits scope label p.0 (omega (arith, few)) p.2, fits_typed scope rest _ after h (omega (arith, few)) f p.4)
fits_typed scope (br_table labels default rest) before after h few f t =
    let p = parts scope (br_table labels default rest) before after t in (
      labels_fit scope p.0 labels (omega (arith, few)) p.3,
      omega (arith, few),
      label_fits scope default p.0 (omega (arith, few)) p.4,
      fits_typed scope rest p.2 after h (omega (arith, few)) f p.6,
    )
fits_typed scope (return rest) before after h few f t =
    let p = parts scope (return rest) before after t in
    fits_typed scope rest p.1 after h (omega (arith, few)) f p.3
fits_typed scope (call index rest) before after h few f t =
    let p = parts scope (call index rest) before after t in
    (omega (arith, slice_get_within scope.outside.functions index p.0 p.2, h.functions), fits_typed scope rest _ after h (omega (arith, few)) f p.4)
