-- A module around a typed body is valid, of the shape that is executed, and calls downwards only.
use Rattle.std.proofs.Common.{◌≡◌, ℕ, zero, suc, ◌<◌, ◌+◌, All, List, [], ◌∷◌, length, Some, None, get_or, refl, sym, ap, ◌∙◌, subst, arith}
use Rattle.std.specs.Prelude.{codes, reverse, slice_get, Contains}
use Rattle.std.specs.List.{AllByRecursion}
use Rattle.std.specs.String.{string_bytes}
use Rattle.std.proofs.lemmas.List.Elements.{All-nil, All-cons, All-same}
use Rattle.std.proofs.lemmas.Option.{none-some}
use Rattle.qw_module.specs.declared.instruction.ValType.{ValType}
use Rattle.qw_module.specs.declared.instruction.ValType.TheVariants.{I32}
use Rattle.qw_module.specs.declared.module.Import.TheVariants as import
use Rattle.qw_module.specs.declared.module.Function.{Function}
use Rattle.qw_module.specs.declared.module.Export.{Export}
use Rattle.qw_module.specs.declared.module.ExportKind.{ExportKind}
use Rattle.qw_module.specs.declared.module.ExportKind.TheVariants as kind
use Rattle.qw_module.specs.declared.module.Module.{Module}
use Rattle.qw_module.specs.Syntax.{Code, Sequences, done, code_of, IsNumbered}
use Rattle.qw_module.specs.Typing.{Signature, Outside, Scope, scope_of, Typed, typed-done}
use Rattle.qw_module.specs.Validity.{CallsBelow, code_of_body, declared_types, signature_of, function_scope, IsValidType, IsValidMemory, IsValidImport, IsValidGlobal, IsExportedOf, IsTypedFunction, IsValidFunction, IsValid, TakesOneI32, IsOneI32, TakesAndLeavesI32, IsI32ToI32, IsLinked, IsShaped, IsDescending}
use Rattle.qw_map.specs.Behaving.{IsRunnable}
use Rattle.qw_low.specs.Syntax.{Statement}
use Rattle.qw_low.specs.Translation.{statement_code}
use Rattle.qw_low.specs.Typing.{IsTyped}
use Rattle.qw_low.proofs.CodeTyped.{statement_typed}
use Rattle.qw_emit.specs.Inner.Around.{IsAround, exported}
use Rattle.qw_emit.proofs.Around.{single, the_limits, the_outside, Parts, parts_of, the_type, pages_type, run_type, imported_are, functions_are, memories_are, outside_is}

one : {A : Type 0} (P : A → Type 0) (x : A) → P x → All P (x ∷ [])
one P x h = All-cons P x [] h (All-nil P)

-- what stands at an index of a list is in it
contains : {A : Type 0} (xs : List A) {ys : List A} {x : A} → xs ≡ ys → (k : ℕ) → k < length ys → get_or ys k x ≡ x → Contains xs x
contains {A} xs {ys} {x} same k within there = subst (λ (zs : List A). Contains zs x) (sym same) (k, within, there)

-- the scope of `run`
abbrev pub at_call : List ValType → Scope
at_call locals = scope_of the_outside (I32 ∷ locals) [] ([] ∷ [])

-- the module's only function
pub only_there : (functions : List Function) (run only : Function) (number : ℕ) → functions ≡ only ∷ [] → slice_get functions number ≡ Some run → (number ≡ 0) × (run ≡ only)
only_there [] run only number one there = cc
only_there (f ∷ []) run only zero one there = (refl, cc)
only_there (f ∷ []) run only (suc number) one there = absurd (none-some run there)
only_there (f ∷ g ∷ functions) run only number one there = cc

module _ (locals : List ValType) (sequences : Sequences) (numbered : IsNumbered sequences) (calls : AllByRecursion (AllByRecursion (CallsBelow 2)) sequences.each)
    (typed : Typed (at_call locals) (code_of sequences) [] []) (m : Module) (is : IsAround locals sequences m) where
  module _ (parts : Parts locals sequences m) (export : Export) (exports : m.exports.items ≡ export ∷ []) (named : exported export ≡ (codes "run", kind.Function 2)) where
    params : parts.type.params.items ≡ I32 ∷ []
    params = ap (λ (s : Signature). s.params) parts.signature

    results : parts.type.results.items ≡ []
    results = ap (λ (s : Signature). s.results) parts.signature

    name : string_bytes export.name ≡ codes "run"
    name = ap (λ (s : List ℕ × ExportKind). s.0) named

    kind_is : export.kind ≡ kind.Function 2
    kind_is = ap (λ (s : List ℕ × ExportKind). s.1) named

    one_i32 : TakesOneI32 parts.type
    one_i32 = (params, results)

    takes_one : (i : ℕ) → i ≡ 0 → IsOneI32 m i
    takes_one i zeroth = rw (zeroth, the_type locals sequences m is parts) one_i32

    asked_params : parts.asking.params.items ≡ I32 ∷ []
    asked_params = ap (λ (s : Signature). s.params) parts.asks

    asked_results : parts.asking.results.items ≡ I32 ∷ []
    asked_results = ap (λ (s : Signature). s.results) parts.asks

    leaves_one : IsI32ToI32 m 1
    leaves_one =
        let both : TakesAndLeavesI32 parts.asking = (asked_params, asked_results) in
        rw (pages_type locals sequences m is parts) both

    run_typed : IsTypedFunction m parts.run parts.type
    run_typed = record {
      numbered = subst IsNumbered (sym parts.sequences_are) numbered;
      typed = subst
          (λ (o : Outside). Typed (function_scope o (signature_of parts.type) (declared_types parts.run.locals.items)) (code_of_body parts.run.body) [] (reverse parts.type.results.items))
          (sym (outside_is locals sequences m is parts)) (rw (params, results, parts.locals_are) (subst (λ (body : Sequences). Typed (at_call locals) (code_of body) [] []) (sym parts.sequences_are) typed));
    }

    run_valid : IsValidFunction m parts.run
    run_valid = rw (run_type locals sequences m is parts) run_typed

    there : ℕ → Type 0
    there i = i < length m.types.items

    first : there 0
    unfolding there
    first = omega (arith, ap length parts.types)

    second : there 1
    unfolding there
    second = omega (arith, ap length parts.types)

    is_exported : Export → Type 0
    is_exported e = IsExportedOf m e.kind

    run_exported : is_exported export
    unfolding is_exported
    run_exported = rw kind_is (rw (functions_are locals sequences m is parts) (omega arith))

    valid_parts : IsValid m
    unfolding the_limits there is_exported
    valid_parts = record {
      types = All-same IsValidType _ _ parts.types (All-cons IsValidType parts.type (parts.asking ∷ []) (rw results (omega arith)) (one IsValidType parts.asking (rw asked_results (omega arith))));
      imports = All-same (IsValidImport m) _ _ is.imports
          (All-cons (IsValidImport m) (import.Memory (record { min = 1; max = None })) (import.Raise 0 ∷ import.Pages 1 ∷ []) (omega arith, tt)
          (All-cons (IsValidImport m) (import.Raise 0) (import.Pages 1 ∷ []) first (one (IsValidImport m) (import.Pages 1) second)));
      memories = All-same IsValidMemory _ _ is.memories (All-nil IsValidMemory);
      one_memory = rw (memories_are locals sequences m is parts) (omega arith);
      globals = All-same IsValidGlobal _ _ is.globals (All-nil IsValidGlobal);
      exports = All-same is_exported _ _ exports (one is_exported export run_exported);
      names = λ i j d less within. absurd (omega (arith, ap length exports));
      functions = All-same (IsValidFunction m) _ _ parts.functions (one (IsValidFunction m) parts.run run_valid);
    }

    shaped_parts : IsShaped m 0
    unfolding the_limits
    shaped_parts = record {
      memory = (the_limits, contains _ is.imports 0 (omega arith) refl);
      raise = (0, contains _ is.imports 1 (omega arith) refl);
      linked = All-same (IsLinked m) _ _ is.imports
          (All-cons (IsLinked m) (import.Memory (record { min = 1; max = None })) (import.Raise 0 ∷ import.Pages 1 ∷ []) tt
          (All-cons (IsLinked m) (import.Raise 0) (import.Pages 1 ∷ []) (takes_one 0 refl) (one (IsLinked m) (import.Pages 1) leaves_one)));
      run = rw (ap (λ (fs : List Function). slice_get fs 0) parts.functions) (takes_one parts.run.type_index parts.index);
      exported = (export, contains _ exports 0 (omega arith) refl, name, kind_is ∙ ap (λ (imports : List ℕ). kind.Function (length imports + 0)) (sym (imported_are locals sequences m is parts)));
    }

    descends_parts : IsDescending m
    descends_parts number function there =
        let same = only_there m.functions.items function parts.run number parts.functions there in
        rw (same.0, same.1, imported_are locals sequences m is parts, ap (λ (s : Sequences). s.each) parts.sequences_are) calls

    runnable_parts : IsRunnable m
    runnable_parts = record {
      valid = valid_parts;
      shaped = (0, shaped_parts);
      descends = descends_parts;
      links = contains m.imports.items is.imports 0 (omega arith) refl;
    }

  pub runnable_around : IsRunnable m
  runnable_around =
      let e = single exported m.exports.items _ is.exports in
      runnable_parts (parts_of locals sequences m is) e.0 e.1 e.2

-- and so is one around the code of a typed statement
pub runnable_code : (locals : List ValType) (sequences : Sequences) (s : Statement) → code_of sequences ≡ statement_code s done → IsNumbered sequences → AllByRecursion (AllByRecursion (CallsBelow 2)) sequences.each →
    IsTyped (I32 ∷ locals) s → (m : Module) → IsAround locals sequences m → IsRunnable m
runnable_code locals sequences s code_is numbered calls typed m is =
    let coded : Typed (at_call locals) (statement_code s done) [] [] = statement_typed (at_call locals) s done (record { raise_is = refl; pages_is = refl; memory = omega arith; results = refl }) typed (typed-done _ _) in
    runnable_around locals sequences numbered calls (subst (λ (code : Code). Typed (at_call locals) code [] []) (sym code_is) coded) m is
