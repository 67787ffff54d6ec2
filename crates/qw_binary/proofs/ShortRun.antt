-- A short spelling of a module with one function alone.
use Rattle.std.proofs.Common.{◌≡◌, ℕ, ◌+◌, ◌*◌, ◌^◌, ◌≤◌, nat_lt, Bool, true, false, All, List, [], ◌∷◌, length, map, reverse, replicate, Option, Some, None, slice_get, refl, sym, ap, subst, ◌∙◌, length-append, arith}
use Rattle.std.specs.Prelude.{IsSomeAnd}
use Rattle.std.specs.Option.{option_map}
use Rattle.std.specs.List.{AllByRecursion, sum_by, filter_map}
use Rattle.std.proofs.lemmas.List.{length-map, length-replicate}
use Rattle.std.proofs.lemmas.List.Sums.{sum_by-cons}
use Rattle.std.proofs.lemmas.List.Elements.{All-head}
use Rattle.std.proofs.lemmas.Option.{slice_get-map}
use Rattle.std.proofs.lemmas.Bool.Decides.{nat_tests}
use Rattle.qw_module.specs.declared.module.FuncType.{FuncType}
use Rattle.qw_module.specs.declared.module.Locals.{Locals}
use Rattle.qw_module.specs.declared.module.Function.{Function}
use Rattle.qw_module.specs.declared.module.ExportKind.{ExportKind}
use Rattle.qw_module.specs.declared.module.Export.{Export}
use Rattle.qw_module.specs.declared.module.Module.{Module}
use Rattle.qw_module.specs.Soundness.{raise_signature}
use Rattle.qw_module.specs.Start.{weight}
use Rattle.qw_module.specs.Syntax.{Sequences}
use Rattle.qw_module.specs.Typing.{Signature, Scope}
use Rattle.qw_module.specs.Validity.{signature_of, code_of_body, declared_types, imported_function, imported_functions, functions_of, signature_in, global_type, outside_of, function_scope, IsTypedFunction, IsValidFunction, IsValid}
use Rattle.qw_binary.specs.Contents.{ExportContents, contents_of, function_contents, global_contents, export_contents}
use Rattle.qw_module.specs.Numbering.{numbered}
use Rattle.qw_binary.specs.Sections.{locals_count}
use Rattle.qw_binary.specs.Sizes.{FitsCode, code_octets, type_octets, import_octets, FitsImport, AreOnce, run_octets, function_octets, FitsFunction, FitsLimits, global_octets, FitsGlobal, export_octets, FitsExport, FitsContents, module_octets, named_export, IsRunAlone, SpelledIn64MiB}
use Rattle.qw_module.specs.Offsets.{FitOffsets}
use Rattle.qw_binary.proofs.ShortBodies.{octets_by_weight}
use Rattle.qw_binary.proofs.ShortTyped.{IsNarrow, fits_typed}
use Rattle.qw_binary.proofs.ShortModules.{spelled_modules}

-- ---- runs of locals, of which each has one

counted_length : (runs : List Locals) → locals_count runs ≡ length (declared_types runs)
counted_length [] = refl
counted_length (run ∷ runs) = omega (arith, counted_length runs, length-append (replicate run.count run.ty) (declared_types runs), length-replicate run.count run.ty)

-- a run takes no more octets than its locals would take one by one
short_run : (run : Locals) (few : Bool) → nat_lt run.count 128 ≡ few → 1 ≤ run.count → run_octets run ≤ 2 * run.count
short_run run true h some =
    let two : run_octets run ≡ 2 = rw h refl in
    omega (arith, two, some)
short_run run false h some =
    let six : run_octets run ≡ 6 = rw h refl in
    let many : 128 ≤ run.count = grind (arith, nat_tests, h) in
    omega (arith, six, many)

two_octets : (runs : List Locals) → AllByRecursion (λ (run : Locals). 1 ≤ run.count) runs → sum_by run_octets runs ≤ 2 * length (declared_types runs)
two_octets [] h = omega arith
two_octets (run ∷ runs) h =
    omega (
      arith,
      sum_by-cons run_octets run runs,
      short_run run (nat_lt run.count 128) refl h.0,
      two_octets runs h.1,
      length-append (replicate run.count run.ty) (declared_types runs),
      length-replicate run.count run.ty,
    )

-- ---- exports by their names and kinds

abbrev pub export_from : (List ℕ × ExportKind) → ExportContents
export_from pair = record { name = pair.0; kind = pair.1 }

as_contents : (all : List Export) → map export_contents all ≡ map export_from (map named_export all)
as_contents [] = refl
as_contents (e ∷ all) = ap (λ rest. export_contents e ∷ rest) (as_contents all)

-- ---- the function

some_there : (o : Option FuncType) (P : FuncType → Type 0) → IsSomeAnd o P → (type : FuncType) × (o ≡ Some type) × P type
some_there None P h = absurd h
some_there (Some type) P h = (type, refl, h)

module _ (m : Module) (function : Function) (valid : IsValid m) (is : IsRunAlone function m) (offsets : FitOffsets (code_of_body function.body))
    (light : weight (code_of_body function.body) ≤ 2 ^ 22) (few : length (declared_types function.locals.items) ≤ 2 ^ 22 + 2 ^ 20) where
  octets : code_octets (code_of_body function.body) ≤ 11 * 2 ^ 22
  octets =
      let none : length (numbered (code_of_body function.body)).labels ≡ 0 = ap (λ (s : Sequences). length s.labels) (sym is.order) ∙ ap length is.labels in
      omega (arith, octets_by_weight (code_of_body function.body), none, light)

  typed_function : (type : FuncType) × (slice_get m.types.items function.type_index ≡ Some type) × IsTypedFunction m function type
  typed_function =
      some_there (slice_get m.types.items function.type_index) (IsTypedFunction m function) (All-head (IsValidFunction m) function [] (subst (All (IsValidFunction m)) is.functions valid.functions))

  signature_is : signature_of typed_function.0 ≡ raise_signature
  signature_is =
      let by_map : slice_get (map signature_of m.types.items) 0 ≡ Some (signature_of typed_function.0) =
      slice_get-map signature_of m.types.items 0 ∙ ap (option_map signature_of) (ap (slice_get m.types.items) (sym is.index) ∙ typed_function.1) in
      let by_types : slice_get (map signature_of m.types.items) 0 ≡ Some raise_signature = ap (λ types. slice_get types 0) is.types in
      cc (by_map, by_types)

  code_fits : FitsCode (code_of_body function.body)
  code_fits =
      let type : FuncType = typed_function.0 in
      let scope : Scope = function_scope (outside_of m) (signature_of type) (declared_types function.locals.items) in
      let params : length (signature_of type).params ≡ 1 = ap (λ (s : Signature). length s.params) signature_is in
      let imported : length (imported_functions m) ≡ 2 = ap (λ imports. length (filter_map imported_function imports)) is.imports in
      let narrow : IsNarrow scope = record {
        locals = omega (arith, length-append (signature_of type).params (declared_types function.locals.items), params, few);
        functions = omega (
          arith,
          length-map (functions_of m) (signature_in m),
          length-append (imported_functions m) (map (λ (f : Function). f.type_index) m.functions.items),
          length-map m.functions.items (λ (f : Function). f.type_index),
          imported,
          ap length is.functions,
        );
        globals = omega (arith, length-map m.globals.items global_type, ap length is.globals);
      } in
      fits_typed scope (code_of_body function.body) [] (reverse type.results.items) narrow (omega (arith, octets)) offsets typed_function.2.typed

  function_fits : FitsFunction (function_contents function)
  function_fits = record {
    index = omega (arith, is.index);
    locals = omega (arith, few, counted_length function.locals.items);
    order = is.order;
    code = code_fits;
  }

  contents_fit : FitsContents (contents_of m)
  contents_fit = record {
    imports = subst (AllByRecursion FitsImport) (sym is.imports) ((omega arith, tt), (omega arith, (omega arith, tt)));
    once = subst (AreOnce []) (sym is.imports) (refl, (refl, (refl, tt)));
    functions = subst (AllByRecursion FitsFunction) (sym (ap (map function_contents) is.functions)) (function_fits, tt);
    memories = subst (AllByRecursion FitsLimits) (sym is.memories) tt;
    globals = subst (AllByRecursion FitsGlobal) (sym (ap (map global_contents) is.globals)) tt;
    exports = subst (AllByRecursion FitsExport) (sym (as_contents m.exports.items ∙ ap (map export_from) is.exports)) (omega arith, tt);
  }

  within_64_mib : module_octets (contents_of m) ≤ 2 ^ 26
  within_64_mib =
      let types : sum_by type_octets (contents_of m).types ≡ 25 = ap (sum_by type_octets) is.types in
      let imports : sum_by import_octets (contents_of m).imports ≡ 73 = ap (sum_by import_octets) is.imports in
      let count : length (contents_of m).functions ≡ 1 = length-map m.functions.items function_contents ∙ ap length is.functions in
      let memories : length (contents_of m).memories ≡ 0 = ap length is.memories in
      let globals : sum_by global_octets (contents_of m).globals ≡ 0 = ap (λ globals. sum_by global_octets (map global_contents globals)) is.globals in
      let exports : sum_by export_octets (contents_of m).exports ≡ 14 = ap (sum_by export_octets) (as_contents m.exports.items ∙ ap (map export_from) is.exports) in
      let functions : sum_by function_octets (contents_of m).functions ≡ 0 + function_octets (function_contents function) = ap (λ fs. sum_by function_octets (map function_contents fs)) is.functions in
      omega (arith, types, imports, count, memories, globals, exports, functions, octets, few, two_octets function.locals.items is.locals)

pub spelled_in_64_mib : SpelledIn64MiB
spelled_in_64_mib m function valid is offsets light few =
    let most = within_64_mib m function valid is offsets light few in
    let h = spelled_modules m (contents_fit m function valid is offsets light few) (omega (arith, most)) in
    (h.0, h.1, omega (arith, h.2, most))
