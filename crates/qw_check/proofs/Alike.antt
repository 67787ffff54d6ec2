-- Modules with the same contents are valid alike, and have the same faults.
use Rattle.std.proofs.Common.{◌≡◌, ◌∙◌, ℕ, ◌+◌, List, [], ◌∷◌, ◌++◌, length, map, reverse, get_or, All, Option, Some, None, option_map, slice_get, refl, sym, ap, ap₂, subst, arith}
use Rattle.std.specs.Prelude.{IsSomeAnd}
use Rattle.std.specs.List.{AllPairs}
use Rattle.std.specs.Option.{option_map_or}
use Rattle.std.proofs.lemmas.List.{length-map}
use Rattle.std.proofs.Math.ListN.{get_or-map}
use Rattle.std.proofs.lemmas.Option.{slice_get-map}
use Rattle.qw_module.specs.declared.instruction.ValType.{ValType}
use Rattle.qw_module.specs.declared.module.Locals.{Locals}
use Rattle.qw_module.specs.declared.module.FuncType.{FuncType}
use Rattle.qw_module.specs.declared.module.Import.{Import}
use Rattle.qw_module.specs.declared.module.Import.TheVariants as import
use Rattle.qw_module.specs.declared.module.Function.{Function}
use Rattle.qw_module.specs.declared.module.Global.{Global}
use Rattle.qw_module.specs.declared.module.Export.{Export}
use Rattle.qw_module.specs.declared.module.ExportKind.{ExportKind}
use Rattle.qw_module.specs.declared.module.ExportKind.TheVariants as kind
use Rattle.qw_module.specs.declared.module.Module.{Module}
use Rattle.qw_module.specs.Syntax.{Code, code_of, IsNumbered}
use Rattle.qw_module.specs.Typing.{Outside, Scope, Signature, Typed}
use Rattle.qw_module.specs.Places.{tokens_of, IsRefusedAt}
use Rattle.qw_module.specs.Validity.{signature_of, signature_in, sequences_of, code_of_body, declared_types, function_scope, outside_of, functions_of, imported_functions, memories_of, global_type, IsInitial, IsValidGlobal, IsValidType, IsValidImport, IsExportedOf, IsExport, IsTypedFunction, IsValidFunction, HaveOtherNames}
use Rattle.qw_binary.specs.Contents.{Contents, ExportContents, FunctionContents, GlobalContents, contents_of, export_contents, function_contents, global_contents}
use Rattle.qw_valid.specs.declared.valid.Part.{Part}
use Rattle.qw_valid.specs.declared.valid.Part.TheVariants as part
use Rattle.qw_valid.specs.declared.valid.ValidFault.{ValidFault}
use Rattle.qw_valid.specs.declared.valid.ValidFault.TheVariants as fault
use Rattle.qw_valid.specs.ValidFaults.{HasBody, PartHolds, typing_in, IsFault}

-- ---- lists whose elements are alike

module _ {X Y : Type 0} (f : X → Y) (xs ys : List X) (same : map f xs ≡ map f ys) where
  same_length : length xs ≡ length ys
  same_length = sym (length-map xs f) ∙ ap length same ∙ length-map ys f

  same_at : (k : ℕ) (d : X) → f (get_or xs k d) ≡ f (get_or ys k d)
  same_at k d = sym (get_or-map f xs k d) ∙ ap (λ zs. get_or zs k (f d)) same ∙ get_or-map f ys k d

  same_get : (k : ℕ) → option_map f (slice_get xs k) ≡ option_map f (slice_get ys k)
  same_get k = sym (slice_get-map f xs k) ∙ ap (λ zs. slice_get zs k) same ∙ slice_get-map f ys k

  All-alike : (P Q : X → Type 0) → ((x y : X) → f x ≡ f y → P x → Q y) → All P xs → All Q ys
  All-alike P Q alike all k d within =
      let few = same_length in
      alike (get_or xs k d) (get_or ys k d) (same_at k d) (all k d (omega (arith, few, within)))

  AllPairs-alike : (R : X → X → Type 0) → ((x y z w : X) → f x ≡ f y → f z ≡ f w → R x z → R y w) → AllPairs R xs → AllPairs R ys
  AllPairs-alike R alike all i j d less within =
      let few = same_length in
      alike (get_or xs i d) (get_or ys i d) (get_or xs j d) (get_or ys j d) (same_at i d) (same_at j d) (all i j d less (omega (arith, few, within)))

map_of_map : {X Y Z : Type 0} (f : X → Y) (g : Y → Z) (h : X → Z) (xs : List X) → ((x : X) → g (f x) ≡ h x) → map g (map f xs) ≡ map h xs
map_of_map f g h [] is = refl
map_of_map f g h (x ∷ xs) is = ap₂ (λ z zs. z ∷ zs) (is x) (map_of_map f g h xs is)

same_map : {X Y : Type 0} (f g : X → Y) (xs : List X) → ((x : X) → f x ≡ g x) → map f xs ≡ map g xs
same_map f g [] is = refl
same_map f g (x ∷ xs) is = ap₂ (λ z zs. z ∷ zs) (is x) (same_map f g xs is)

some_is_some : {X : Type 0} (x y : X) → Some x ≡ Some y → x ≡ y
some_is_some x y is = cc

some_is_none : {X : Type 0} (x : X) → Some x ≡ None → ⊥
some_is_none x is = cc

by_view : {X Y : Type 0} (f : X → Y) (o p : Option X) (d : Y) → option_map f o ≡ option_map f p → option_map_or f o d ≡ option_map_or f p d
by_view f None None d is = refl
by_view f None (Some y) d is = cc
by_view f (Some x) None d is = cc
by_view f (Some x) (Some y) d is = cc

-- ---- modules with the same contents

module _ (m n : Module) (same : contents_of m ≡ contents_of n) where
  types : map signature_of m.types.items ≡ map signature_of n.types.items
  types = ap (λ (c : Contents). c.types) same

  functions : map function_contents m.functions.items ≡ map function_contents n.functions.items
  functions = ap (λ (c : Contents). c.functions) same

  exports : map export_contents m.exports.items ≡ map export_contents n.exports.items
  exports = ap (λ (c : Contents). c.exports) same

  globals : map global_contents m.globals.items ≡ map global_contents n.globals.items
  globals = ap (λ (c : Contents). c.globals) same

  imports : m.imports.items ≡ n.imports.items
  imports = ap (λ (c : Contents). c.imports) same

  signature_same : (index : ℕ) → signature_in m index ≡ signature_in n index
  signature_same index = by_view signature_of (slice_get m.types.items index) (slice_get n.types.items index) (record { params = []; results = [] }) (same_get signature_of m.types.items n.types.items types index)

  imported_same : imported_functions m ≡ imported_functions n
  imported_same = rw imports refl

  functions_same : functions_of m ≡ functions_of n
  functions_same =
      let of_contents : (fs : List Function) → map (λ (c : FunctionContents). c.type_index) (map function_contents fs) ≡ map (λ (f : Function). f.type_index) fs =
      λ fs. map_of_map function_contents (λ (c : FunctionContents). c.type_index) (λ (f : Function). f.type_index) fs (λ f. refl) in
      ap₂ (λ (xs ys : List ℕ). xs ++ ys) imported_same (sym (of_contents m.functions.items) ∙ ap (map (λ (c : FunctionContents). c.type_index)) functions ∙ of_contents n.functions.items)

  memories_same : memories_of m ≡ memories_of n
  memories_same = rw (imports, ap (λ (c : Contents). c.memories) same) refl

  global_types_same : map global_type m.globals.items ≡ map global_type n.globals.items
  global_types_same =
      let of_contents : (gs : List Global) → map (λ (c : GlobalContents). c.type) (map global_contents gs) ≡ map global_type gs =
      λ gs. map_of_map global_contents (λ (c : GlobalContents). c.type) global_type gs (λ g. refl) in
      sym (of_contents m.globals.items) ∙ ap (map (λ (c : GlobalContents). c.type)) globals ∙ of_contents n.globals.items

  outside_same : outside_of m ≡ outside_of n
  outside_same =
      let signatures : map (signature_in m) (functions_of m) ≡ map (signature_in n) (functions_of n) =
      same_map (signature_in m) (signature_in n) (functions_of m) signature_same ∙ ap (map (signature_in n)) functions_same in
      rw (signatures, global_types_same, memories_same) refl

  -- ---- functions

  module _ (f g : Function) (alike : function_contents f ≡ function_contents g) where
    type_same : f.type_index ≡ g.type_index
    type_same = ap (λ (c : FunctionContents). c.type_index) alike

    locals_same : f.locals.items ≡ g.locals.items
    locals_same = ap (λ (c : FunctionContents). c.locals) alike

    body_same : sequences_of f.body ≡ sequences_of g.body
    body_same = ap (λ (c : FunctionContents). c.body) alike

    body_alike : HasBody m f → HasBody n g
    body_alike (within, numbered) =
        let few = same_length signature_of m.types.items n.types.items types in
        let index = type_same in
        (omega (arith, within, few, index), subst IsNumbered body_same numbered)

    typed_alike : (s t : FuncType) → signature_of s ≡ signature_of t → IsTypedFunction m f s → IsTypedFunction n g t
    typed_alike s t is valid =
        let results : s.results.items ≡ t.results.items = ap (λ (z : Signature). z.results) is in
        let code : code_of_body f.body ≡ code_of_body g.body = ap code_of body_same in
        let scope : function_scope (outside_of m) (signature_of s) (declared_types f.locals.items) ≡ function_scope (outside_of n) (signature_of t) (declared_types g.locals.items) =
        ap (λ (o : Outside). function_scope o (signature_of s) (declared_types f.locals.items)) outside_same
        ∙ ap (λ (z : Signature). function_scope (outside_of n) z (declared_types f.locals.items)) is
        ∙ ap (λ (ls : List Locals). function_scope (outside_of n) (signature_of t) (declared_types ls)) locals_same in
        let first = subst (λ (z : Scope). Typed z (code_of_body f.body) [] (reverse s.results.items)) scope valid.typed in
        let second = subst (λ (z : Code). Typed (function_scope (outside_of n) (signature_of t) (declared_types g.locals.items)) z [] (reverse s.results.items)) code first in
        let third = subst (λ (rs : List ValType). Typed (function_scope (outside_of n) (signature_of t) (declared_types g.locals.items)) (code_of_body g.body) [] (reverse rs)) results second in
        record { numbered = subst IsNumbered body_same valid.numbered; typed = third }

    there_alike : (o p : Option FuncType) → option_map signature_of o ≡ option_map signature_of p → IsSomeAnd o (IsTypedFunction m f) → IsSomeAnd p (IsTypedFunction n g)
    there_alike None p is valid = absurd valid
    there_alike (Some s) None is valid = absurd (some_is_none (signature_of s) is)
    there_alike (Some s) (Some t) is valid = typed_alike s t (some_is_some (signature_of s) (signature_of t) is) valid

    function_alike : IsValidFunction m f → IsValidFunction n g
    function_alike valid =
        there_alike (slice_get m.types.items f.type_index) (slice_get n.types.items g.type_index)
        (ap (λ k. option_map signature_of (slice_get m.types.items k)) type_same ∙ same_get signature_of m.types.items n.types.items types g.type_index) valid

    typing_same : typing_in m f ≡ typing_in n g
    typing_same =
        let signature : signature_in m f.type_index ≡ signature_in n g.type_index = ap (signature_in m) type_same ∙ signature_same g.type_index in
        rw (outside_same, locals_same, signature) refl

    refused_alike : (at : ℕ) → IsRefusedAt (typing_in m f) (tokens_of (code_of_body f.body)) at → IsRefusedAt (typing_in n g) (tokens_of (code_of_body g.body)) at
    refused_alike at refused =
        let code : code_of_body f.body ≡ code_of_body g.body = ap code_of body_same in
        rw (typing_same, code) at refused

  -- ---- parts

  import_alike : (x : Import) → IsValidImport m x → IsValidImport n x
  import_alike (import.Memory limits) valid = valid
  import_alike (import.Raise index) valid = let few = same_length signature_of m.types.items n.types.items types in omega (arith, valid, few)
  import_alike (import.Pages index) valid = let few = same_length signature_of m.types.items n.types.items types in omega (arith, valid, few)

  exported_alike : (x : ExportKind) → IsExportedOf m x → IsExportedOf n x
  exported_alike (kind.Function index) there = rw functions_same at there
  exported_alike (kind.Memory index) there = rw memories_same at there
  exported_alike (kind.Global index) there = let few = same_length global_contents m.globals.items n.globals.items globals in omega (arith, there, few)

  export_alike : (x y : Export) → export_contents x ≡ export_contents y → IsExport m x → IsExport n y
  export_alike x y is there = exported_alike y.kind (subst (IsExportedOf m) (ap (λ (e : ExportContents). e.kind) is) there)

  names_alike : (x y z w : Export) → export_contents x ≡ export_contents y → export_contents z ≡ export_contents w → HaveOtherNames x z → HaveOtherNames y w
  names_alike x y z w is are other e = other (ap (λ (e : ExportContents). e.name) is ∙ e ∙ sym (ap (λ (e : ExportContents). e.name) are))

  type_alike : (s t : FuncType) → signature_of s ≡ signature_of t → IsValidType s → IsValidType t
  type_alike s t is valid = rw (ap (λ (z : Signature). z.results) is) at valid

  global_alike : (g h : Global) → global_contents g ≡ global_contents h → IsValidGlobal g → IsValidGlobal h
  global_alike g h is valid =
      let type : g.ty ≡ h.ty = ap (λ (c : GlobalContents). c.type.type) is in
      let init : sequences_of g.init ≡ sequences_of h.init = ap (λ (c : GlobalContents). c.init) is in
      subst (λ (t : ValType). IsInitial t (sequences_of h.init)) type (subst (IsInitial g.ty) init valid)

  part_alike : (p : Part) → PartHolds m p → PartHolds n p
  part_alike part.Types all = All-alike signature_of m.types.items n.types.items types IsValidType IsValidType type_alike all
  part_alike part.Imports all = subst (All (IsValidImport n)) imports (λ k d within. import_alike (get_or m.imports.items k d) (all k d within))
  part_alike part.Functions all = All-alike function_contents m.functions.items n.functions.items functions (HasBody m) (HasBody n) body_alike all
  part_alike part.Memory all = (rw (ap (λ (c : Contents). c.memories) same) at all.0, rw memories_same at all.1)
  part_alike part.Globals all = All-alike global_contents m.globals.items n.globals.items globals IsValidGlobal IsValidGlobal global_alike all
  part_alike part.Exports (all, names) =
      (All-alike export_contents m.exports.items n.exports.items exports (IsExport m) (IsExport n) export_alike all, AllPairs-alike export_contents m.exports.items n.exports.items exports HaveOtherNames names_alike names)

-- ---- faults

some_alike : {X Y : Type 0} (f : X → Y) (o p : Option X) (x : X) → option_map f o ≡ option_map f p → o ≡ Some x → (y : X) × (p ≡ Some y) × (f x ≡ f y)
some_alike f o None x is e = absurd (let bad : Some (f x) ≡ None = sym (ap (option_map f) e) ∙ is in cc)
some_alike f o (Some y) x is e = (y, refl, let both : Some (f x) ≡ Some (f y) = sym (ap (option_map f) e) ∙ is in cc)

pub fault_alike : (m n : Module) (same : contents_of m ≡ contents_of n) (why : ValidFault) → IsFault why m → IsFault why n
fault_alike m n same (fault.Part p) (before, fails) = ((λ q earlier. part_alike m n same q (before q earlier)), λ holds. fails (part_alike n m (sym same) p holds))
fault_alike m n same (fault.Body func at) (parts, number, function, func_is, found, earlier, refused) =
    let other = some_alike function_contents (slice_get m.functions.items number) (slice_get n.functions.items number) function (same_get function_contents m.functions.items n.functions.items (functions m n same) number) found in (
      (λ p. part_alike m n same p (parts p)),
      number,
      other.0,
      func_is ∙ ap (λ (fs : List ℕ). length fs + number) (imported_same m n same),
      other.1,
      λ k before less there.
          let back = some_alike function_contents (slice_get n.functions.items k) (slice_get m.functions.items k) before (sym (same_get function_contents m.functions.items n.functions.items (functions m n same) k)) there in
          function_alike m n same back.0 before (sym back.2) (earlier k back.0 less back.1),
      refused_alike m n same function other.0 other.2 at refused,
    )
fault_alike m n same fault.NoMemory unit = tt
