-- The parts of a module around a body: what its code may name, and the store that its run begins with.
use Rattle.std.proofs.Common.{◌≡◌, ℕ, List, [], ◌∷◌, ◌++◌, length, map, Option, Some, None, slice_get, refl, ap, ap₂, ◌∙◌}
use Rattle.std.specs.List.{filter_map}
use Rattle.std.specs.Option.{option_map_or}
use Rattle.qw_module.specs.declared.instruction.ValType.{ValType}
use Rattle.qw_module.specs.declared.module.FuncType.{FuncType}
use Rattle.qw_module.specs.declared.module.Limits.{Limits}
use Rattle.qw_module.specs.declared.module.Import.{Import}
use Rattle.qw_module.specs.declared.module.Function.{Function}
use Rattle.qw_module.specs.declared.module.Global.{Global}
use Rattle.qw_module.specs.declared.module.Module.{Module}
use Rattle.qw_module.specs.Execution.{Closure, Callee, host_raise, host_pages, own, Store}
use Rattle.qw_module.specs.Soundness.{raise_signature, pages_signature}
use Rattle.qw_module.specs.Start.{host_of, closure_with, closure_of, callees_of, first_store, initial_value}
use Rattle.qw_module.specs.Syntax.{Sequences, code_of}
use Rattle.qw_module.specs.Typing.{Signature, GlobalType, Outside}
use Rattle.qw_module.specs.Validity.{code_of_body, declared_types, imported_function, imported_functions, imported_memory, functions_of, memories_of, sequences_of, signature_of, signature_in, global_type, outside_of}
use Rattle.qw_emit.specs.Inner.Around.{IsAround, contents_of}

-- the one element that a list has, by what is made of it
pub single : {A B : Type 0} (f : A → B) (xs : List A) (y : B) → map f xs ≡ y ∷ [] → (x : A) × (xs ≡ x ∷ []) × (f x ≡ y)
single f [] y h = cc
single f (x ∷ []) y h = (x, refl, cc)
single f (x ∷ z ∷ xs) y h = cc

-- and the two
two : {A B : Type 0} (f : A → B) (xs : List A) (y z : B) → map f xs ≡ y ∷ z ∷ [] → (a b : A) × (xs ≡ a ∷ b ∷ []) × (f a ≡ y) × (f b ≡ z)
two f [] y z h = cc
two f (a ∷ []) y z h = cc
two f (a ∷ b ∷ []) y z h = (a, b, refl, cc, cc)
two f (a ∷ b ∷ c ∷ xs) y z h = cc

unfoldable pub the_limits : Limits
the_limits = record { min = 1; max = None }

-- what `run` may name: three functions that take one i32, of which `pages` leaves one too, and the memory
abbrev pub the_outside : Outside
the_outside = record { functions = raise_signature ∷ pages_signature ∷ raise_signature ∷ []; globals = []; memories = 1 }

abbrev pub run_closure : List ValType → Sequences → Closure
run_closure locals sequences = record { params = 1; declared = length locals; results = 0; body = code_of sequences }

abbrev pub the_store : List ValType → Sequences → Store
the_store locals sequences = record { functions = host_raise ∷ host_pages ∷ own (run_closure locals sequences) ∷ []; globals = [] }

module _ (locals : List ValType) (sequences : Sequences) where
  -- the module's two types and its only function
  pub record Parts (m : Module) : Type 0 where
    pub type : FuncType
    pub asking : FuncType
    pub run : Function
    pub types : m.types.items ≡ type ∷ asking ∷ []
    pub functions : m.functions.items ≡ run ∷ []
    pub signature : signature_of type ≡ raise_signature
    pub asks : signature_of asking ≡ pages_signature
    pub index : run.type_index ≡ 0
    pub locals_are : declared_types run.locals.items ≡ locals
    pub sequences_are : sequences_of run.body ≡ sequences

  pub parts_of : (m : Module) → IsAround locals sequences m → Parts m
  parts_of m is =
      let t = two signature_of m.types.items _ _ is.types in
      let f = single contents_of m.functions.items _ is.functions in
      record {
        type = t.0;
        asking = t.1;
        run = f.0;
        types = t.2;
        functions = f.1;
        signature = t.3;
        asks = t.4;
        index = ap (λ (s : ℕ × List ValType × Sequences). s.0) f.2;
        locals_are = ap (λ (s : ℕ × List ValType × Sequences). s.1) f.2;
        sequences_are = ap (λ (s : ℕ × List ValType × Sequences). s.2) f.2;
      }

  module _ (m : Module) (is : IsAround locals sequences m) (parts : Parts m) where
    pub the_type : slice_get m.types.items 0 ≡ Some parts.type
    the_type = ap (λ (ts : List FuncType). slice_get ts 0) parts.types

    pub pages_type : slice_get m.types.items 1 ≡ Some parts.asking
    pages_type = ap (λ (ts : List FuncType). slice_get ts 1) parts.types

    pub run_type : slice_get m.types.items parts.run.type_index ≡ Some parts.type
    run_type = ap (λ (i : ℕ). slice_get m.types.items i) parts.index ∙ the_type

    pub imported_are : imported_functions m ≡ 0 ∷ 1 ∷ []
    imported_are = ap (λ (imports : List Import). filter_map imported_function imports) is.imports

    pub functions_are : functions_of m ≡ 0 ∷ 1 ∷ 0 ∷ []
    functions_are =
        ap (λ (imports : List ℕ). imports ++ map (λ (f : Function). f.type_index) m.functions.items) imported_are
        ∙ ap (λ (fs : List Function). 0 ∷ 1 ∷ map (λ (f : Function). f.type_index) fs) parts.functions
        ∙ ap (λ (i : ℕ). 0 ∷ 1 ∷ i ∷ []) parts.index

    pub memories_are : memories_of m ≡ the_limits ∷ []
    unfolding the_limits
    memories_are =
        ap (λ (imports : List Import). filter_map imported_memory imports ++ m.memories.items) is.imports
        ∙ ap (λ (memories : List Limits). record { min = 1; max = None } ∷ memories) is.memories

    -- `raise` and `run` are of the first type, `pages` of the second
    signature_is : signature_in m 0 ≡ raise_signature
    signature_is =
        ap (λ (o : Option FuncType). let empty : Signature = record { params = []; results = [] } in option_map_or signature_of o empty) the_type
        ∙ parts.signature

    asks_is : signature_in m 1 ≡ pages_signature
    asks_is =
        ap (λ (o : Option FuncType). let empty : Signature = record { params = []; results = [] } in option_map_or signature_of o empty) pages_type
        ∙ parts.asks

    pub outside_is : outside_of m ≡ the_outside
    outside_is =
        ap₂ (λ (functions : List Signature) (globals : List GlobalType).
        let o : Outside = record { functions = functions; globals = globals; memories = length (memories_of m) } in o)
        (ap (map (signature_in m)) functions_are ∙ ap₂ (λ (s t : Signature). s ∷ t ∷ s ∷ []) signature_is asks_is) (ap (map global_type) is.globals)
        ∙ ap (λ (memories : List Limits).
        let o : Outside = record { functions = raise_signature ∷ pages_signature ∷ raise_signature ∷ []; globals = []; memories = length memories } in o) memories_are

    -- the functions as they are called
    closure_is : closure_of m parts.run ≡ run_closure locals sequences
    closure_is =
        ap (λ (i : ℕ). closure_with (signature_in m i) parts.run) parts.index ∙ ap (λ (s : Signature). closure_with s parts.run) signature_is
        ∙ ap₂ (λ (types : List ValType) (body : Sequences). let c : Closure = record { params = 1; declared = length types; results = 0; body = code_of body } in c)
        parts.locals_are parts.sequences_are

    pub callees_are : callees_of m ≡ host_raise ∷ host_pages ∷ own (run_closure locals sequences) ∷ []
    callees_are =
        ap (λ (imports : List Import). filter_map host_of imports ++ map (λ f. own (closure_of m f)) m.functions.items) is.imports
        ∙ ap (λ (fs : List Function). host_raise ∷ host_pages ∷ map (λ f. own (closure_of m f)) fs) parts.functions
        ∙ ap (λ (c : Closure). host_raise ∷ host_pages ∷ own c ∷ []) closure_is

    pub store_is : first_store m ≡ the_store locals sequences
    store_is =
        ap₂ (λ (functions : List Callee) (globals : List ℕ). let s : Store = record { functions = functions; globals = globals } in s)
        callees_are (ap (λ (globals : List Global). map (λ (global : Global). initial_value (code_of_body global.init)) globals) is.globals)
