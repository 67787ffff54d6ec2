-- A module of given contents, for a proof that must name one.
use Rattle.std.proofs.Common.{◌≡◌, ◌<◌, ◌^◌, List, [], ◌∷◌, length, map, refl, sym, ap, ap₂, ◌∙◌, arith}
use Rattle.std.specs.List.{AllByRecursion}
use Rattle.std.specs.Global.{Vec, Global as Heap}
use Rattle.std.specs.Str.{IsUtf8}
use Rattle.std.proofs.lemmas.List.{length-map}
use Rattle.std.proofs.StringFromBytes.{spelled}
use denote.RawPtr.{null_ptr}
use Rattle.qw_module.specs.declared.instruction.Instr.{Instr}
use Rattle.qw_module.specs.declared.module.FuncType.{FuncType}
use Rattle.qw_module.specs.declared.module.Body.{Body}
use Rattle.qw_module.specs.declared.module.Function.{Function}
use Rattle.qw_module.specs.declared.module.Global.{Global}
use Rattle.qw_module.specs.declared.module.Export.{Export}
use Rattle.qw_module.specs.declared.module.Module.{Module}
use Rattle.qw_module.specs.Syntax.{Sequences}
use Rattle.qw_module.specs.Typing.{Signature}
use Rattle.qw_module.specs.Validity.{signature_of, sequences_of}
use Rattle.qw_binary.specs.Contents.{FunctionContents, GlobalContents, ExportContents, Contents, function_contents, global_contents, export_contents, contents_of}

-- a list that a vector may hold
abbrev pub Small : {A : Type 0} → List A → Type 0
Small xs = length xs < 2 ^ 63

abbrev pub IsSmallType : Signature → Type 0
IsSmallType s = Small s.params × Small s.results

abbrev pub IsSmallBody : Sequences → Type 0
IsSmallBody s = Small s.each × AllByRecursion Small s.each × Small s.labels

abbrev pub IsSmallFunction : FunctionContents → Type 0
IsSmallFunction f = Small f.locals × IsSmallBody f.body

abbrev pub IsSmallGlobal : GlobalContents → Type 0
IsSmallGlobal g = IsSmallBody g.init

abbrev pub IsSmallExport : ExportContents → Type 0
IsSmallExport e = Small e.name × ∥ IsUtf8 e.name ∥₁

-- contents that vectors and texts may hold
pub record AreSmall (c : Contents) : Type 0 where
  pub types : Small c.types × AllByRecursion IsSmallType c.types
  pub imports : Small c.imports
  pub functions : Small c.functions × AllByRecursion IsSmallFunction c.functions
  pub memories : Small c.memories
  pub globals : Small c.globals × AllByRecursion IsSmallGlobal c.globals
  pub exports : Small c.exports × AllByRecursion IsSmallExport c.exports

-- one for each of a list
each : {A B : Type 0} (f : A → B) (P : B → Type 0) → ((y : B) → P y → (x : A) × (f x ≡ y)) → (ys : List B) → AllByRecursion P ys → (xs : List A) × (map f xs ≡ ys)
each f P make [] all = ([], refl)
each f P make (y ∷ ys) all =
    let x = make y all.0 in
    let xs = each f P make ys all.1 in
    (x.0 ∷ xs.0, ap₂ (λ z zs. z ∷ zs) x.1 xs.1)

-- a vector that holds a list, which lies nowhere
abbrev vector_of : {A : Type 0} → Heap → (xs : List A) → Small xs → Vec A
vector_of heap xs small = record { ptr = null_ptr; len = length xs; cap = length xs; alloc = heap; items = xs; ok = (refl, omega arith); small = small }

module _ (heap : Heap) where
  -- a vector of what stands for each of a list
  vector_as : {A B : Type 0} (f : A → B) (P : B → Type 0) → ((y : B) → P y → (x : A) × (f x ≡ y)) → (ys : List B) → Small ys → AllByRecursion P ys → (xs : Vec A) × (map f xs.items ≡ ys)
  vector_as f P make ys small all =
      let xs = each f P make ys all in
      let long : length xs.0 ≡ length ys = sym (length-map xs.0 f) ∙ ap length xs.1 in
      (vector_of heap xs.0 (omega (arith, long, small)), xs.1)

  type_as : (s : Signature) → IsSmallType s → (type : FuncType) × (signature_of type ≡ s)
  type_as s small = (record { params = vector_of heap s.params small.0; results = vector_of heap s.results small.1 }, refl)

  sequence_as : (xs : List Instr) → Small xs → (sequence : Vec Instr) × (sequence.items ≡ xs)
  sequence_as xs small = (vector_of heap xs small, refl)

  body_as : (s : Sequences) → IsSmallBody s → (body : Body) × (sequences_of body ≡ s)
  body_as s small =
      let sequences = vector_as (λ (sequence : Vec Instr). sequence.items) Small sequence_as s.each small.0 small.1 in
      (record { sequences = sequences.0; labels = vector_of heap s.labels small.2 }, ap (λ (each : List (List Instr)). record { each = each; labels = s.labels }) sequences.1)

  function_as : (f : FunctionContents) → IsSmallFunction f → (function : Function) × (function_contents function ≡ f)
  function_as f small =
      let body = body_as f.body small.1 in (
        record { type_index = f.type_index; locals = vector_of heap f.locals small.0; body = body.0 },
        ap (λ (s : Sequences). record { type_index = f.type_index; locals = f.locals; body = s }) body.1,
      )

  global_as : (g : GlobalContents) → IsSmallGlobal g → (global : Global) × (global_contents global ≡ g)
  global_as g small =
      let init = body_as g.init small in
      (record { ty = g.type.type; mutable = g.type.mutable; init = init.0 }, ap (λ (s : Sequences). record { type = g.type; init = s }) init.1)

  export_as : (e : ExportContents) → IsSmallExport e → (export : Export) × (export_contents export ≡ e)
  export_as e small = (record { name = spelled heap e.name small.1 small.0; kind = e.kind }, refl)

  pub some_module : (c : Contents) → AreSmall c → (m : Module) × (contents_of m ≡ c)
  some_module c small =
      let types = vector_as signature_of IsSmallType type_as c.types small.types.0 small.types.1 in
      let functions = vector_as function_contents IsSmallFunction function_as c.functions small.functions.0 small.functions.1 in
      let globals = vector_as global_contents IsSmallGlobal global_as c.globals small.globals.0 small.globals.1 in
      let exports = vector_as export_contents IsSmallExport export_as c.exports small.exports.0 small.exports.1 in (
        record {
          types = types.0;
          imports = vector_of heap c.imports small.imports;
          functions = functions.0;
          memories = vector_of heap c.memories small.memories;
          globals = globals.0;
          exports = exports.0;
        },
        rw (types.1, functions.1, globals.1, exports.1) refl,
      )
