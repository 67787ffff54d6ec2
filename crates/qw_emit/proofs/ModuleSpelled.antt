-- The module around a statement's code has a spelling of at most 64 MiB.
use Rattle.std.proofs.Common.{◌≡◌, ℕ, ◌+◌, ◌^◌, ◌≤◌, List, [], ◌∷◌, length, refl, sym, ap, ◌∙◌, subst, arith}
use Rattle.std.specs.Global.{Vec}
use Rattle.std.specs.List.{AllByRecursion}
use Rattle.qw_module.specs.declared.instruction.ValType.{ValType}
use Rattle.qw_module.specs.declared.module.Body.{Body}
use Rattle.qw_module.specs.declared.module.Function.{Function}
use Rattle.qw_module.specs.declared.module.Locals.{Locals}
use Rattle.qw_module.specs.declared.module.Module.{Module}
use Rattle.qw_module.specs.Start.{weight}
use Rattle.qw_module.specs.Syntax.{Code, done}
use Rattle.qw_module.specs.Validity.{code_of_body, declared_types, sequences_of}
use Rattle.qw_binary.specs.Contents.{contents_of}
use Rattle.qw_binary.specs.Modules.{SpellsModule}
use Rattle.qw_module.specs.Numbering.{IsInOrder}
use Rattle.qw_module.specs.Offsets.{FitOffsets}
use Rattle.qw_binary.specs.Sizes.{IsRunAlone}
use Rattle.qw_binary.proofs.ShortRun.{spelled_in_64_mib}
use Rattle.qw_map.specs.Behaving.{IsRunnable}
use Rattle.qw_low.specs.Size.{size}
use Rattle.qw_low.specs.Syntax.{Statement}
use Rattle.qw_low.specs.Translation.{statement_code}
use Rattle.qw_low.proofs.CodeSize.{statement_size}
use Rattle.qw_emit.specs.Inner.Around.{IsAround}

pub spelled_around : (types : List ValType) (locals : Vec Locals) (body : Body) (s : Statement) → code_of_body body ≡ statement_code s done → (m : Module) → declared_types locals.items ≡ types →
    AllByRecursion (λ (run : Locals). 1 ≤ run.count) locals.items → IsAround (declared_types locals.items) (sequences_of body) m →
    ((run : Function) × (m.functions.items ≡ run ∷ []) × (run.type_index ≡ 0) × (run.locals ≡ locals) × (run.body ≡ body)) →
    IsInOrder (sequences_of body) → body.labels.items ≡ [] → FitOffsets (code_of_body body) → IsRunnable m → size s ≤ 2 ^ 22 → length types ≤ 2 ^ 21 →
    (text : List ℕ) × SpellsModule (contents_of m) text × (length text ≤ 2 ^ 26)
spelled_around types locals body s code_is m types_are some around (run, functions, index, locals_are, body_is) order labels offsets runnable small few =
    let none : size s + 0 ≡ size s = omega arith in
    let weighed : weight (code_of_body body) ≡ size s = ap (λ (code : Code). weight code) code_is ∙ statement_size (λ index. 0) refl refl s done ∙ none in
    let alone : IsRunAlone run m = record {
      types = around.types;
      imports = around.imports;
      functions = functions;
      index = index;
      locals = subst (λ (l : Vec Locals). AllByRecursion (λ (run : Locals). 1 ≤ run.count) l.items) (sym locals_are) some;
      order = subst (λ (b : Body). IsInOrder (sequences_of b)) (sym body_is) order;
      labels = ap (λ (b : Body). b.labels.items) body_is ∙ labels;
      memories = around.memories;
      globals = around.globals;
      exports = around.exports;
    } in
    let many : length (declared_types run.locals.items) ≡ length types = ap (λ (l : Vec Locals). length (declared_types l.items)) locals_are ∙ ap (λ (ts : List ValType). length ts) types_are in
    let light : weight (code_of_body run.body) ≡ size s = ap (λ (b : Body). weight (code_of_body b)) body_is ∙ weighed in
    spelled_in_64_mib m run runnable.valid alone (subst (λ (b : Body). FitOffsets (code_of_body b)) (sym body_is) offsets) (omega (arith, light, small)) (omega (arith, many, few))
