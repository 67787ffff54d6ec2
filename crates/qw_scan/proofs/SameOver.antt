-- What is passed over ends where it ends when it is read, and is stuck where it is stuck.
use Rattle.std.proofs.Common.{◌≡◌, ℕ, zero, suc, ◌+◌, ◌^◌, Bool, true, false, cond, List, [], ◌∷◌, ◌++◌, length, take, drop, get_or, nat_lt, Result, Ok, Err, refl, sym, ap, ◌∙◌, arith}
use Rattle.std.specs.Prelude.{◌==◌}
use Rattle.qw_octet_grammar.specs.declared.fault.BinaryFault.{BinaryFault}
use Rattle.qw_octet_grammar.specs.declared.fault.BinaryFault.TheVariants.{NotModule}
use Rattle.qw_octet_grammar.specs.Grammar.{Grammar, refuse, octet, within}
use Rattle.qw_octet_grammar.specs.Reading.{◌>>=◌, Fails, filled, read}
use Rattle.qw_octet_grammar.specs.Numbers.{u32}
use Rattle.qw_octet_grammar.specs.Vectors.{counted, one_more, vector, name}
use Rattle.qw_octet_grammar.proofs.Loops.{fails_through}
use Rattle.qw_module.specs.declared.instruction.ValType.{ValType}
use Rattle.qw_module.specs.declared.module.Locals.{Locals}
use Rattle.qw_module.specs.declared.module.ExportKind.{ExportKind}
use Rattle.qw_module.specs.Syntax.{Sequences}
use Rattle.qw_module.specs.Typing.{Signature}
use Rattle.qw_binary.specs.Types.{val_type, func_type, limits, mutability}
use Rattle.qw_binary.specs.Contents.{FunctionContents, ExportContents}
use Rattle.qw_binary.specs.Instructions.{expression}
use Rattle.qw_binary.specs.Sections.{imports, Sections, with_types, with_imports, with_indices, with_memories, with_globals, with_exports, with_functions, content, global_from, global, export_kind, export, locals_from, locals_run, locals_count, locals, code, next_function, functions}
use Rattle.qw_scan.specs.Read.{mapped, passed_over}
use Rattle.qw_scan.specs.Inner.Passing.{over, all_over}
use Rattle.qw_scan.specs.Inner.Over.{types_over, type_over, global_over, export_over, run_over, runs_over, locals_over, code_over, codes_over, content_over}
use Rattle.qw_scan.proofs.SamePlaces.{by-pick, by-is, by-after, by-both}
use Rattle.qw_scan.proofs.SamePassing.{made-over, over_same, all_steps_over, one_more_over, vector_same}
use Rattle.qw_scan.proofs.SameShapes.{same_shapes}

-- ---- grammars that are read alike

module _ {A B : Type 0} (f : A → B) (bytes : List ℕ) where
  by-octet : (k : ℕ → Grammar A) (k' : ℕ → Grammar B) → ((b : ℕ) (rest : List ℕ) → read (k' b) rest ≡ mapped f (read (k b) rest)) → read (octet k') bytes ≡ mapped f (read (octet k) bytes)
  unfolding read
  by-octet k k' each = of_bytes bytes
    where
      of_bytes : (bs : List ℕ) → read (octet k') bs ≡ mapped f (read (octet k) bs)
      of_bytes [] = refl
      of_bytes (b ∷ bs) = each b bs

  by-refuse : (fault : BinaryFault) → read (refuse fault) bytes ≡ mapped f (read (refuse fault) bytes)
  unfolding read
  by-refuse fault = refl

  by-filled : (n : ℕ) (passes : Bool) (y : A × List ℕ) → filled n passes bytes (f y.0, y.1) ≡ mapped f (filled n passes bytes y)
  by-filled n true y = of_test (nat_lt (length bytes) n)
    where
      of_test : (b : Bool) → cond b (Err NotModule) (Ok (f y.0, drop n bytes)) ≡ mapped f (cond b (Err NotModule) (Ok (y.0, drop n bytes)))
      of_test true = refl
      of_test false = refl
  by-filled n false y = of_tests (nat_lt (length bytes) n) (nat_lt 0 (length y.1))
    where
      of_tests : (b c : Bool) → cond b (Err NotModule) (cond c (Err NotModule) (Ok (f y.0, drop n bytes))) ≡ mapped f (cond b (Err NotModule) (cond c (Err NotModule) (Ok (y.0, drop n bytes))))
      of_tests true c = refl
      of_tests false true = refl
      of_tests false false = refl

  by-within : (n : ℕ) (passes : Bool) (g : Grammar A) (g' : Grammar B) → read g' (take n bytes) ≡ mapped f (read g (take n bytes)) → read (within n passes g') bytes ≡ mapped f (read (within n passes g) bytes)
  unfolding read
  by-within n passes g g' alike = ap (λ r. r >>= filled n passes bytes) alike ∙ of_result (read g (take n bytes))
    where
      of_result : (r : Result (A × List ℕ) BinaryFault) → (mapped f r >>= filled n passes bytes) ≡ mapped f (r >>= filled n passes bytes)
      of_result (Ok y) = by-filled n passes y
      of_result (Err fault) = refl

-- ---- what sections hold

types_same : (bytes : List ℕ) → read types_over bytes ≡ mapped passed_over (read (vector val_type) bytes)
types_same bytes = vector_same val_type (over val_type) (over_same val_type) bytes

abbrev typed_by : List ValType → List ValType → Signature
typed_by params results = record { params = params; results = results }

pub type_same : (bytes : List ℕ) → read type_over bytes ≡ mapped passed_over (read func_type bytes)
type_same bytes =
    by-octet passed_over bytes _ _ (λ b rest. by-pick passed_over rest (b == 0x60) _ _ _ _
    (by-both passed_over rest (vector val_type) types_over passed_over _ _ (types_same rest) (λ params mid. types_same mid ∙ made-over (vector val_type) (typed_by params) mid))
    (by-refuse passed_over rest NotModule))

pub global_same : (bytes : List ℕ) → read global_over bytes ≡ mapped passed_over (read global bytes)
global_same bytes =
    by-after passed_over bytes val_type _ _ (λ type rest r. by-after passed_over rest mutability _ _ (λ mutable mid q. same_shapes mid ∙ made-over expression (global_from type mutable) mid))

abbrev exported_by : List ℕ → ExportKind → ExportContents
exported_by text kind = record { name = text; kind = kind }

pub export_same : (bytes : List ℕ) → read export_over bytes ≡ mapped passed_over (read export bytes)
export_same bytes = by-after passed_over bytes name _ _ (λ text rest r. over_same export_kind rest ∙ made-over export_kind (exported_by text) rest)

-- ---- code

count_more : (before : List Locals) (run : Locals) → locals_count before + run.count ≡ locals_count (before ++ run ∷ [])
count_more [] run = omega arith
count_more (first ∷ before) run = omega (arith, count_more before run)

abbrev sum_with : ℕ → ValType × List ℕ → Result (ℕ × List ℕ) BinaryFault
sum_with sum z = Ok (sum, z.1)

abbrev run_with : ℕ → ValType × List ℕ → Result (Locals × List ℕ) BinaryFault
run_with count z = Ok (locals_from count z.0, z.1)

abbrev put_behind : List Locals → Locals × List ℕ → Result (List Locals × List ℕ) BinaryFault
put_behind before y = Ok (before ++ y.0 ∷ [], y.1)

one_run : (before : List Locals) (bytes : List ℕ) → read (run_over (locals_count before)) bytes ≡ mapped locals_count (read (one_more locals_run before) bytes)
unfolding read
one_run before bytes = of_count (read u32 bytes)
  where
    of_type : (count : ℕ) (r : Result (ValType × List ℕ) BinaryFault) → (r >>= sum_with (locals_count before + count)) ≡ mapped locals_count ((r >>= run_with count) >>= put_behind before)
    of_type count (Err fault) = refl
    of_type count (Ok z) = ap (λ (n : ℕ). sum_with n z) (count_more before (locals_from count z.0))

    of_count : (r : Result (ℕ × List ℕ) BinaryFault) →
        (r >>= λ w. read val_type w.1 >>= sum_with (locals_count before + w.0)) ≡ mapped locals_count ((r >>= λ w. read val_type w.1 >>= run_with w.0) >>= put_behind before)
    of_count (Err fault) = refl
    of_count (Ok w) = of_type w.0 (read val_type w.1)

runs_same : (n : ℕ) (before : List Locals) (bytes : List ℕ) → read (counted n run_over (locals_count before)) bytes ≡ mapped locals_count (read (counted n (one_more locals_run) before) bytes)
unfolding counted
runs_same zero before bytes = by-is locals_count bytes before (locals_count before) refl
runs_same (suc n) before bytes =
    by-both locals_count bytes (one_more locals_run before) (run_over (locals_count before)) locals_count (counted n (one_more locals_run)) (counted n run_over) (one_run before bytes) (λ y rest. runs_same n y rest)

pub locals_same : (bytes : List ℕ) → read locals_over bytes ≡ mapped passed_over (read locals bytes)
locals_same bytes =
    by-both passed_over bytes (vector locals_run) runs_over locals_count _ _ (by-after locals_count bytes u32 _ _ (λ n rest r. runs_same n [] rest))
    (λ runs rest. by-pick passed_over rest (nat_lt (locals_count runs) (2 ^ 32)) _ _ _ _ (by-is passed_over rest runs tt refl) (by-refuse passed_over rest NotModule))

abbrev coded_by : ℕ → List Locals → Sequences → FunctionContents
coded_by type_index runs body = record { type_index = type_index; locals = runs; body = body }

pub code_same : (type_index : ℕ) (bytes : List ℕ) → read code_over bytes ≡ mapped passed_over (read (code type_index) bytes)
code_same type_index bytes =
    by-after passed_over bytes u32 _ _ (λ size rest r. by-within passed_over rest size false _ _
    (by-both passed_over (take size rest) locals locals_over passed_over _ _ (locals_same (take size rest)) (λ runs mid. same_shapes mid ∙ made-over expression (coded_by type_index runs) mid)))

-- the codes of functions whose types have these indices
all_codes_same : (indices : List ℕ) (n : ℕ) (bytes : List ℕ) → read (all_over n code_over) bytes ≡ mapped passed_over (read (counted n (next_function indices) []) bytes)
all_codes_same indices n bytes =
    all_steps_over (next_function indices) code_over (λ before bytes. one_more_over (code (get_or indices (length before) 0)) code_over (code_same (get_or indices (length before) 0)) before bytes) n [] bytes

pub codes_same : (indices : List ℕ) (own : ℕ) (bytes : List ℕ) → own ≡ length indices → read (codes_over own) bytes ≡ mapped passed_over (read (functions indices) bytes)
codes_same indices own bytes e =
    ap (λ (n : ℕ). read (codes_over n) bytes) e
    ∙ by-after passed_over bytes u32 _ _ (λ n rest r. by-pick passed_over rest (n == length indices) _ _ _ _ (all_codes_same indices n rest) (by-refuse passed_over rest NotModule))

-- what a section holds, whatever the sections before it hold
pub content_same : (s : Sections) (own id : ℕ) (bytes : List ℕ) → own ≡ length s.type_indices → read (content_over own id) bytes ≡ mapped passed_over (read (content s id) bytes)
content_same s own id bytes e =
    by-pick passed_over bytes (id == 1) _ _ _ _ (vector_same func_type type_over type_same bytes ∙ made-over (vector func_type) (with_types s) bytes)
    (by-pick passed_over bytes (id == 2) _ _ _ _ (over_same imports bytes ∙ made-over imports (with_imports s) bytes)
    (by-pick passed_over bytes (id == 3) _ _ _ _ (vector_same u32 (over u32) (over_same u32) bytes ∙ made-over (vector u32) (with_indices s) bytes)
    (by-pick passed_over bytes (id == 5) _ _ _ _ (vector_same limits (over limits) (over_same limits) bytes ∙ made-over (vector limits) (with_memories s) bytes)
    (by-pick passed_over bytes (id == 6) _ _ _ _ (vector_same global global_over global_same bytes ∙ made-over (vector global) (with_globals s) bytes)
    (by-pick passed_over bytes (id == 7) _ _ _ _ (vector_same export export_over export_same bytes ∙ made-over (vector export) (with_exports s) bytes)
    (by-pick passed_over bytes (id == 10) _ _ _ _ (codes_same s.type_indices own bytes e ∙ made-over (functions s.type_indices) (with_functions s) bytes)
    (by-refuse passed_over bytes NotModule)))))))

-- ---- a run of locals, step by step

module _ (sum : ℕ) (bytes : List ℕ) where
  pub run_ok : (more : ℕ) (type : ValType) (mid rest : List ℕ) → read u32 bytes ≡ Ok (more, mid) → read val_type mid ≡ Ok (type, rest) → read (run_over sum) bytes ≡ Ok (sum + more, rest)
  unfolding read
  run_ok more type mid rest first second =
      ap (λ (r : Result (ℕ × List ℕ) BinaryFault). r >>= λ w. read val_type w.1 >>= sum_with (sum + w.0)) first ∙ ap (λ (r : Result (ValType × List ℕ) BinaryFault). r >>= sum_with (sum + more)) second

  pub run_fails : (e : BinaryFault) → Fails e (read u32 bytes) → Fails e (read (run_over sum) bytes)
  unfolding read
  run_fails e h = fails_through e (read u32 bytes) (λ w. read val_type w.1 >>= sum_with (sum + w.0)) _ h refl

  pub run_fails_type : (e : BinaryFault) (more : ℕ) (mid : List ℕ) → read u32 bytes ≡ Ok (more, mid) → Fails e (read val_type mid) → Fails e (read (run_over sum) bytes)
  unfolding read
  run_fails_type e more mid first h =
      fails_through e (read val_type mid) (sum_with (sum + more)) _ h (sym (ap (λ (r : Result (ℕ × List ℕ) BinaryFault). r >>= λ w. read val_type w.1 >>= sum_with (sum + w.0)) first))

-- an id that no section has
pub content_none : (own id : ℕ) (bytes : List ℕ) → (id == 1) ≡ false → (id == 2) ≡ false → (id == 3) ≡ false → (id == 5) ≡ false → (id == 6) ≡ false → (id == 7) ≡ false → (id == 10) ≡ false →
    read (content_over own id) bytes ≡ Err NotModule
unfolding read
content_none own id bytes n1 n2 n3 n5 n6 n7 n10 = rw (n1, n2, n3, n5, n6, n7, n10) refl
