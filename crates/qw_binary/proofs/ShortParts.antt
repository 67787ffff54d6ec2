-- Short spellings of the parts of sections.
use Rattle.std.proofs.Common.{◌≡◌, ℕ, ◌==◌, ◌+◌, ◌^◌, ◌<◌, ◌≤◌, Bool, true, false, ltb, List, [], ◌∷◌, ◌++◌, length, get_or, map, codes, Option, Some, None, Ok, refl, sym, ap, subst, ◌∙◌, append_assoc, length-append, arith, inl, inr}
use Rattle.std.specs.List.{AllByRecursion, sum_by}
use Rattle.std.specs.Str.{IsUtf8, IsAscii}
use Rattle.std.proofs.lemmas.Bool.{eq-eqb, lt-ltb, le-ltb, cases_lt}
use Rattle.std.specs.Prelude.{IfSome}
use Rattle.std.proofs.lemmas.List.{length-map, get_or-map}
use Rattle.std.proofs.lemmas.List.Sums.{sum_by-cons}
use Rattle.std.proofs.lemmas.Str.{IsUtf8-from_ascii}
use Rattle.std.proofs.lemmas.Str.Ascii.{IsAscii-nil, IsAscii-cons}
use Rattle.std.proofs.Math.Seq.{get_or-append_seam}
use Rattle.qw_octet_grammar.specs.declared.fault.BinaryFault.TheVariants.{NotModule}
use Rattle.qw_octet_grammar.specs.Grammar.{Grammar, is, refuse, octet, after, pick, settle}
use Rattle.qw_octet_grammar.specs.Numbers.{u32}
use Rattle.qw_octet_grammar.specs.Vectors.{counted, vector, name}
use Rattle.qw_module.specs.declared.instruction.ValType.{ValType}
use Rattle.qw_module.specs.declared.module.Limits.{Limits}
use Rattle.qw_module.specs.declared.module.Import.{Import}
use Rattle.qw_module.specs.declared.module.Import.TheVariants as import
use Rattle.qw_module.specs.declared.module.Locals.{Locals}
use Rattle.qw_module.specs.declared.module.ExportKind.{ExportKind}
use Rattle.qw_module.specs.declared.module.ExportKind.TheVariants as kind
use Rattle.qw_module.specs.Syntax.{Code, Sequences, code_of}
use Rattle.qw_module.specs.Typing.{Signature}
use Rattle.qw_binary.specs.Types.{val_type, func_type, limits, limits_from, mutability_by, mutability}
use Rattle.qw_binary.specs.Instructions.{expression}
use Rattle.qw_binary.specs.Contents.{FunctionContents, GlobalContents, ExportContents}
use Rattle.qw_module.specs.Numbering.{IsInOrder}
use Rattle.qw_binary.specs.Sections.{Imported, memory, raise, pages, imported, is_among, named_by, names, function_import, described, import_behind, imports, global_from, global, kind_by, export_kind, export, locals_from, locals_run, locals_count, locals, code, next_function, functions}
use Rattle.qw_binary.specs.Sizes.{Fits, FitsCode, code_octets, type_octets, FitsLimits, import_octets, FitsImport, AreOnce, run_octets, inner_octets, function_octets, FitsFunction, global_octets, FitsGlobal, index_of, export_octets, FitsExport}
use Rattle.qw_binary.specs.Inner.Short.{IsShort, AreShort}
use Rattle.qw_binary.proofs.Short.{short_is, short_octet, short_after, short_made, short_first, short_settled, short_u32, short_small, short_within, short_counted, short_items, short_vector, short_name, longer}
use Rattle.qw_binary.proofs.ShortCodes.{short_val_type}
use Rattle.qw_binary.proofs.ShortBodies.{short_body}

-- ---- types, limits and imports

sum_ones : {A : Type 0} (xs : List A) → sum_by (λ _. 1) xs ≡ length xs
sum_ones [] = refl
sum_ones {A} (x ∷ xs) = omega (arith, sum_by-cons (λ (_ : A). 1) x xs, sum_ones xs)

short_types : (types : List ValType) → Fits (length types) → IsShort (vector val_type) types (5 + length types)
short_types types fits = longer (vector val_type) types (5 + sum_by (λ _. 1) types) (5 + length types) (omega (arith, sum_ones types)) (short_vector val_type (λ _. 1) types fits (each types))
  where
    each : (types : List ValType) → AllByRecursion (λ t. IsShort val_type t 1) types
    each [] = tt
    each (t ∷ types) = (short_val_type t, each types)

pub short_type : (type : Signature) → Fits (type_octets type) → IsShort func_type type (type_octets type)
short_type type fits =
    longer func_type type (1 + ((5 + length type.params) + (5 + length type.results))) (type_octets type) (omega arith)
    (short_octet _ 0x60 type ((5 + length type.params) + (5 + length type.results))
    (short_after (vector val_type) (λ params. after (vector val_type) (λ results. is (record { params = params; results = results }))) type.params type (5 + length type.params) (5 + length type.results)
    (short_types type.params (omega (arith, fits)))
    (short_made (vector val_type) (λ results. record { params = type.params; results = results }) type.results (5 + length type.results) (short_types type.results (omega (arith, fits))))))

pub short_limits : (l : Limits) → FitsLimits l → IsShort limits l 11
short_limits l fits = by_greatest l.min l.max fits.0 fits.1
  where
    by_greatest : (min : ℕ) (max : Option ℕ) → Fits min → IfSome max Fits → IsShort limits (limits_from min max) 11
    by_greatest min None low high =
        longer limits (limits_from min None) 6 11 (omega arith) (short_octet _ 0x00 (limits_from min None) 5 (short_made u32 (λ min. limits_from min None) min 5 (short_u32 min low)))
    by_greatest min (Some max) low high =
        short_octet _ 0x01 (limits_from min (Some max)) 10
        (short_after u32 (λ min. after u32 (λ max. is (limits_from min (Some max)))) min (limits_from min (Some max)) 5 5 (short_u32 min low) (short_made u32 (λ max. limits_from min (Some max)) max 5 (short_u32 max high)))

all_ascii : (bs : List ℕ) → AllByRecursion (λ b. b < 128) bs → IsAscii bs
all_ascii [] h = IsAscii-nil
all_ascii (b ∷ bs) h = IsAscii-cons b bs h.0 (all_ascii bs h.1)

q_utf8 : IsUtf8 (codes "q")
q_utf8 = IsUtf8-from_ascii (codes "q") (all_ascii (codes "q") (omega arith, tt))

memory_utf8 : IsUtf8 (codes "memory")
memory_utf8 = IsUtf8-from_ascii (codes "memory") (all_ascii (codes "memory") (omega arith, (omega arith, (omega arith, (omega arith, (omega arith, (omega arith, tt)))))))

raise_utf8 : IsUtf8 (codes "raise")
raise_utf8 = IsUtf8-from_ascii (codes "raise") (all_ascii (codes "raise") (omega arith, (omega arith, (omega arith, (omega arith, (omega arith, tt))))))

pages_utf8 : IsUtf8 (codes "pages")
pages_utf8 = IsUtf8-from_ascii (codes "pages") (all_ascii (codes "pages") (omega arith, (omega arith, (omega arith, (omega arith, (omega arith, tt))))))

short_names : (before : List Import) (one : Imported) (text : List ℕ) → IsUtf8 text → length text < 100 → named_by before (codes "q") text ≡ Ok one → IsShort (names before) one (11 + length text)
short_names before one text utf8 few e =
    longer (names before) one (6 + ((5 + length text) + 0)) (11 + length text) (omega arith)
    (short_after name (λ from. after name (λ text. settle (named_by before from text))) (codes "q") one 6 ((5 + length text) + 0)
    (short_name (codes "q") (omega arith) q_utf8)
    (short_after name (λ text. settle (named_by before (codes "q") text)) text one (5 + length text) 0 (short_name text (omega (arith, few)) utf8) (short_settled (named_by before (codes "q") text) one e)))

short_function_import : (make : ℕ → Import) (type : ℕ) → Fits type → IsShort (function_import make) (make type) 6
short_function_import make type fits = short_octet _ 0x00 (make type) 5 (short_made u32 make type 5 (short_u32 type fits))

pub short_import : (before : List Import) (one : Import) → is_among (imported one) before ≡ false → FitsImport one → IsShort (import_behind before) one (import_octets one)
short_import before (import.Memory l) absent fits =
    let named : named_by before (codes "q") (codes "memory") ≡ Ok memory = rw absent refl in
    short_after (names before) described memory (import.Memory l) 17 12 (short_names before memory (codes "memory") memory_utf8 (omega arith) named)
    (short_octet _ 0x02 (import.Memory l) 11 (short_made limits (λ l. import.Memory l) l 11 (short_limits l fits)))
short_import before (import.Raise type) absent fits =
    let named : named_by before (codes "q") (codes "raise") ≡ Ok raise = rw absent refl in
    short_after (names before) described raise (import.Raise type) 16 6 (short_names before raise (codes "raise") raise_utf8 (omega arith) named)
    (short_function_import (λ type. import.Raise type) type fits)
short_import before (import.Pages type) absent fits =
    let named : named_by before (codes "q") (codes "pages") ≡ Ok pages = rw absent refl in
    short_after (names before) described pages (import.Pages type) 16 6 (short_names before pages (codes "pages") pages_utf8 (omega arith) named)
    (short_function_import (λ type. import.Pages type) type fits)

pub short_imports : (all : List Import) → Fits (length all) → AreOnce [] all → AllByRecursion FitsImport all → IsShort imports all (5 + sum_by import_octets all)
short_imports all many once fits = short_items import_behind import_octets all many (each [] all once fits)
  where
    each : (before all : List Import) → AreOnce before all → AllByRecursion FitsImport all → AreShort import_behind import_octets before all
    each before [] once fits = tt
    each before (one ∷ others) once fits = (short_import before one once.0 fits.0, each (before ++ one ∷ []) others once.1 fits.1)

-- ---- exports

short_kind : (k : ExportKind) → Fits (index_of k) → IsShort export_kind k 6
short_kind (kind.Function index) fits =
    short_after (octet (λ b. settle (kind_by b))) (λ make. after u32 (λ index. is (make index))) (λ index. kind.Function index) (kind.Function index) 1 5
    (short_octet _ 0x00 _ 0 (short_settled (kind_by 0x00) _ refl)) (short_made u32 (λ index. kind.Function index) index 5 (short_u32 index fits))
short_kind (kind.Memory index) fits =
    short_after (octet (λ b. settle (kind_by b))) (λ make. after u32 (λ index. is (make index))) (λ index. kind.Memory index) (kind.Memory index) 1 5
    (short_octet _ 0x02 _ 0 (short_settled (kind_by 0x02) _ refl)) (short_made u32 (λ index. kind.Memory index) index 5 (short_u32 index fits))
short_kind (kind.Global index) fits =
    short_after (octet (λ b. settle (kind_by b))) (λ make. after u32 (λ index. is (make index))) (λ index. kind.Global index) (kind.Global index) 1 5
    (short_octet _ 0x03 _ 0 (short_settled (kind_by 0x03) _ refl)) (short_made u32 (λ index. kind.Global index) index 5 (short_u32 index fits))

pub short_export : (e : ExportContents) → FitsExport e → Fits (export_octets e) → IsUtf8 e.name → IsShort export e (export_octets e)
short_export e fits few utf8 =
    longer export e ((5 + length e.name) + 6) (export_octets e) (omega arith)
    (short_after name (λ text. after export_kind (λ kind. is (record { name = text; kind = kind }))) e.name e (5 + length e.name) 6 (short_name e.name (omega (arith, few)) utf8)
    (short_made export_kind (λ kind. record { name = e.name; kind = kind }) e.kind 6 (short_kind e.kind fits)))

-- ---- globals

short_mutable : (mutable : Bool) → IsShort mutability mutable 1
short_mutable true = short_octet _ 0x01 true 0 (short_settled (mutability_by 0x01) true refl)
short_mutable false = short_octet _ 0x00 false 0 (short_settled (mutability_by 0x00) false refl)

-- a body in order
in_order : (body : Sequences) → IsInOrder body → FitsCode (code_of body) → IsShort expression body (code_octets (code_of body) + 1)
in_order body order fits = subst (λ b. IsShort expression b (code_octets (code_of body) + 1)) (sym order) (short_body (code_of body) fits)

pub short_global : (g : GlobalContents) → FitsGlobal g → IsShort global g (global_octets g)
short_global g fits =
    let rest : ℕ = code_octets (code_of g.init) + 1 in
    longer global g (1 + (1 + rest)) (global_octets g) (omega arith)
    (short_after val_type (λ type. after mutability (λ mutable. after expression (λ init. is (global_from type mutable init)))) g.type.type g 1 (1 + rest) (short_val_type g.type.type)
    (short_after mutability (λ mutable. after expression (λ init. is (global_from g.type.type mutable init))) g.type.mutable g 1 rest (short_mutable g.type.mutable)
    (short_made expression (λ init. global_from g.type.type g.type.mutable init) g.init rest (in_order g.init fits.0 fits.1))))

-- ---- functions

short_run : (run : Locals) → Fits run.count → IsShort locals_run run (run_octets run)
short_run run fits =
    elim (cases_lt run.count 128) [
      | inl few ↦ (let e : ltb run.count 128 ≡ true = lt-ltb run.count 128 few in rw e (behind 1 (short_small run.count few)))
      | inr many ↦ (let e : ltb run.count 128 ≡ false = le-ltb run.count 128 many in rw e (behind 5 (short_u32 run.count fits)))
    ]
  where
    behind : (most : ℕ) → IsShort u32 run.count most → IsShort locals_run run (most + 1)
    behind most h = short_after u32 (λ count. after val_type (λ type. is (locals_from count type))) run.count run most 1 h (short_made val_type (λ type. locals_from run.count type) run.ty 1 (short_val_type run.ty))

run_some : (run : Locals) → 1 ≤ run_octets run
run_some run =
    elim (cases_lt run.count 128) [
      | inl few ↦ (let e : ltb run.count 128 ≡ true = lt-ltb run.count 128 few in rw e (omega arith))
      | inr many ↦ (let e : ltb run.count 128 ≡ false = le-ltb run.count 128 many in rw e (omega arith))
    ]

-- items are no more than their octets
pub fewer : {A : Type 0} (size : A → ℕ) (xs : List A) → ((x : A) → 1 ≤ size x) → length xs ≤ sum_by size xs
fewer size [] h = omega arith
fewer size (x ∷ xs) h = omega (arith, sum_by-cons size x xs, h x, fewer size xs h)

short_locals : (runs : List Locals) → Fits (sum_by run_octets runs) → Fits (locals_count runs) → IsShort locals runs (5 + sum_by run_octets runs)
short_locals runs small few =
    longer locals runs ((5 + sum_by run_octets runs) + 0) (5 + sum_by run_octets runs) (omega arith)
    (short_after (vector locals_run) (λ runs. pick (ltb (locals_count runs) (2 ^ 32)) (is runs) (refuse NotModule)) runs runs (5 + sum_by run_octets runs) 0
    (short_vector locals_run run_octets runs (omega (arith, small, fewer run_octets runs run_some)) (each runs few))
    (short_first (ltb (locals_count runs) (2 ^ 32)) (is runs) (refuse NotModule) runs 0 (lt-ltb (locals_count runs) (2 ^ 32) few) (short_is runs)))
  where
    each : (runs : List Locals) → Fits (locals_count runs) → AllByRecursion (λ run. IsShort locals_run run (run_octets run)) runs
    each [] h = tt
    each (run ∷ runs) h = (short_run run (omega (arith, h)), each runs (omega (arith, h)))

pub short_function : (f : FunctionContents) → FitsFunction f → Fits (inner_octets f) → IsShort (code f.type_index) f (function_octets f)
short_function f fits small =
    let c : Code = code_of f.body in
    let body : IsShort expression f.body (code_octets c + 1) = in_order f.body fits.order fits.code in
    let g : Grammar FunctionContents = after locals (λ runs. after expression (λ body. is (record { type_index = f.type_index; locals = runs; body = body }))) in
    let inner : IsShort g f (inner_octets f) =
    longer g f ((5 + sum_by run_octets f.locals) + (code_octets c + 1)) (inner_octets f) (omega arith)
    (short_after locals (λ runs. after expression (λ body. is (record { type_index = f.type_index; locals = runs; body = body }))) f.locals f (5 + sum_by run_octets f.locals) (code_octets c + 1)
    (short_locals f.locals (omega (arith, small)) fits.locals)
    (short_made expression (λ body. record { type_index = f.type_index; locals = f.locals; body = body }) f.body (code_octets c + 1) body)) in
    short_within g f (inner_octets f) small inner

abbrev pub index_in : FunctionContents → ℕ
index_in f = f.type_index

pub short_functions : (all : List FunctionContents) → Fits (sum_by function_octets all) → AllByRecursion FitsFunction all → IsShort (functions (map index_in all)) all (5 + sum_by function_octets all)
short_functions all small fits =
    let indices : List ℕ = map index_in all in
    let same : (length all == length indices) ≡ true = eq-eqb (length all) (length indices) (sym (length-map all index_in)) in
    short_after u32 (λ n. pick (n == length indices) (counted n (next_function indices) []) (refuse NotModule)) (length all) all 5 (sum_by function_octets all) (short_u32 (length all) (omega (arith, small, fewer function_octets all (λ f. omega arith))))
    (short_first (length all == length indices) (counted (length all) (next_function indices) []) (refuse NotModule) all (sum_by function_octets all) same
    (short_counted (λ before. code (get_or indices (length before) 0)) function_octets [] all (each [] all refl small fits)))
  where
    each : (before rest : List FunctionContents) → before ++ rest ≡ all → Fits (sum_by function_octets rest) → AllByRecursion FitsFunction rest → AreShort (λ (before : List FunctionContents). code (get_or (map index_in all) (length before) 0)) function_octets before rest
    each before [] e small fits = tt
    each before (f ∷ rest) e small fits =
        let number : get_or (map index_in all) (length before) 0 ≡ f.type_index =
        ap (λ fs. get_or (map index_in fs) (length before) 0) (sym e) ∙ get_or-map index_in (before ++ f ∷ rest) (length before) f 0 (omega (arith, length-append before (f ∷ rest)))
        ∙ ap index_in (get_or-append_seam before f rest f) in (
          subst (λ n. IsShort (code n) f (function_octets f)) (sym number) (short_function f fits.0 (omega (arith, small, sum_by-cons function_octets f rest))),
          each (before ++ f ∷ []) rest (append_assoc before (f ∷ []) rest ∙ e) (omega (arith, small, sum_by-cons function_octets f rest)) fits.1,
        )
