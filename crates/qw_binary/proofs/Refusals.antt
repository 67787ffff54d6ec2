-- What a spelled module has: each import once, few locals, and a body that is spelled.
use Rattle.std.proofs.Common.{◌≡◌, ◌⊎◌, ℕ, zero, suc, ◌==◌, ◌<◌, ◌^◌, Bool, true, false, cond, nat_lt, List, [], ◌∷◌, ◌++◌, length, get_or, map, take, codes, slice_get, Some, Ok, Err, refl, sym, ap, subst, ◌∙◌, append_assoc, inl, inr}
use Rattle.std.specs.List.{AllByRecursion}
use Rattle.std.proofs.lemmas.List.{append-nil}
use Rattle.std.proofs.lemmas.Option.{slice_get-get_or}
use Rattle.qw_octet_grammar.specs.declared.fault.BinaryFault.{BinaryFault}
use Rattle.qw_octet_grammar.specs.declared.fault.BinaryFault.TheVariants.{NotModule, OutOfProfile}
use Rattle.qw_octet_grammar.specs.declared.fault.What.TheVariants as what
use Rattle.qw_octet_grammar.specs.Grammar.{Grammar, is, refuse, octet, after, within, pick, settle, Spells, SpellsAll}
use Rattle.qw_octet_grammar.specs.Numbers.{u32}
use Rattle.qw_octet_grammar.specs.Vectors.{counted, vector, name}
use Rattle.qw_module.specs.declared.module.Import.{Import}
use Rattle.qw_module.specs.declared.module.Import.TheVariants as import
use Rattle.qw_module.specs.declared.module.Locals.{Locals}
use Rattle.qw_binary.specs.Types.{val_type, func_type, limits, mutability}
use Rattle.qw_binary.specs.Instructions.{expression}
use Rattle.qw_binary.specs.Contents.{FunctionContents, GlobalContents, Contents}
use Rattle.qw_binary.specs.Sections.{Imported, memory, raise, pages, imported, is_among, once, equal, named_by, names, other_kind, function_import, described, import_behind, next_import, imports, global_from, global, export, locals_run, locals_count, locals, code, next_function, functions, Sections, no_sections, with_types, with_imports, with_indices, with_memories, with_globals, with_exports, with_functions, content, section_by, section}
use Rattle.qw_binary.specs.Modules.{IsSpelled}
use Rattle.qw_binary.specs.Inner.Parts.{IsInitSpelled}
use Rattle.qw_binary.proofs.Apart.{ok_is, by_cond, by_pick, by_after, it_is, nothing, settled, joined, vector_each}

by_octet : {A : Type 0} (P : Type 0) (k : ℕ → Grammar A) (x : A) (text : List ℕ) → ((b : ℕ) (rest : List ℕ) → Spells (k b) x rest → P) → Spells (octet k) x text → P
unfolding Spells
by_octet P k x [] f s = absurd s
by_octet P k x (b ∷ rest) f s = f b rest s

by_within : {A : Type 0} (P : Type 0) (n : ℕ) (g : Grammar A) (x : A) (text : List ℕ) → (Spells g x text → P) → Spells (within n false g) x text → P
unfolding Spells
by_within P n g x text f s = f s.1

-- a test that a value passes
passed : {A : Type 0} (b : Bool) (y x : A) (fault : BinaryFault) (text : List ℕ) → Spells (pick b (is y) (refuse fault)) x text → (b ≡ true) × (y ≡ x)
passed true y x fault text s = (refl, it_is y x text s)
passed false y x fault text s = absurd (nothing x text fault s)

-- ---- locals and code

pub few_locals : (runs : List Locals) (text : List ℕ) → Spells locals runs text → nat_lt (locals_count runs) (2 ^ 32) ≡ true
few_locals runs text =
    by_after (nat_lt (locals_count runs) (2 ^ 32) ≡ true) (vector locals_run) _ runs text
    (λ found front rest s t. let (holds, same) = passed (nat_lt (locals_count found) (2 ^ 32)) found runs NotModule rest t in subst (λ (w : List Locals). nat_lt (locals_count w) (2 ^ 32) ≡ true) same holds)

pub record HasParts (f : FunctionContents) : Type 0 where
  pub locals_text : List ℕ
  pub locals_spelled : Spells locals f.locals locals_text
  pub body_text : List ℕ
  pub body_spelled : Spells expression f.body body_text

pub code_parts : (type_index : ℕ) (f : FunctionContents) (text : List ℕ) → Spells (code type_index) f text → HasParts f
code_parts type_index f text =
    by_after (HasParts f) u32 _ f text (λ size front rest s. by_within (HasParts f) size _ f rest
    (by_after (HasParts f) locals _ f rest (λ runs here behind r. by_after (HasParts f) expression _ f behind
    (λ body one none t u.
    subst HasParts (it_is (record { type_index = type_index; locals = runs; body = body }) f none u)
    (record { locals_text = here; locals_spelled = r; body_text = one; body_spelled = t })))))

-- some octets spell the code of a function, with some type
abbrev pub IsCodeSpelled : FunctionContents → Type 0
IsCodeSpelled f = (type_index : ℕ) × (text : List ℕ) × Spells (code type_index) f text

counted_codes : (indices : List ℕ) (n : ℕ) (before found : List FunctionContents) (text : List ℕ) → AllByRecursion IsCodeSpelled before → Spells (counted n (next_function indices) before) found text → AllByRecursion IsCodeSpelled found
unfolding counted
counted_codes indices zero before found text h s = subst (AllByRecursion IsCodeSpelled) (it_is before found text s) h
counted_codes indices (suc n) before found text h s =
    by_after (AllByRecursion IsCodeSpelled found) (next_function indices before) _ found text
    (λ mid front rest t u. counted_codes indices n mid found rest
    (by_after (AllByRecursion IsCodeSpelled mid) (code (get_or indices (length before) 0)) _ mid front
    (λ f here none v w. subst (AllByRecursion IsCodeSpelled) (it_is (before ++ f ∷ []) mid none w) (joined IsCodeSpelled before (f ∷ []) h ((get_or indices (length before) 0, here, v), tt))) t) u) s

pub functions_codes : (indices : List ℕ) (fs : List FunctionContents) (text : List ℕ) → Spells (functions indices) fs text → AllByRecursion IsCodeSpelled fs
functions_codes indices fs text =
    by_after (AllByRecursion IsCodeSpelled fs) u32 _ fs text
    (λ n front rest s. by_pick (AllByRecursion IsCodeSpelled fs) (n == length indices) _ _ fs rest (counted_codes indices n [] fs rest tt) (λ t. absurd (nothing fs rest NotModule t)))

pub each_at : {X Y : Type 0} (P : Y → Type 0) (f : X → Y) (xs : List X) (k : ℕ) (x : X) → slice_get xs k ≡ Some x → AllByRecursion P (map f xs) → P (f x)
each_at P f [] k x at h = absurd cc
each_at P f (y ∷ ys) zero x at h = let same : y ≡ x = cc in subst (λ (z : _). P (f z)) same h.0
each_at P f (y ∷ ys) (suc k) x at h = each_at P f ys k x at h.1

-- ---- globals

init_spelled : (global_here : GlobalContents) (text : List ℕ) → Spells global global_here text → IsInitSpelled global_here
init_spelled x text =
    by_after (IsInitSpelled x) val_type _ x text (λ type a b s. by_after (IsInitSpelled x) mutability _ x b (λ mutable c d t. by_after (IsInitSpelled x) expression _ x d
    (λ init e f u v. subst IsInitSpelled (it_is (global_from type mutable init) x f v) (e, u))))

-- ---- imports

once_free : (one found : Imported) (before : List Import) → once one before ≡ Ok found → is_among found before ≡ false
once_free one found before e = at (is_among one before) refl e
  where
    at : (b : Bool) → is_among one before ≡ b → cond b (Err (OutOfProfile what.Import)) (Ok one) ≡ Ok found → is_among found before ≡ false
    at true free e = absurd cc
    at false free e = subst (λ (w : Imported). is_among w before ≡ false) (ok_is one found e) free

named_free : (before : List Import) (from text : List ℕ) (found : Imported) → named_by before from text ≡ Ok found → is_among found before ≡ false
named_free before from text found =
    by_cond (is_among found before ≡ false) (equal from (codes "q")) _ (Err (OutOfProfile what.Import)) (Ok found)
    (by_cond (is_among found before ≡ false) (equal text (codes "memory")) (once memory before) _ (Ok found) (once_free memory found before)
    (by_cond (is_among found before ≡ false) (equal text (codes "raise")) (once raise before) _ (Ok found) (once_free raise found before)
    (by_cond (is_among found before ≡ false) (equal text (codes "pages")) (once pages before) (Err (OutOfProfile what.Import)) (Ok found) (once_free pages found before) (λ e. absurd cc))))
    (λ e. absurd cc)

names_free : (before : List Import) (found : Imported) (text : List ℕ) → Spells (names before) found text → is_among found before ≡ false
names_free before found text =
    by_after (is_among found before ≡ false) name _ found text (λ from front rest s. by_after (is_among found before ≡ false) name _ found rest
    (λ own here none t u. named_free before from own found (settled (named_by before from own) found none u)))

function_is : (one : Imported) (make : ℕ → Import) → ((type : ℕ) → imported (make type) ≡ one) → (x : Import) (text : List ℕ) → Spells (function_import make) x text → imported x ≡ one
function_is one make same x text =
    by_octet (imported x ≡ one) _ x text (λ b rest. by_pick (imported x ≡ one) (b == 0x00) _ _ x rest
    (by_after (imported x ≡ one) u32 _ x rest (λ type front none s t. ap imported (sym (it_is (make type) x none t)) ∙ same type)) (λ s. absurd (nothing x rest (other_kind b) s)))

described_is : (one : Imported) (x : Import) (text : List ℕ) → Spells (described one) x text → imported x ≡ one
described_is memory x text =
    by_octet (imported x ≡ memory) _ x text (λ b rest. by_pick (imported x ≡ memory) (b == 0x02) _ _ x rest
    (by_after (imported x ≡ memory) limits _ x rest (λ l front none s t. ap imported (sym (it_is (import.Memory l) x none t)))) (λ s. absurd (nothing x rest (other_kind b) s)))
described_is raise x text = function_is raise (λ type. import.Raise type) (λ type. refl) x text
described_is pages x text = function_is pages (λ type. import.Pages type) (λ type. refl) x text

-- an import is not among those before it
pub import_free : (before : List Import) (x : Import) (text : List ℕ) → Spells (import_behind before) x text → is_among (imported x) before ≡ false
import_free before x text =
    by_after (is_among (imported x) before ≡ false) (names before) described x text
    (λ one front rest s t. subst (λ (w : Imported). is_among w before ≡ false) (sym (described_is one x rest t)) (names_free before one front s))

pub import_among : (before : List Import) (one : Imported) (x : Import) → one ≡ imported x → is_among one before ≡ true → (text : List ℕ) → Spells (import_behind before) x text → ⊥
import_among before one x named among text s =
    let both : true ≡ false = sym among ∙ ap (λ (w : Imported). is_among w before) named ∙ import_free before x text s in
    absurd cc

-- each of these is spelled behind those before it
abbrev pub EachBehind : (before xs : List Import) → Type 0
EachBehind before [] = Unit {0}
EachBehind before (x ∷ xs) = ((text : List ℕ) × Spells (import_behind before) x text) × EachBehind (before ++ x ∷ []) xs

behind_all : (n : ℕ) (before found : List Import) (text : List ℕ) → Spells (counted n next_import before) found text → (rest : List Import) × (found ≡ before ++ rest) × EachBehind before rest
unfolding counted
behind_all zero before found text s = ([], sym (it_is before found text s) ∙ sym (append-nil before), tt)
behind_all (suc n) before found text s =
    by_after ((rest : List Import) × (found ≡ before ++ rest) × EachBehind before rest) (next_import before) _ found text
    (λ mid front last t u.
    by_after ((rest : List Import) × (found ≡ before ++ rest) × EachBehind before rest) (import_behind before) _ mid front
    (λ x here none v w.
    let same : before ++ x ∷ [] ≡ mid = it_is (before ++ x ∷ []) mid none w in
    let (rest, whole, each) = behind_all n mid found last u in (
      x ∷ rest,
      whole ∙ ap (λ (w : List Import). w ++ rest) (sym same) ∙ append_assoc before (x ∷ []) rest,
      ((here, v), subst (λ (w : List Import). EachBehind w rest) (sym same) each),
    )) t) s

pub imports_each : (found : List Import) (text : List ℕ) → Spells imports found text → EachBehind [] found
imports_each found text =
    by_after (EachBehind [] found) u32 _ found text
    (λ n front rest s t. let (own, same, each) = behind_all n [] found rest t in subst (λ (w : List Import). EachBehind [] w) (sym same) each)

behind_at : (before xs : List Import) (k : ℕ) (x : Import) → slice_get xs k ≡ Some x → EachBehind before xs → (text : List ℕ) × Spells (import_behind (before ++ take k xs)) x text
behind_at before [] k x at h = absurd cc
behind_at before (y ∷ ys) zero x at h =
    let same : y ≡ x = cc in
    subst (λ (z : Import). (text : List ℕ) × Spells (import_behind (before ++ [])) z text) same (subst (λ (w : List Import). (text : List ℕ) × Spells (import_behind w) y text) (sym (append-nil before)) h.0)
behind_at before (y ∷ ys) (suc k) x at h =
    subst (λ (w : List Import). (text : List ℕ) × Spells (import_behind w) x text) (append_assoc before (y ∷ []) (take k ys)) (behind_at (before ++ y ∷ []) ys k x at h.1)

import_at : (xs : List Import) (k : ℕ) (x : Import) (text : List ℕ) → slice_get xs k ≡ Some x → Spells imports xs text → (own : List ℕ) × Spells (import_behind (take k xs)) x own
import_at xs k x text at s = behind_at [] xs k x at (imports_each xs text s)

pub none_of : {X Y : Type 0} (f : X → Y) (xs : List X) → map f xs ≡ [] → xs ≡ []
none_of f [] e = refl
none_of f (x ∷ xs) e = absurd cc

-- so where one isn't spelled behind those before it, none of the octets spell all
pub import_missing : (xs front : List Import) (k : ℕ) (d : Import) (text : List ℕ) → k < length xs → front ≡ take k xs → ((own : List ℕ) → Spells (import_behind front) (get_or xs k d) own → ⊥) → Spells imports xs text → ⊥
import_missing xs front k d text lt e missing s =
    let (own, found) = import_at xs k (get_or xs k d) text (slice_get-get_or xs k d lt) s in
    missing own (subst (λ (w : List Import). Spells (import_behind w) (get_or xs k d) own) (sym e) found)

-- ---- modules

-- what sections hold of imports, globals and code is nothing, or is spelled
pub record HasSpelled (s : Sections) : Type 0 where
  pub of_imports : (s.contents.imports ≡ []) ⊎ ((text : List ℕ) × Spells imports s.contents.imports text)
  pub of_globals : AllByRecursion IsInitSpelled s.contents.globals
  pub of_code : (s.contents.functions ≡ []) ⊎ ((indices : List ℕ) × (text : List ℕ) × Spells (functions indices) s.contents.functions text)

kept : {B : Type 0} (g : Grammar B) (make : B → Sections) (t : Sections) (text : List ℕ) → ((y : B) (front : List ℕ) → Spells g y front → HasSpelled (make y)) → Spells (after g (λ y. is (make y))) t text → HasSpelled t
kept g make t text h = by_after (HasSpelled t) g (λ y. is (make y)) t text (λ y front rest s u. subst HasSpelled (it_is (make y) t rest u) (h y front s))

content_spelled : (s : Sections) (id : ℕ) (t : Sections) (text : List ℕ) → HasSpelled s → Spells (content s id) t text → HasSpelled t
content_spelled s id t text h =
    by_pick (HasSpelled t) (id == 1) _ _ t text (kept (vector func_type) (λ types. with_types s types) t text (λ y f u. record { of_imports = h.of_imports; of_globals = h.of_globals; of_code = h.of_code }))
    (by_pick (HasSpelled t) (id == 2) _ _ t text (kept imports (λ imports. with_imports s imports) t text (λ y f u. record { of_imports = inr (f, u); of_globals = h.of_globals; of_code = h.of_code }))
    (by_pick (HasSpelled t) (id == 3) _ _ t text (kept (vector u32) (λ indices. with_indices s indices) t text (λ y f u. record { of_imports = h.of_imports; of_globals = h.of_globals; of_code = h.of_code }))
    (by_pick (HasSpelled t) (id == 5) _ _ t text (kept (vector limits) (λ memories. with_memories s memories) t text (λ y f u. record { of_imports = h.of_imports; of_globals = h.of_globals; of_code = h.of_code }))
    (by_pick (HasSpelled t) (id == 6) _ _ t text (kept (vector global) (λ globals. with_globals s globals) t text (λ y f u. record { of_imports = h.of_imports; of_globals = vector_each global IsInitSpelled init_spelled y f u; of_code = h.of_code }))
    (by_pick (HasSpelled t) (id == 7) _ _ t text (kept (vector export) (λ exports. with_exports s exports) t text (λ y f u. record { of_imports = h.of_imports; of_globals = h.of_globals; of_code = h.of_code }))
    (by_pick (HasSpelled t) (id == 10) _ _ t text (kept (functions s.type_indices) (λ fs. with_functions s fs) t text (λ y f u. record { of_imports = h.of_imports; of_globals = h.of_globals; of_code = inr (s.type_indices, f, u) }))
    (λ u. absurd (nothing t text NotModule u))))))))

begun_in : {A : Type 0} (P : Type 0) (n : ℕ) (g : Grammar A) (x : A) (text : List ℕ) → ((front : List ℕ) → Spells g x front → P) → Spells (within n true g) x text → P
unfolding Spells
begun_in P n g x text f (len, front, rest, e, s) = f front s

section_spelled : (s : Sections) (id : ℕ) (t : Sections) (text : List ℕ) → HasSpelled s → Spells (section s id) t text → HasSpelled t
section_spelled s id t text h =
    by_pick (HasSpelled t) (id == 0) _ _ t text (by_after (HasSpelled t) u32 _ t text (λ size front rest u. begun_in (HasSpelled t) size _ t rest (λ here v. kept name (λ text. s) t here (λ y f w. h) v)))
    (by_after (HasSpelled t) (settle (section_by s.last id)) _ t text (λ known here more v. by_after (HasSpelled t) u32 _ t more
    (λ size front rest u. by_within (HasSpelled t) size (content s known) t rest (content_spelled s known t rest h))))

all_spelled : (n : ℕ) (s t : Sections) (text : List ℕ) → HasSpelled s → SpellsAll section n s t text → HasSpelled t
all_spelled zero s t [] h e = subst HasSpelled e h
all_spelled (suc n) s t [] h e = subst HasSpelled e h
all_spelled zero s t (b ∷ text) h e = absurd e
all_spelled (suc n) s t (b ∷ text) h e = let (mid, front, rest, p, u, d) = e in all_spelled n mid t rest (section_spelled s b mid front h u) d

pub module_imports : (m : Contents) → IsSpelled m → (m.imports ≡ []) ⊎ ((text : List ℕ) × Spells imports m.imports text)
module_imports m (text, h) =
    subst (λ (c : Contents). (c.imports ≡ []) ⊎ ((text : List ℕ) × Spells imports c.imports text)) h.stands_for (all_spelled h.most no_sections h.last h.sections (record { of_imports = inl refl; of_globals = tt; of_code = inl refl }) h.each).of_imports

pub module_globals : (m : Contents) → IsSpelled m → AllByRecursion IsInitSpelled m.globals
module_globals m (text, h) =
    subst (λ (c : Contents). AllByRecursion IsInitSpelled c.globals) h.stands_for
    (all_spelled h.most no_sections h.last h.sections (record { of_imports = inl refl; of_globals = tt; of_code = inl refl }) h.each).of_globals

pub module_code : (m : Contents) → IsSpelled m → (m.functions ≡ []) ⊎ ((indices : List ℕ) × (text : List ℕ) × Spells (functions indices) m.functions text)
module_code m (text, h) =
    subst (λ (c : Contents). (c.functions ≡ []) ⊎ ((indices : List ℕ) × (text : List ℕ) × Spells (functions indices) c.functions text)) h.stands_for
    (all_spelled h.most no_sections h.last h.sections (record { of_imports = inl refl; of_globals = tt; of_code = inl refl }) h.each).of_code
