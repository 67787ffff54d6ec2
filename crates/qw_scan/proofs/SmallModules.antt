-- Contents that octets spell fit into vectors and texts, since octets in memory are fewer than 2^63.
use Rattle.std.proofs.Common.{◌≡◌, ℕ, zero, suc, ◌≤◌, ◌^◌, Bool, true, false, List, [], ◌∷◌, ◌++◌, length, get_or, take, drop, refl, sym, subst, arith}
use Rattle.std.specs.Prelude.{◌==◌, nat_lt}
use Rattle.std.specs.List.{AllByRecursion}
use Rattle.std.specs.Str.{IsUtf8, is_utf8}
use Rattle.std.proofs.lemmas.Str.{IsUtf8-from_is_utf8}
use Rattle.std.proofs.lemmas.List.{take-append-drop}
use Rattle.qw_octet_grammar.specs.declared.fault.BinaryFault.TheVariants.{NotModule}
use Rattle.qw_octet_grammar.specs.Grammar.{Grammar, is, refuse, octet, octets, after, within, pick, settle, Spells, SpellsAll}
use Rattle.qw_octet_grammar.specs.Numbers.{u32}
use Rattle.qw_octet_grammar.specs.Vectors.{counted, one_more, vector, name}
use Rattle.qw_module.specs.declared.instruction.Instr.{Instr}
use Rattle.qw_module.specs.declared.module.Import.{Import}
use Rattle.qw_module.specs.declared.module.Locals.{Locals}
use Rattle.qw_module.specs.Syntax.{Sequences}
use Rattle.qw_module.specs.Typing.{Signature}
use Rattle.qw_binary.specs.Contents.{FunctionContents, GlobalContents, ExportContents, Contents}
use Rattle.qw_binary.specs.Types.{val_type, func_type, limits, mutability}
use Rattle.qw_binary.specs.Instructions.{expression}
use Rattle.qw_binary.specs.Sections.{import_behind, imports, names, described, global_from, global, export_kind, export, locals_run, locals_count, locals, code, functions, Sections, no_sections, with_types, with_imports, with_indices, with_memories, with_globals, with_exports, with_functions, content, section_by, section}
use Rattle.qw_binary.specs.Modules.{header, SpellsModule}
use Rattle.qw_binary.proofs.Apart.{by_pick, it_is, nothing, joined}
use Rattle.qw_scan.proofs.SmallBodies.{TakesOne, octet_takes, by_parts, lengths, after_takes, u32_takes, counted_within, vector_within, UpTo, expression_within}
use Rattle.qw_scan.proofs.SomeModule.{Small, IsSmallType, IsSmallBody, IsSmallFunction, IsSmallGlobal, IsSmallExport, AreSmall}

-- ---- parts of octets

module _ (text front rest : List ℕ) (e : text ≡ front ++ rest) (small : Small text) where
  small_front : Small front
  small_front = omega (arith, lengths text front rest e, small)

  small_rest : Small rest
  small_rest = omega (arith, lengths text front rest e, small)

-- ---- vectors

module _ {A : Type 0} (item : List A → Grammar A) (P : A → Type 0) (each : (before : List A) (x : A) (text : List ℕ) → Small text → Spells (item before) x text → P x) where
  counted_small : (n : ℕ) (before found : List A) (text : List ℕ) → Small text → AllByRecursion P before → Spells (counted n (λ before. one_more (item before) before) before) found text → AllByRecursion P found
  unfolding counted
  counted_small zero before found text small all s = subst (AllByRecursion P) (it_is before found text s) all
  counted_small (suc n) before found text small all s =
      by_parts (AllByRecursion P found) (one_more (item before) before) (counted n (λ before. one_more (item before) before)) found text
      (λ mid front rest e t u. counted_small n mid found rest (small_rest text front rest e small)
      (by_parts (AllByRecursion P mid) (item before) (λ x. is (before ++ x ∷ [])) mid front
      (λ x here none d v w. subst (AllByRecursion P) (it_is (before ++ x ∷ []) mid none w) (joined P before (x ∷ []) all (each before x here (small_front front here none d (small_front text front rest e small)) v, tt))) t) u) s

abbrev AllSmall : {A : Type 0} → (A → Type 0) → List A → Type 0
AllSmall P xs = Small xs × AllByRecursion P xs

vector_small : {A : Type 0} (g : Grammar A) (P : A → Type 0) → TakesOne g → ((x : A) (text : List ℕ) → Small text → Spells g x text → P x) → (xs : List A) (text : List ℕ) → Small text → Spells (vector g) xs text → AllSmall P xs
vector_small g P one each xs text small s =
    let few = vector_within g one xs text s in (
      omega (arith, few, small),
      by_parts (AllByRecursion P xs) u32 _ xs text (λ n front rest e t u. counted_small (λ before. g) P (λ before. each) n [] xs rest (small_rest text front rest e small) tt u) s,
    )

just_small : {A : Type 0} (g : Grammar A) → TakesOne g → (xs : List A) (text : List ℕ) → Small text → Spells (vector g) xs text → Small xs
just_small g one xs text small s = omega (arith, vector_within g one xs text s, small)

-- ---- what vectors hold

val_type_takes : TakesOne val_type
val_type_takes = octet_takes _

by_octet : {A : Type 0} (P : Type 0) (k : ℕ → Grammar A) (x : A) (text : List ℕ) → ((b : ℕ) (rest : List ℕ) → length rest ≤ length text → Spells (k b) x rest → P) → Spells (octet k) x text → P
unfolding Spells
by_octet P k x [] f s = absurd s
by_octet P k x (b ∷ rest) f s = let le : length rest ≤ length (b ∷ rest) = omega arith in f b rest le s

by_octets : {A : Type 0} (P : Type 0) (n : ℕ) (k : List ℕ → Grammar A) (x : A) (text : List ℕ) → (Spells (k (take n text)) x (drop n text) → P) → Spells (octets n k) x text → P
unfolding Spells
by_octets P n k x text f s = f s.1

type_small : (x : Signature) (text : List ℕ) → Small text → Spells func_type x text → IsSmallType x
type_small x text small =
    by_octet (IsSmallType x) _ x text (λ b behind le. let few : Small behind = omega (arith, small, le) in
    by_pick (IsSmallType x) (b == 0x60) _ _ x behind
    (by_parts (IsSmallType x) (vector val_type) _ x behind (λ params front rest e t. by_parts (IsSmallType x) (vector val_type) _ x rest
    (λ results here none d u v. subst IsSmallType (it_is (record { params = params; results = results }) x none v)
    (just_small val_type val_type_takes params front (small_front behind front rest e few) t, just_small val_type val_type_takes results here (small_front rest here none d (small_rest behind front rest e few)) u))))
    (λ t. absurd (nothing x behind NotModule t)))

body_small : (x : Sequences) (text : List ℕ) → Small text → Spells expression x text → IsSmallBody x
body_small x text small s =
    let w = expression_within x text s in
    (omega (arith, w.sequences, small), narrow x.each w.each, omega (arith, w.labels, small))
  where
    narrow : (ss : List (List Instr)) → AllByRecursion (λ (s : List Instr). UpTo (length text) s) ss → AllByRecursion Small ss
    narrow [] h = tt
    narrow (s ∷ ss) h = (omega (arith, h.0, small), narrow ss h.1)

run_takes : TakesOne locals_run
run_takes = after_takes u32 _ u32_takes

locals_small : (runs : List Locals) (text : List ℕ) → Small text → Spells locals runs text → Small runs
locals_small runs text small =
    by_parts (Small runs) (vector locals_run) _ runs text (λ found front rest e s. by_pick (Small runs) (nat_lt (locals_count found) (2 ^ 32)) _ _ runs rest
    (λ t. subst Small (it_is found runs rest t) (just_small locals_run run_takes found front (small_front text front rest e small) s)) (λ t. absurd (nothing runs rest NotModule t)))

filled : {A : Type 0} (P : Type 0) (n : ℕ) (g : Grammar A) (x : A) (text : List ℕ) → (Spells g x text → P) → Spells (within n false g) x text → P
unfolding Spells
filled P n g x text f s = f s.1

code_small : (type_index : ℕ) (f : FunctionContents) (text : List ℕ) → Small text → Spells (code type_index) f text → IsSmallFunction f
code_small type_index f text small =
    by_parts (IsSmallFunction f) u32 _ f text (λ size front rest e s. let few = small_rest text front rest e small in
    filled (IsSmallFunction f) size _ f rest
    (by_parts (IsSmallFunction f) locals _ f rest (λ runs here behind d r. by_parts (IsSmallFunction f) expression _ f behind
    (λ body one none b t u. subst IsSmallFunction (it_is (record { type_index = type_index; locals = runs; body = body }) f none u)
    (locals_small runs here (small_front rest here behind d few) r, body_small body one (small_front behind one none b (small_rest rest here behind d few)) t)))))

code_takes : (type_index : ℕ) → TakesOne (code type_index)
code_takes type_index = after_takes u32 _ u32_takes

functions_small : (indices : List ℕ) (fs : List FunctionContents) (text : List ℕ) → Small text → Spells (functions indices) fs text → AllSmall IsSmallFunction fs
functions_small indices fs text small =
    by_parts (AllSmall IsSmallFunction fs) u32 _ fs text (λ n front rest e s. by_pick (AllSmall IsSmallFunction fs) (n == length indices) _ _ fs rest
    (λ t. let few = small_rest text front rest e small in (
      omega (arith, counted_within next (λ before. code_takes _) n [] fs rest t, few),
      counted_small next IsSmallFunction (λ before x here. code_small _ x here) n [] fs rest few tt t,
    ))
    (λ t. absurd (nothing fs rest NotModule t)))
  where
    next : List FunctionContents → Grammar FunctionContents
    next before = code (get_or indices (length before) 0)

-- ---- imports, globals, exports

name_takes : TakesOne name
name_takes = after_takes u32 _ u32_takes

imports_small : (xs : List Import) (text : List ℕ) → Small text → Spells imports xs text → Small xs
imports_small xs text small =
    by_parts (Small xs) u32 _ xs text (λ n front rest e s t.
    omega (arith, counted_within import_behind import_takes n [] xs rest t, lengths text front rest e, small))
  where
    import_takes : (before : List Import) → TakesOne (import_behind before)
    import_takes before = after_takes (names before) described (after_takes name _ name_takes)

global_small : (x : GlobalContents) (text : List ℕ) → Small text → Spells global x text → IsSmallGlobal x
global_small x text small =
    by_parts (IsSmallGlobal x) val_type _ x text (λ type a b e s. let few = small_rest text a b e small in
    by_parts (IsSmallGlobal x) mutability _ x b (λ mutable c d f t. let fewer = small_rest b c d f few in
    by_parts (IsSmallGlobal x) expression _ x d
    (λ init g none h u v. subst IsSmallGlobal (it_is (global_from type mutable init) x none v) (body_small init g (small_front d g none h fewer) u))))

global_takes : TakesOne global
global_takes = after_takes val_type _ val_type_takes

name_small : (xs text : List ℕ) → Small text → Spells name xs text → Small xs × ∥ IsUtf8 xs ∥₁
name_small xs text small =
    by_parts (Small xs × ∥ IsUtf8 xs ∥₁) u32 _ xs text (λ n front rest e s. by_octets (Small xs × ∥ IsUtf8 xs ∥₁) n _ xs rest
    (by_test n rest (small_rest text front rest e small) (is_utf8 (take n rest)) refl))
  where
    by_test : (n : ℕ) (rest : List ℕ) → Small rest → (b : Bool) → is_utf8 (take n rest) ≡ b → Spells (pick b (is (take n rest)) (refuse NotModule)) xs (drop n rest) → Small xs × ∥ IsUtf8 xs ∥₁
    by_test n rest few false test t = absurd (nothing xs (drop n rest) NotModule t)
    by_test n rest few true test t =
        subst (λ (ys : List ℕ). Small ys × ∥ IsUtf8 ys ∥₁) (it_is (take n rest) xs (drop n rest) t)
        (small_front rest (take n rest) (drop n rest) (sym (take-append-drop n rest)) few, ∣ IsUtf8-from_is_utf8 (take n rest) test ∣₁)

export_small : (x : ExportContents) (text : List ℕ) → Small text → Spells export x text → IsSmallExport x
export_small x text small =
    by_parts (IsSmallExport x) name _ x text (λ spelled front rest e s. by_parts (IsSmallExport x) export_kind _ x rest
    (λ kind here none d t u. subst IsSmallExport (it_is (record { name = spelled; kind = kind }) x none u) (name_small spelled front (small_front text front rest e small) s)))

export_takes : TakesOne export
export_takes = after_takes name _ name_takes

-- ---- sections, modules

func_type_takes : TakesOne func_type
func_type_takes = octet_takes _

limits_takes : TakesOne limits
limits_takes = octet_takes _

-- a section that leaves all else as it is
kept : {B : Type 0} (g : Grammar B) (make : B → Sections) (t : Sections) (text : List ℕ) → Small text → ((y : B) (front : List ℕ) → Small front → Spells g y front → AreSmall (make y).contents) → Spells (after g (λ y. is (make y))) t text →
    AreSmall t.contents
kept g make t text small h =
    by_parts (AreSmall t.contents) g (λ y. is (make y)) t text (λ y front rest e s u. subst (λ (s : Sections). AreSmall s.contents) (it_is (make y) t rest u) (h y front (small_front text front rest e small) s))

content_small : (s : Sections) (id : ℕ) (t : Sections) (text : List ℕ) → Small text → AreSmall s.contents → Spells (content s id) t text → AreSmall t.contents
content_small s id t text small h =
    by_pick (AreSmall t.contents) (id == 1) _ _ t text
    (kept (vector func_type) (λ types. with_types s types) t text small
    (λ y f few u. record { types = vector_small func_type IsSmallType func_type_takes type_small y f few u; imports = h.imports; functions = h.functions; memories = h.memories; globals = h.globals; exports = h.exports }))
    (by_pick (AreSmall t.contents) (id == 2) _ _ t text
    (kept imports (λ imports. with_imports s imports) t text small
    (λ y f few u. record { types = h.types; imports = imports_small y f few u; functions = h.functions; memories = h.memories; globals = h.globals; exports = h.exports }))
    (by_pick (AreSmall t.contents) (id == 3) _ _ t text
    (kept (vector u32) (λ indices. with_indices s indices) t text small
    (λ y f few u. record { types = h.types; imports = h.imports; functions = h.functions; memories = h.memories; globals = h.globals; exports = h.exports }))
    (by_pick (AreSmall t.contents) (id == 5) _ _ t text
    (kept (vector limits) (λ memories. with_memories s memories) t text small
    (λ y f few u. record { types = h.types; imports = h.imports; functions = h.functions; memories = just_small limits limits_takes y f few u; globals = h.globals; exports = h.exports }))
    (by_pick (AreSmall t.contents) (id == 6) _ _ t text
    (kept (vector global) (λ globals. with_globals s globals) t text small
    (λ y f few u. record { types = h.types; imports = h.imports; functions = h.functions; memories = h.memories; globals = vector_small global IsSmallGlobal global_takes global_small y f few u; exports = h.exports }))
    (by_pick (AreSmall t.contents) (id == 7) _ _ t text
    (kept (vector export) (λ exports. with_exports s exports) t text small
    (λ y f few u. record { types = h.types; imports = h.imports; functions = h.functions; memories = h.memories; globals = h.globals; exports = vector_small export IsSmallExport export_takes export_small y f few u }))
    (by_pick (AreSmall t.contents) (id == 10) _ _ t text
    (kept (functions s.type_indices) (λ functions. with_functions s functions) t text small
    (λ y f few u. record { types = h.types; imports = h.imports; functions = functions_small s.type_indices y f few u; memories = h.memories; globals = h.globals; exports = h.exports }))
    (λ u. absurd (nothing t text NotModule u))))))))

begun_in : {A : Type 0} (P : Type 0) (n : ℕ) (g : Grammar A) (x : A) (text : List ℕ) → ((front : List ℕ) → Small front → Spells g x front → P) → Small text → Spells (within n true g) x text → P
unfolding Spells
begun_in P n g x text f small (len, front, rest, e, s) = f front (small_front text front rest e small) s

section_small : (s : Sections) (id : ℕ) (t : Sections) (text : List ℕ) → Small text → AreSmall s.contents → Spells (section s id) t text → AreSmall t.contents
section_small s id t text small h =
    by_pick (AreSmall t.contents) (id == 0) _ _ t text
    (by_parts (AreSmall t.contents) u32 _ t text (λ size front rest e u. begun_in (AreSmall t.contents) size _ t rest (λ here few v. kept name (λ text. s) t here few (λ y f fewer w. h) v) (small_rest text front rest e small)))
    (by_parts (AreSmall t.contents) (settle (section_by s.last id)) _ t text (λ known here more d v. by_parts (AreSmall t.contents) u32 _ t more
    (λ size front rest e u. filled (AreSmall t.contents) size (content s known) t rest (content_small s known t rest (small_rest more front rest e (small_rest text here more d small)) h))))

all_small : (n : ℕ) (s t : Sections) (text : List ℕ) → Small text → AreSmall s.contents → SpellsAll section n s t text → AreSmall t.contents
all_small zero s t [] small h e = subst (λ (s : Sections). AreSmall s.contents) e h
all_small (suc n) s t [] small h e = subst (λ (s : Sections). AreSmall s.contents) e h
all_small zero s t (b ∷ text) small h e = absurd e
all_small (suc n) s t (b ∷ text) small h e =
    let (mid, front, rest, p, u, d) = e in
    let few : Small text = omega (arith, small) in
    all_small n mid t rest (small_rest text front rest p few) (section_small s b mid front (small_front text front rest p few) h u) d

-- what octets spell is the contents of a module
pub small_module : (text : List ℕ) (c : Contents) → Small text → SpellsModule c text → AreSmall c
small_module text c small h =
    subst AreSmall h.stands_for
    (all_small h.most no_sections h.last h.sections (small_rest text header h.sections h.begins small)
    (record { types = (omega arith, tt); imports = omega arith; functions = (omega arith, tt); memories = omega arith; globals = (omega arith, tt); exports = (omega arith, tt) }) h.each)
