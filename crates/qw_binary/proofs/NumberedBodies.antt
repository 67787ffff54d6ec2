-- Bodies that octets spell are numbered: what is read of an expression names only sequences that have ended, and labels that were read.
use Rattle.std.proofs.Common.{◌≡◌, ℕ, zero, suc, ◌+◌, ◌<◌, ◌≤◌, Bool, true, false, cond, List, [], ◌∷◌, ◌++◌, length, get_or, Option, Some, None, Result, Ok, Err, refl, sym, subst, arith}
use Rattle.std.specs.Prelude.{◌==◌, unwrap_or, slice_get}
use Rattle.std.specs.List.{AllByRecursion}
use Rattle.std.proofs.lemmas.List.{length-append}
use Rattle.qw_octet_grammar.specs.declared.fault.BinaryFault.{BinaryFault}
use Rattle.qw_octet_grammar.specs.declared.fault.BinaryFault.TheVariants.{NotModule}
use Rattle.qw_octet_grammar.specs.Grammar.{Next, goes_on, ends, Grammar, is, after, within, settle, Chain, Spells, SpellsAll}
use Rattle.qw_octet_grammar.specs.Numbers.{u32}
use Rattle.qw_octet_grammar.specs.Vectors.{counted, vector, name}
use Rattle.qw_module.specs.declared.instruction.ValType.{ValType}
use Rattle.qw_module.specs.declared.instruction.Instr.{Instr}
use Rattle.qw_module.specs.declared.instruction.Instr.TheVariants as i
use Rattle.qw_module.specs.Syntax.{Sequences, NamesBelow, IsNumbered}
use Rattle.qw_binary.specs.Contents.{FunctionContents, GlobalContents, Contents}
use Rattle.qw_binary.specs.Types.{val_type, block_type, func_type, limits, mutability}
use Rattle.qw_binary.specs.Instructions.{simple, Opener, block, loop, first, second, Open, Progress, at_first, with_instruction, with_table, begun, instruction_of, at_end, else_of, with_else, at_else, opener_by, instruction, expression}
use Rattle.qw_binary.specs.Sections.{imports, global_from, global, export, locals, code, next_function, functions, Sections, no_sections, with_types, with_imports, with_indices, with_memories, with_globals, with_exports, with_functions, content, section_by, section}
use Rattle.qw_binary.specs.Modules.{SpellsModule}
use Rattle.qw_binary.specs.Inner.Followed.{IsAlone}
use Rattle.qw_binary.proofs.Apart.{some_is, ok_is, by_cond, by_pick, by_given, by_after, it_is, nothing, settled, joined, vector_each, simple_alone}

-- ---- instructions that name no sequence and no labels

abbrev NamesNone : Instr → Type 0
NamesNone instruction = (count n : ℕ) → NamesBelow count n instruction

names_none : (x : Instr) → IsAlone x → NamesNone x
names_none (i.Op operator) h = λ c n. tt
names_none i.Unreachable h = λ c n. tt
names_none (i.Block result body) h = absurd h
names_none (i.Loop result body) h = absurd h
names_none (i.If result a b) h = absurd h
names_none (i.Br label) h = λ c n. tt
names_none (i.BrIf label) h = λ c n. tt
names_none (i.BrTable start count default) h = absurd h
names_none i.Return h = λ c n. tt
names_none (i.Call index) h = λ c n. tt

-- ---- sequences that name only lower ones, and labels that are there

weaker : {X : Type 0} (P Q : X → Type 0) → ((x : X) → P x → Q x) → (xs : List X) → AllByRecursion P xs → AllByRecursion Q xs
weaker P Q f [] h = tt
weaker P Q f (x ∷ xs) h = (f x h.0, weaker P Q f xs h.1)

names_more : (c d m n : ℕ) → c ≤ d → m ≤ n → (x : Instr) → NamesBelow c m x → NamesBelow d n x
names_more c d m n p q (i.Op operator) h = h
names_more c d m n p q i.Unreachable h = h
names_more c d m n p q (i.Block result body) h = omega (arith, q, h)
names_more c d m n p q (i.Loop result body) h = omega (arith, q, h)
names_more c d m n p q (i.If result a None) h = omega (arith, q, h)
names_more c d m n p q (i.If result a (Some b)) h = (omega (arith, q, h.0), omega (arith, q, h.1))
names_more c d m n p q (i.Br label) h = h
names_more c d m n p q (i.BrIf label) h = h
names_more c d m n p q (i.BrTable start count default) h = omega (arith, p, h)
names_more c d m n p q i.Return h = h
names_more c d m n p q (i.Call index) h = h

all_more : (c d m n : ℕ) → c ≤ d → m ≤ n → (xs : List Instr) → AllByRecursion (NamesBelow c m) xs → AllByRecursion (NamesBelow d n) xs
all_more c d m n p q xs h = weaker (NamesBelow c m) (NamesBelow d n) (names_more c d m n p q) xs h

abbrev pub AreLower : (count n : ℕ) → List (List Instr) → Type 0
AreLower c n [] = Unit {0}
AreLower c n (s ∷ ss) = AllByRecursion (NamesBelow c n) s × AreLower c (suc n) ss

lower_more : (c d n : ℕ) → c ≤ d → (ss : List (List Instr)) → AreLower c n ss → AreLower d n ss
lower_more c d n p [] h = tt
lower_more c d n p (s ∷ ss) h = let same : n ≤ n = omega arith in (all_more c d n n p same s h.0, lower_more c d (suc n) p ss h.1)

lower_last : (c n : ℕ) (ss : List (List Instr)) (s : List Instr) → AreLower c n ss → AllByRecursion (NamesBelow c (n + length ss)) s → AreLower c n (ss ++ s ∷ [])
lower_last c n [] s h k = let e : n + 0 ≡ n = omega arith in (subst (λ m. AllByRecursion (NamesBelow c m) s) e k, tt)
lower_last c n (r ∷ ss) s h k =
    let e : n + suc (length ss) ≡ suc n + length ss = omega arith in
    (h.0, lower_last c (suc n) ss s h.1 (subst (λ m. AllByRecursion (NamesBelow c m) s) e k))

pub lower_at : (c n : ℕ) (ss : List (List Instr)) → AreLower c n ss → (k : ℕ) → k < length ss → AllByRecursion (NamesBelow c (n + k)) (unwrap_or (slice_get ss k) [])
lower_at c n [] h k lt = let none : ⊥ = omega (arith, lt) in absurd none
lower_at c n (s ∷ ss) h zero lt = let e : n ≡ n + 0 = omega arith in subst (λ m. AllByRecursion (NamesBelow c m) s) e h.0
lower_at c n (s ∷ ss) h (suc k) lt =
    let e : suc n + k ≡ n + suc k = omega arith in
    subst (λ m. AllByRecursion (NamesBelow c m) (unwrap_or (slice_get ss k) [])) e (lower_at c (suc n) ss h.1 k (omega (arith, lt)))

-- ---- what has been read of an expression

abbrev pub IsBelow : ℕ → Opener → Type 0
IsBelow n (block type) = Unit {0}
IsBelow n (loop type) = Unit {0}
IsBelow n (first type) = Unit {0}
IsBelow n (second type then_body) = then_body < n

abbrev pub IsFineOpen : (count n : ℕ) → Open → Type 0
IsFineOpen c n outer = IsBelow n outer.opener × AllByRecursion (NamesBelow c n) outer.before

below_more : (m n : ℕ) → m ≤ n → (opener : Opener) → IsBelow m opener → IsBelow n opener
below_more m n q (block type) h = tt
below_more m n q (loop type) h = tt
below_more m n q (first type) h = tt
below_more m n q (second type then_body) h = omega (arith, q, h)

opens_more : (c d m n : ℕ) → c ≤ d → m ≤ n → (around : List Open) → AllByRecursion (IsFineOpen c m) around → AllByRecursion (IsFineOpen d n) around
opens_more c d m n p q around h = weaker (IsFineOpen c m) (IsFineOpen d n) (λ outer k. (below_more m n q outer.opener k.0, all_more c d m n p q outer.before k.1)) around h

pub record IsFine (p : Progress) : Type 0 where
  pub ended : AreLower (length p.labels) 0 p.ended
  pub around : AllByRecursion (IsFineOpen (length p.labels) (length p.ended)) p.around
  pub now : AllByRecursion (NamesBelow (length p.labels) (length p.ended)) p.now

abbrev pub IsFineNext : Next Progress Sequences → Type 0
IsFineNext (goes_on p) = IsFine p
IsFineNext (ends sequences) = IsNumbered sequences

same_or_more : (n : ℕ) → n ≤ n
same_or_more n = omega arith

fine_instruction : (p : Progress) (x : Instr) → IsFine p → NamesNone x → IsFine (with_instruction p x)
fine_instruction p x fine names =
    record { ended = fine.ended; around = fine.around; now = joined (NamesBelow (length p.labels) (length p.ended)) p.now (x ∷ []) fine.now (names (length p.labels) (length p.ended), tt) }

fine_table : (p : Progress) (labels : List ℕ) (default : ℕ) → IsFine p → IsFine (with_table p labels default)
fine_table p labels default fine =
    let more : length p.labels ≤ length (p.labels ++ labels) = omega (arith, length-append p.labels labels) in
    let all : length p.labels + length labels ≤ length (p.labels ++ labels) = omega (arith, length-append p.labels labels) in
    let same = same_or_more (length p.ended) in
    record {
      ended = lower_more (length p.labels) (length (p.labels ++ labels)) 0 more p.ended fine.ended;
      around = opens_more (length p.labels) (length (p.labels ++ labels)) (length p.ended) (length p.ended) more same p.around fine.around;
      now = joined (NamesBelow (length (p.labels ++ labels)) (length p.ended)) p.now (i.BrTable (length p.labels) (length labels) default ∷ [])
          (all_more (length p.labels) (length (p.labels ++ labels)) (length p.ended) (length p.ended) more same p.now fine.now) (all, tt);
    }

fine_begun : (p : Progress) (opener : Opener) → IsFine p → IsBelow (length p.ended) opener → IsFine (begun p opener)
fine_begun p opener fine below = record { ended = fine.ended; around = ((below, fine.now), fine.around); now = tt }

instruction_names : (c n : ℕ) (opener : Opener) → IsBelow n opener → NamesBelow c (n + 1) (instruction_of opener n)
instruction_names c n (block type) h = omega arith
instruction_names c n (loop type) h = omega arith
instruction_names c n (first type) h = omega arith
instruction_names c n (second type then_body) h = (omega (arith, h), omega arith)

one_longer : {X : Type 0} (xs : List X) (x : X) → length (xs ++ x ∷ []) ≡ length xs + 1
one_longer xs x = omega (arith, length-append xs (x ∷ []))

-- one more sequence has ended
ended_more : (c : ℕ) (ended : List (List Instr)) (now : List Instr) → AreLower c 0 ended → AllByRecursion (NamesBelow c (length ended)) now → AreLower c 0 (ended ++ now ∷ [])
ended_more c ended now h k = let e : length ended ≡ 0 + length ended = omega arith in lower_last c 0 ended now h (subst (λ m. AllByRecursion (NamesBelow c m) now) e k)

fine_end : (ended : List (List Instr)) (labels : List ℕ) (around : List Open) (now : List Instr) → AreLower (length labels) 0 ended → AllByRecursion (IsFineOpen (length labels) (length ended)) around
    → AllByRecursion (NamesBelow (length labels) (length ended)) now → IsFineNext (at_end ended labels around now)
fine_end ended labels [] now lower fine names =
    record {
      some = omega (arith, one_longer ended now);
      lower = λ n lt. let e : 0 + n ≡ n = omega arith in
          subst (λ m. AllByRecursion (NamesBelow (length labels) m) (unwrap_or (slice_get (ended ++ now ∷ []) n) [])) e (lower_at (length labels) 0 (ended ++ now ∷ []) (ended_more (length labels) ended now lower names) n lt);
    }
fine_end ended labels (outer ∷ around) now lower fine names =
    let longer = one_longer ended now in
    let more : length ended ≤ length (ended ++ now ∷ []) = omega (arith, longer) in
    let same = same_or_more (length labels) in
    record {
      ended = ended_more (length labels) ended now lower names;
      around = opens_more (length labels) (length labels) (length ended) (length (ended ++ now ∷ [])) same more around fine.1;
      now = joined (NamesBelow (length labels) (length (ended ++ now ∷ []))) outer.before (instruction_of outer.opener (length ended) ∷ [])
          (all_more (length labels) (length labels) (length ended) (length (ended ++ now ∷ [])) same more outer.before fine.0.1)
          (subst (λ m. NamesBelow (length labels) m (instruction_of outer.opener (length ended))) (sym longer) (instruction_names (length labels) (length ended) outer.opener fine.0.0), tt);
    }

else_below : (opener made : Opener) (number : ℕ) → else_of opener number ≡ Ok made → IsBelow (number + 1) made
else_below (block type) made number e = absurd cc
else_below (loop type) made number e = absurd cc
else_below (first type) made number e = subst (IsBelow (number + 1)) (ok_is (second type number) made e) (let lt : number < number + 1 = omega arith in lt)
else_below (second type then_body) made number e = absurd cc

fine_else : (p : Progress) (around : List Open) (next : Next Progress Sequences) → IsFine p → AllByRecursion (IsFineOpen (length p.labels) (length p.ended)) around → at_else p around ≡ Ok next → IsFineNext next
fine_else p [] next fine opens e = absurd cc
fine_else p (outer ∷ around) next fine opens e = one (else_of outer.opener (length p.ended)) refl e
  where
    one : (r : Result Opener BinaryFault) → else_of outer.opener (length p.ended) ≡ r → with_else r p outer.before around ≡ Ok next → IsFineNext next
    one (Err fault) made e = absurd cc
    one (Ok opener) made e =
        let longer = one_longer p.ended p.now in
        let more : length p.ended ≤ length (p.ended ++ p.now ∷ []) = omega (arith, longer) in
        let same = same_or_more (length p.labels) in
        subst IsFineNext (ok_is (goes_on (record p { ended = p.ended ++ p.now ∷ []; around = record { opener = opener; before = outer.before } ∷ around; now = [] })) next e)
        (record {
          ended = ended_more (length p.labels) p.ended p.now fine.ended fine.now;
          around = (
            (
              subst (λ m. IsBelow m opener) (sym longer) (else_below outer.opener opener (length p.ended) made),
              all_more (length p.labels) (length p.labels) (length p.ended) (length (p.ended ++ p.now ∷ [])) same more outer.before opens.0.1,
            ),
            opens_more (length p.labels) (length p.labels) (length p.ended) (length (p.ended ++ p.now ∷ [])) same more around opens.1,
          );
          now = tt;
        })

opener_below : (code : ℕ) (make : Option ValType → Opener) → opener_by code ≡ Some make → (type : Option ValType) (n : ℕ) → IsBelow n (make type)
opener_below code make = at (code == 0x02) (λ type. block type) (λ type n. tt) _
    (at (code == 0x03) (λ type. loop type) (λ type n. tt) _
    (at (code == 0x04) (λ type. first type) (λ type n. tt) _ (λ e. absurd cc)))
  where
    at : (b : Bool) (f : Option ValType → Opener) → ((type : Option ValType) (n : ℕ) → IsBelow n (f type)) → (rest : Option (Option ValType → Opener)) → (rest ≡ Some make → (type : Option ValType) (n : ℕ) → IsBelow n (make type))
        → cond b (Some f) rest ≡ Some make → (type : Option ValType) (n : ℕ) → IsBelow n (make type)
    at b f below rest later = by_cond ((type : Option ValType) (n : ℕ) → IsBelow n (make type)) b (Some f) rest (Some make) (λ e. subst (λ (g : Option ValType → Opener). (type : Option ValType) (n : ℕ) → IsBelow n (g type)) (some_is f make e) below) later

pub fine_next : (p : Progress) (code : ℕ) (next : Next Progress Sequences) (text : List ℕ) → IsFine p → Spells (instruction p code) next text → IsFineNext next
fine_next p code next text fine =
    by_pick (IsFineNext next) (code == 0x0B) _ _ next text (λ s. subst IsFineNext (it_is (at_end p.ended p.labels p.around p.now) next text s) (fine_end p.ended p.labels p.around p.now fine.ended fine.around fine.now))
    (by_pick (IsFineNext next) (code == 0x05) _ _ next text (λ s. fine_else p p.around next fine fine.around (settled (at_else p p.around) next text s))
    (by_given (IsFineNext next) (opener_by code) _ _ next text (λ make e. by_after (IsFineNext next) block_type _ next text
    (λ type front rest s t. subst IsFineNext (it_is (goes_on (begun p (make type))) next rest t) (fine_begun p (make type) fine (opener_below code make e type (length p.ended)))))
    (by_pick (IsFineNext next) (code == 0x0E) _ _ next text (by_after (IsFineNext next) (vector u32) _ next text (λ labels front rest s. by_after (IsFineNext next) u32 _ next rest
    (λ default here behind r t. subst IsFineNext (it_is (goes_on (with_table p labels default)) next behind t) (fine_table p labels default fine))))
    (by_after (IsFineNext next) (simple code) _ next text (λ x front rest s t. subst IsFineNext (it_is (goes_on (with_instruction p x)) next rest t) (fine_instruction p x fine (names_none x (simple_alone code x front s))))))))

fine_chain : (n : ℕ) (r : Next Progress Sequences) (x : Sequences) (text : List ℕ) → IsFineNext r → Chain (λ p b next t. Spells (instruction p b) next t) n r x text → IsNumbered x
fine_chain zero (ends y) x text fine c = subst IsNumbered c.0 fine
fine_chain (suc n) (ends y) x text fine c = subst IsNumbered c.0 fine
fine_chain zero (goes_on p) x text fine c = absurd c
fine_chain (suc n) (goes_on p) x [] fine c = absurd c
fine_chain (suc n) (goes_on p) x (b ∷ text) fine c =
    let (r, front, rest, e, s, d) = c in
    fine_chain n r x rest (fine_next p b r front fine s) d

pub expression_numbered : (x : Sequences) (text : List ℕ) → Spells expression x text → IsNumbered x
unfolding Spells
expression_numbered x text s = fine_chain s.0 (goes_on at_first) x text (record { ended = tt; around = tt; now = tt }) s.1

-- ---- functions

abbrev pub AreNumbered : List FunctionContents → Type 0
AreNumbered functions = AllByRecursion (λ function. IsNumbered function.body) functions

filled : {A : Type 0} (P : Type 0) (n : ℕ) (g : Grammar A) (x : A) (text : List ℕ) → (Spells g x text → P) → Spells (within n false g) x text → P
unfolding Spells
filled P n g x text f s = f s.1

begun_in : {A : Type 0} (P : Type 0) (n : ℕ) (g : Grammar A) (x : A) (text : List ℕ) → ((front : List ℕ) → Spells g x front → P) → Spells (within n true g) x text → P
unfolding Spells
begun_in P n g x text f (len, front, rest, e, s) = f front s

code_numbered : (type_index : ℕ) (f : FunctionContents) (text : List ℕ) → Spells (code type_index) f text → IsNumbered f.body
code_numbered type_index f text =
    by_after (IsNumbered f.body) u32 _ f text (λ size front rest s. filled (IsNumbered f.body) size _ f rest
    (by_after (IsNumbered f.body) locals _ f rest (λ runs here behind r. by_after (IsNumbered f.body) expression _ f behind
    (λ body one none t u. subst (λ (g : FunctionContents). IsNumbered g.body) (it_is (record { type_index = type_index; locals = runs; body = body }) f none u) (expression_numbered body one t)))))

counted_numbered : (indices : List ℕ) (n : ℕ) (before after_all : List FunctionContents) (text : List ℕ) → AreNumbered before → Spells (counted n (next_function indices) before) after_all text → AreNumbered after_all
unfolding counted
counted_numbered indices zero before after_all text h s = subst AreNumbered (it_is before after_all text s) h
counted_numbered indices (suc n) before after_all text h s =
    by_after (AreNumbered after_all) (next_function indices before) _ after_all text
    (λ mid front rest t u. counted_numbered indices n mid after_all rest
    (by_after (AreNumbered mid) (code (get_or indices (length before) 0)) _ mid front
    (λ f here none v w. subst AreNumbered (it_is (before ++ f ∷ []) mid none w) (joined (λ function. IsNumbered function.body) before (f ∷ []) h (code_numbered (get_or indices (length before) 0) f here v, tt))) t) u) s

functions_numbered : (indices : List ℕ) (fs : List FunctionContents) (text : List ℕ) → Spells (functions indices) fs text → AreNumbered fs
functions_numbered indices fs text =
    by_after (AreNumbered fs) u32 _ fs text (λ n front rest s. by_pick (AreNumbered fs) (n == length indices) _ _ fs rest (counted_numbered indices n [] fs rest tt) (λ t. absurd (nothing fs rest NotModule t)))

-- ---- globals

abbrev IsInitNumbered : GlobalContents → Type 0
IsInitNumbered x = IsNumbered x.init

init_numbered : (x : GlobalContents) (text : List ℕ) → Spells global x text → IsInitNumbered x
init_numbered x text =
    by_after (IsInitNumbered x) val_type _ x text (λ type a b s. by_after (IsInitNumbered x) mutability _ x b (λ mutable c d t. by_after (IsInitNumbered x) expression _ x d
    (λ init e f u v. subst IsInitNumbered (it_is (global_from type mutable init) x f v) (expression_numbered init e u))))

-- ---- sections, modules

abbrev HasNumbered : Sections → Type 0
HasNumbered s = AreNumbered s.contents.functions × AllByRecursion IsInitNumbered s.contents.globals

-- a section that leaves the bodies as they are, or whose own are numbered
kept : {B : Type 0} (g : Grammar B) (make : B → Sections) (t : Sections) (text : List ℕ) → ((y : B) (front : List ℕ) → Spells g y front → HasNumbered (make y)) → Spells (after g (λ y. is (make y))) t text → HasNumbered t
kept g make t text h = by_after (HasNumbered t) g (λ y. is (make y)) t text (λ y front rest s u. subst HasNumbered (it_is (make y) t rest u) (h y front s))

content_numbered : (s : Sections) (id : ℕ) (t : Sections) (text : List ℕ) → HasNumbered s → Spells (content s id) t text → HasNumbered t
content_numbered s id t text h =
    by_pick (HasNumbered t) (id == 1) _ _ t text (kept (vector func_type) (λ types. with_types s types) t text (λ y f u. h))
    (by_pick (HasNumbered t) (id == 2) _ _ t text (kept imports (λ imports. with_imports s imports) t text (λ y f u. h))
    (by_pick (HasNumbered t) (id == 3) _ _ t text (kept (vector u32) (λ indices. with_indices s indices) t text (λ y f u. h))
    (by_pick (HasNumbered t) (id == 5) _ _ t text (kept (vector limits) (λ memories. with_memories s memories) t text (λ y f u. h))
    (by_pick (HasNumbered t) (id == 6) _ _ t text (kept (vector global) (λ globals. with_globals s globals) t text (λ y f u. (h.0, vector_each global IsInitNumbered init_numbered y f u)))
    (by_pick (HasNumbered t) (id == 7) _ _ t text (kept (vector export) (λ exports. with_exports s exports) t text (λ y f u. h))
    (by_pick (HasNumbered t) (id == 10) _ _ t text
    (by_after (HasNumbered t) (functions s.type_indices) _ t text (λ fs front rest u v. subst HasNumbered (it_is (with_functions s fs) t rest v) (functions_numbered s.type_indices fs front u, h.1)))
    (λ u. absurd (nothing t text NotModule u))))))))

section_numbered : (s : Sections) (id : ℕ) (t : Sections) (text : List ℕ) → HasNumbered s → Spells (section s id) t text → HasNumbered t
section_numbered s id t text h =
    by_pick (HasNumbered t) (id == 0) _ _ t text (by_after (HasNumbered t) u32 _ t text (λ size front rest u. begun_in (HasNumbered t) size _ t rest (λ here v. kept name (λ text. s) t here (λ y f u. h) v)))
    (by_after (HasNumbered t) (settle (section_by s.last id)) _ t text (λ known here more v. by_after (HasNumbered t) u32 _ t more
    (λ size front rest u. filled (HasNumbered t) size (content s known) t rest (content_numbered s known t rest h))))

all_numbered : (n : ℕ) (s t : Sections) (text : List ℕ) → HasNumbered s → SpellsAll section n s t text → HasNumbered t
all_numbered zero s t [] h e = subst HasNumbered e h
all_numbered (suc n) s t [] h e = subst HasNumbered e h
all_numbered zero s t (b ∷ text) h e = absurd e
all_numbered (suc n) s t (b ∷ text) h e = let (mid, front, rest, p, u, d) = e in all_numbered n mid t rest (section_numbered s b mid front h u) d

all_bodies : (text : List ℕ) (m : Contents) → SpellsModule m text → AreNumbered m.functions × AllByRecursion IsInitNumbered m.globals
all_bodies text m h =
    subst (λ (c : Contents). AreNumbered c.functions × AllByRecursion IsInitNumbered c.globals) h.stands_for (all_numbered h.most no_sections h.last h.sections (tt, tt) h.each)

pub numbered_bodies : (text : List ℕ) (m : Contents) → SpellsModule m text → AreNumbered m.functions
numbered_bodies text m h = (all_bodies text m h).0

pub numbered_globals : (text : List ℕ) (m : Contents) → SpellsModule m text → AllByRecursion IsInitNumbered m.globals
numbered_globals text m h = (all_bodies text m h).1
