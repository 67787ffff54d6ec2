-- Sections behind those before them.
use Rattle.std.proofs.Common.{◌≡◌, ℕ, ◌==◌, ◌<◌, ◌≤◌, false, List, [], ◌∷◌, ◌++◌, length, map, Ok, refl, sym, ap, subst, ◌∙◌, arith}
use Rattle.std.proofs.lemmas.Bool.{lt-ltb}
use Rattle.std.proofs.lemmas.List.{length-map}
use Rattle.qw_octet_grammar.specs.Grammar.{Grammar, is, after, within, settle, Spells}
use Rattle.qw_octet_grammar.specs.Numbers.{u32}
use Rattle.qw_octet_grammar.specs.Vectors.{vector}
use Rattle.qw_octet_grammar.specs.Writing.{Puts}
use Rattle.qw_octet_grammar.proofs.WriteLaws.{puts_is, puts_octet, puts_after, puts_made, puts_within, spelled, all_begin, all_next, all_end}
use Rattle.qw_module.specs.declared.module.Limits.{Limits}
use Rattle.qw_module.specs.declared.module.Import.{Import}
use Rattle.qw_module.specs.declared.module.Function.{Function}
use Rattle.qw_module.specs.Typing.{Signature}
use Rattle.qw_binary.specs.Types.{func_type, limits}
use Rattle.qw_binary.specs.Contents.{FunctionContents, GlobalContents, ExportContents, Contents, function_contents}
use Rattle.qw_binary.specs.Sections.{Sections, no_sections, imports, global, export, functions, content, section_by, section, with_types, with_imports, with_indices, with_memories, with_globals, with_exports, with_functions}
use Rattle.qw_binary.specs.Modules.{header, SpellsModule}
use Rattle.qw_binary.specs.Inner.Parts.{type_index_of}
use Rattle.qw_binary.specs.Inner.Written.{Written, PutsSection}
use Rattle.qw_binary.proofs.WriteCodes.{puts_second}

pub puts_section : (id : ℕ) (text old mid : List ℕ) → Puts u32 (length text) (old ++ id ∷ []) mid → PutsSection id text old (mid ++ text)
unfolding PutsSection
puts_section id text old mid p = λ s t some allowed h.
    puts_octet (section s) id t old (mid ++ text)
    (puts_second (id == 0) _ _ t (old ++ id ∷ []) (mid ++ text) some
    (puts_after (settle (section_by s.last id)) (λ id. after u32 (λ size. within size false (content s id))) id t (old ++ id ∷ []) (old ++ id ∷ []) (mid ++ text)
    (subst (λ r. Puts (settle r) id (old ++ id ∷ []) (old ++ id ∷ [])) (sym allowed) (puts_is id (old ++ id ∷ [])))
    (puts_within (content s id) t text (old ++ id ∷ []) mid p h)))

-- the sections go up to a later id too
pub later : (k id : ℕ) (indices : List ℕ) (c d : Contents) (old : List ℕ) → k ≤ id → c ≡ d → Written k indices c old → Written id indices d old
later k id indices c d old le e w =
    record { sections = w.sections; up_to = omega (arith, w.up_to, le); has_indices = w.has_indices; has_contents = w.has_contents ∙ e; behind = w.behind }

-- one more section
next : (k id : ℕ) (indices more : List ℕ) (c d : Contents) (text old new : List ℕ) (t : Sections → Sections) → (id == 0) ≡ false
    → ((s : Sections) → s.last ≤ k → s.type_indices ≡ indices → s.contents ≡ c → (section_by s.last id ≡ Ok id) × Spells (content s id) (t s) text × ((t s).last ≤ id) × ((t s).type_indices ≡ more) × ((t s).contents ≡ d))
    → PutsSection id text old new → Written k indices c old → Written id more d new
unfolding PutsSection
next k id indices more c d text old new t some h put w =
    let f = h w.sections w.up_to w.has_indices w.has_contents in
    record {
      sections = t w.sections;
      up_to = f.2;
      has_indices = f.3;
      has_contents = f.4;
      behind = all_next section no_sections w.sections (t w.sections) header old new w.behind (put w.sections (t w.sections) some f.0 f.1);
    }

-- what a section's items make of the sections
made : {A : Type 0} (g : Grammar A) (with : A → Sections) (x : A) (text : List ℕ) → Puts g x [] text → Spells (after g (λ x. is (with x))) (with x) text
made g with x text p = spelled (after g (λ x. is (with x))) (with x) text (puts_made g with x [] text p)

before : (last k n : ℕ) → last ≤ k → k < n → (last < n)
before last k n le lt = omega (arith, le, lt)

pub types_written : (indices : List ℕ) (c : Contents) (types : List Signature) (text old new : List ℕ) → Puts (vector func_type) types [] text → PutsSection 1 text old new → Written 0 indices c old → Written 1 indices (record c { types = types }) new
types_written indices c types text old new p put w =
    next 0 1 indices indices c (record c { types = types }) text old new (λ s. with_types s types) refl
    (λ s le i e. (rw (lt-ltb s.last 1 (before s.last 0 1 le (omega arith))) refl, made (vector func_type) (with_types s) types text p, omega arith, i, ap (λ (c : Contents). record c { types = types }) e)) put w

pub imports_written : (indices : List ℕ) (c : Contents) (found : List Import) (text old new : List ℕ) → Puts imports found [] text → PutsSection 2 text old new → Written 1 indices c old → Written 2 indices (record c { imports = found }) new
imports_written indices c found text old new p put w =
    next 1 2 indices indices c (record c { imports = found }) text old new (λ s. with_imports s found) refl
    (λ s le i e. (rw (lt-ltb s.last 2 (before s.last 1 2 le (omega arith))) refl, made imports (with_imports s) found text p, omega arith, i, ap (λ (c : Contents). record c { imports = found }) e)) put w

pub indices_written : (indices more : List ℕ) (c : Contents) (text old new : List ℕ) → Puts (vector u32) more [] text → PutsSection 3 text old new → Written 2 indices c old → Written 3 more c new
indices_written indices more c text old new p put w =
    next 2 3 indices more c c text old new (λ s. with_indices s more) refl
    (λ s le i e. (rw (lt-ltb s.last 3 (before s.last 2 3 le (omega arith))) refl, made (vector u32) (with_indices s) more text p, omega arith, refl, e)) put w

pub memories_written : (indices : List ℕ) (c : Contents) (memories : List Limits) (text old new : List ℕ) → Puts (vector limits) memories [] text → PutsSection 5 text old new → Written 3 indices c old → Written 5 indices (record c { memories = memories }) new
memories_written indices c memories text old new p put w =
    next 3 5 indices indices c (record c { memories = memories }) text old new (λ s. with_memories s memories) refl
    (λ s le i e. (rw (lt-ltb s.last 5 (before s.last 3 5 le (omega arith))) refl, made (vector limits) (with_memories s) memories text p, omega arith, i, ap (λ (c : Contents). record c { memories = memories }) e)) put w

pub globals_written : (indices : List ℕ) (c : Contents) (globals : List GlobalContents) (text old new : List ℕ) → Puts (vector global) globals [] text → PutsSection 6 text old new → Written 5 indices c old → Written 6 indices (record c { globals = globals }) new
globals_written indices c globals text old new p put w =
    next 5 6 indices indices c (record c { globals = globals }) text old new (λ s. with_globals s globals) refl
    (λ s le i e. (rw (lt-ltb s.last 6 (before s.last 5 6 le (omega arith))) refl, made (vector global) (with_globals s) globals text p, omega arith, i, ap (λ (c : Contents). record c { globals = globals }) e)) put w

pub exports_written : (indices : List ℕ) (c : Contents) (exports : List ExportContents) (text old new : List ℕ) → Puts (vector export) exports [] text → PutsSection 7 text old new → Written 6 indices c old → Written 7 indices (record c { exports = exports }) new
exports_written indices c exports text old new p put w =
    next 6 7 indices indices c (record c { exports = exports }) text old new (λ s. with_exports s exports) refl
    (λ s le i e. (rw (lt-ltb s.last 7 (before s.last 6 7 le (omega arith))) refl, made (vector export) (with_exports s) exports text p, omega arith, i, ap (λ (c : Contents). record c { exports = exports }) e)) put w

pub codes_written : (indices : List ℕ) (c : Contents) (found : List FunctionContents) (text old new : List ℕ) → Puts (functions indices) found [] text → PutsSection 10 text old new → Written 7 indices c old → Written 10 indices (record c { functions = found }) new
codes_written indices c found text old new p put w =
    next 7 10 indices indices c (record c { functions = found }) text old new (λ s. with_functions s found) refl
    (λ s le i e. (rw (lt-ltb s.last 10 (before s.last 7 10 le (omega arith))) refl, subst (λ n. Spells (after (functions n) (λ x. is (with_functions s x))) (with_functions s found) text) (sym i) (made (functions indices) (with_functions s) found text p), omega arith, i, ap (λ (c : Contents). record c { functions = found }) e)) put w

-- ---- the whole

pub header_written : Written 0 [] no_sections.contents header
header_written = record { sections = no_sections; up_to = omega arith; has_indices = refl; has_contents = refl; behind = all_begin section no_sections header }

pub whole_written : (all : List Function) (c : Contents) (text : List ℕ) → c.functions ≡ map function_contents all → Written 10 (map type_index_of all) c text → SpellsModule c text
whole_written all c text e w =
    let h = all_end section no_sections w.sections header text w.behind in
    record {
      sections = h.1;
      begins = h.2;
      most = h.0;
      last = w.sections;
      each = h.3;
      complete = ap length w.has_indices ∙ length-map all type_index_of ∙ sym (length-map all function_contents) ∙ sym (ap length e) ∙ sym (ap (λ (c : Contents). length c.functions) w.has_contents);
      stands_for = w.has_contents;
    }
