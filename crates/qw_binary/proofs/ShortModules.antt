-- Short spellings of modules.
use Rattle.std.proofs.Common.{◌≡◌, ℕ, ◌+◌, ◌*◌, ◌≤◌, List, [], ◌∷◌, ◌++◌, length, map, refl, ap, subst, length-append, arith}
use Rattle.std.specs.List.{AllByRecursion, sum_by}
use Rattle.std.proofs.lemmas.List.{length-map}
use Rattle.std.proofs.lemmas.List.Sums.{sum_by-cons}
use Rattle.std.proofs.lemmas.Str.{IsUtf8-string_bytes}
use Rattle.qw_octet_grammar.specs.Grammar.{Grammar}
use Rattle.qw_octet_grammar.specs.Numbers.{u32}
use Rattle.qw_octet_grammar.specs.Vectors.{vector}
use Rattle.qw_module.specs.declared.module.Limits.{Limits}
use Rattle.qw_module.specs.declared.module.Import.{Import}
use Rattle.qw_module.specs.declared.module.Import.TheVariants as import
use Rattle.qw_module.specs.declared.module.Function.{Function}
use Rattle.qw_module.specs.declared.module.Export.{Export}
use Rattle.qw_module.specs.Typing.{Signature}
use Rattle.qw_binary.specs.Types.{func_type, limits}
use Rattle.qw_binary.specs.Contents.{FunctionContents, GlobalContents, Contents, contents_of, function_contents, export_contents}
use Rattle.qw_binary.specs.Sections.{no_sections, imports, global, export, functions}
use Rattle.qw_binary.specs.Modules.{header}
use Rattle.qw_binary.specs.Sizes.{Fits, type_octets, FitsLimits, import_octets, function_octets, FitsFunction, global_octets, FitsGlobal, export_octets, FitsExport, SpelledModules}
use Rattle.qw_binary.specs.Inner.Parts.{type_index_of}
use Rattle.qw_binary.specs.Inner.Short.{IsShort}
use Rattle.qw_binary.specs.Inner.Written.{PutsSection, Written}
use Rattle.qw_binary.proofs.Short.{short_u32, short_vector, put_short, longer}
use Rattle.qw_binary.proofs.ShortParts.{short_type, short_limits, short_imports, short_global, short_export, fewer, index_in, short_functions}
use Rattle.qw_binary.proofs.WriteSections.{puts_section, types_written, imports_written, indices_written, memories_written, globals_written, exports_written, codes_written, header_written, whole_written}

-- a section behind what was put so far
section_behind : {A : Type 0} (id : ℕ) (g : Grammar A) (x : A) (most : ℕ) (old : List ℕ) → Fits most → (h : IsShort g x most) → (new : List ℕ) × PutsSection id h.text old new × (length new ≤ length old + 6 + most)
section_behind id g x most old fits h =
    let size = short_u32 (length h.text) (omega (arith, fits, h.short)) in
    let mid : List ℕ = (old ++ id ∷ []) ++ size.text in (
      mid ++ h.text,
      puts_section id h.text old mid (put_short u32 (length h.text) 5 (old ++ id ∷ []) size),
      omega (arith, length-append mid h.text, length-append (old ++ id ∷ []) size.text, length-append old (id ∷ []), size.short, h.short),
    )

fives : {A : Type 0} (xs : List A) → sum_by (λ _. 5) xs ≡ 5 * length xs
fives [] = refl
fives {A} (x ∷ xs) = omega (arith, sum_by-cons (λ (_ : A). 5) x xs, fives xs)

elevens : {A : Type 0} (xs : List A) → sum_by (λ _. 11) xs ≡ 11 * length xs
elevens [] = refl
elevens {A} (x ∷ xs) = omega (arith, sum_by-cons (λ (_ : A). 11) x xs, elevens xs)

import_some : (one : Import) → 1 ≤ import_octets one
import_some (import.Memory l) = omega arith
import_some (import.Raise type) = omega arith
import_some (import.Pages type) = omega arith

each_type : (types : List Signature) → Fits (sum_by type_octets types) → AllByRecursion (λ t. IsShort func_type t (type_octets t)) types
each_type [] h = tt
each_type (t ∷ types) h =
    (short_type t (omega (arith, h, sum_by-cons type_octets t types)), each_type types (omega (arith, h, sum_by-cons type_octets t types)))

each_limits : (all : List Limits) → AllByRecursion FitsLimits all → AllByRecursion (λ l. IsShort limits l 11) all
each_limits [] h = tt
each_limits (l ∷ all) h = (short_limits l h.0, each_limits all h.1)

each_global : (all : List GlobalContents) → AllByRecursion FitsGlobal all → AllByRecursion (λ g. IsShort global g (global_octets g)) all
each_global [] h = tt
each_global (g ∷ all) h = (short_global g h.0, each_global all h.1)

each_export : (all : List Export) → Fits (sum_by export_octets (map export_contents all)) → AllByRecursion FitsExport (map export_contents all)
    → AllByRecursion (λ e. IsShort export e (export_octets e)) (map export_contents all)
each_export [] small h = tt
each_export (e ∷ all) small h =
    let sum = sum_by-cons export_octets (export_contents e) (map export_contents all) in
    (short_export (export_contents e) h.0 (omega (arith, small, sum)) (IsUtf8-string_bytes e.name), each_export all (omega (arith, small, sum)) h.1)

each_index : (all : List FunctionContents) → AllByRecursion FitsFunction all → AllByRecursion (λ n. IsShort u32 n 5) (map index_in all)
each_index [] h = tt
each_index (f ∷ all) h = (short_u32 f.type_index h.0.index, each_index all h.1)

same_indices : (all : List Function) → map index_in (map function_contents all) ≡ map type_index_of all
same_indices [] = refl
same_indices (f ∷ all) = ap (λ rest. f.type_index ∷ rest) (same_indices all)

pub spelled_modules : SpelledModules
spelled_modules m fits few =
    let c : Contents = contents_of m in
    let all : List FunctionContents = c.functions in
    let indices : List ℕ = map index_in all in
    let count : length indices ≡ length all = length-map all index_in in
    let h1 : IsShort (vector func_type) c.types (5 + sum_by type_octets c.types) = short_vector func_type type_octets c.types (omega (arith, few, fewer type_octets c.types (λ t. omega arith))) (each_type c.types (omega (arith, few))) in
    let h2 : IsShort imports c.imports (5 + sum_by import_octets c.imports) = short_imports c.imports (omega (arith, few, fewer import_octets c.imports import_some)) fits.once fits.imports in
    let h3 : IsShort (vector u32) indices (5 + 5 * length all) =
    longer (vector u32) indices (5 + sum_by (λ _. 5) indices) (5 + 5 * length all) (omega (arith, count, fives indices)) (short_vector u32 (λ _. 5) indices (omega (arith, few, count)) (each_index all fits.functions)) in
    let h5 : IsShort (vector limits) c.memories (5 + 11 * length c.memories) =
    longer (vector limits) c.memories (5 + sum_by (λ _. 11) c.memories) (5 + 11 * length c.memories) (omega (arith, elevens c.memories)) (short_vector limits (λ _. 11) c.memories (omega (arith, few)) (each_limits c.memories fits.memories)) in
    let h6 : IsShort (vector global) c.globals (5 + sum_by global_octets c.globals) =
    short_vector global global_octets c.globals (omega (arith, few, fewer global_octets c.globals (λ g. omega arith))) (each_global c.globals fits.globals) in
    let h7 : IsShort (vector export) c.exports (5 + sum_by export_octets c.exports) =
    short_vector export export_octets c.exports (omega (arith, few, fewer export_octets c.exports (λ e. omega arith))) (each_export m.exports.items (omega (arith, few)) fits.exports) in
    let h10 : IsShort (functions indices) all (5 + sum_by function_octets all) = short_functions all (omega (arith, few)) fits.functions in
    let s1 = section_behind 1 (vector func_type) c.types (5 + sum_by type_octets c.types) header (omega (arith, few)) h1 in
    let s2 = section_behind 2 imports c.imports (5 + sum_by import_octets c.imports) s1.0 (omega (arith, few)) h2 in
    let s3 = section_behind 3 (vector u32) indices (5 + 5 * length all) s2.0 (omega (arith, few)) h3 in
    let s5 = section_behind 5 (vector limits) c.memories (5 + 11 * length c.memories) s3.0 (omega (arith, few)) h5 in
    let s6 = section_behind 6 (vector global) c.globals (5 + sum_by global_octets c.globals) s5.0 (omega (arith, few)) h6 in
    let s7 = section_behind 7 (vector export) c.exports (5 + sum_by export_octets c.exports) s6.0 (omega (arith, few)) h7 in
    let s10 = section_behind 10 (functions indices) all (5 + sum_by function_octets all) s7.0 (omega (arith, few)) h10 in
    let w1 = types_written [] no_sections.contents c.types h1.text header s1.0 (put_short (vector func_type) c.types (5 + sum_by type_octets c.types) [] h1) s1.1 header_written in
    let w2 = imports_written [] _ c.imports h2.text s1.0 s2.0 (put_short imports c.imports (5 + sum_by import_octets c.imports) [] h2) s2.1 w1 in
    let w3 = indices_written [] indices _ h3.text s2.0 s3.0 (put_short (vector u32) indices (5 + 5 * length all) [] h3) s3.1 w2 in
    let w5 = memories_written indices _ c.memories h5.text s3.0 s5.0 (put_short (vector limits) c.memories (5 + 11 * length c.memories) [] h5) s5.1 w3 in
    let w6 = globals_written indices _ c.globals h6.text s5.0 s6.0 (put_short (vector global) c.globals (5 + sum_by global_octets c.globals) [] h6) s6.1 w5 in
    let w7 = exports_written indices _ c.exports h7.text s6.0 s7.0 (put_short (vector export) c.exports (5 + sum_by export_octets c.exports) [] h7) s7.1 w6 in
    let w10 = codes_written indices _ all h10.text s7.0 s10.0 (put_short (functions indices) all (5 + sum_by function_octets all) [] h10) s10.1 w7 in
    (s10.0, whole_written m.functions.items c s10.0 refl (subst (λ is. Written 10 is c s10.0) (same_indices m.functions.items) w10), omega (arith, s1.2, s2.2, s3.2, s5.2, s6.2, s7.2, s10.2))
