use Rattle.std.proofs.Common.{◌≡◌, List, [], ℕ, map, refl, subst, inl, inr}
use Rattle.std.specs.List.{AllByRecursion}
use Rattle.std.proofs.lemmas.Result.{err_from_is_err_and}
use Rattle.qw_octet_grammar.specs.Grammar.{Spells}
use Rattle.qw_module.specs.Validity.{signature_of}
use Rattle.qw_binary.specs.Contents.{Contents, contents_of, function_contents, global_contents, export_contents}
use Rattle.qw_binary.specs.Sections.{imports, functions, no_sections}
use Rattle.qw_binary.specs.Inner.Parts.{IsInitSpelled, type_index_of}
use Rattle.qw_binary.specs.Inner.Written.{Written}
use Rattle.qw_binary.proofs.WriteSections.{header_written, whole_written}
use Rattle.qw_binary.proofs.Refusals.{module_imports, module_globals, module_code, none_of}
use Rattle.qw_binary.proofs.encode.encode.Goals as goal

pub returns-clause-written : goal.returns-clause-written
returns-clause-written c =
    let m = c.args.module.now in
    let o0 = c.extend_from_slice.new.self.items in
    let o1 = c.put_type_section.new.out.items in
    let o2 = c.put_import_section.new.out.items in
    let o3 = c.put_function_section.new.out.items in
    let o5 = c.put_memory_section.new.out.items in
    let o6 = c.put_global_section.new.out.items in
    let o7 = c.put_export_section.new.out.items in
    let o10 = c.put_code_section.new.out.items in
    let w0 : Written 0 [] no_sections.contents o0 = rw (c.in_ok-extend_from_slice.ensures.items, c.new-out.ensures.items) header_written in
    let s1 = subst (λ xs. (indices : List ℕ) (c : Contents) → c.types ≡ [] → Written 0 indices c o0 → Written 1 indices (record c { types = map signature_of xs }) o1) c.deref.ensures.value c.in_ok-put_type_section.ensures in
    let s2 = subst (λ xs. (indices : List ℕ) (c : Contents) → c.imports ≡ [] → Written 1 indices c o1 → Written 2 indices (record c { imports = xs }) o2) c.deref-2.ensures.value c.in_ok-put_import_section.ensures.written in
    let s3 = subst (λ xs. (c : Contents) → Written 2 [] c o2 → Written 3 (map type_index_of xs) c o3) c.deref-3.ensures.value c.in_ok-put_function_section.ensures in
    let s5 = subst (λ xs. (indices : List ℕ) (c : Contents) → c.memories ≡ [] → Written 3 indices c o3 → Written 5 indices (record c { memories = xs }) o5) c.deref-4.ensures.value c.in_ok-put_memory_section.ensures in
    let s6 = subst (λ xs. (indices : List ℕ) (c : Contents) → c.globals ≡ [] → Written 5 indices c o5 → Written 6 indices (record c { globals = map global_contents xs }) o6) c.deref-5.ensures.value c.in_ok-put_global_section.ensures.written in
    let s7 = subst (λ xs. (indices : List ℕ) (c : Contents) → c.exports ≡ [] → Written 6 indices c o6 → Written 7 indices (record c { exports = map export_contents xs }) o7) c.deref-6.ensures.value c.in_ok-put_export_section.ensures in
    let s10 = subst (λ xs. (c : Contents) → c.functions ≡ [] → Written 7 (map type_index_of xs) c o7 → Written 10 (map type_index_of xs) (record c { functions = map function_contents xs }) o10) c.deref-7.ensures.value c.in_ok-put_code_section.ensures.written in
    let indices : List ℕ = map type_index_of m.functions.items in
    let w1 = s1 [] no_sections.contents refl w0 in
    let w2 = s2 [] _ refl w1 in
    let w3 = s3 _ w2 in
    let w5 = s5 indices _ refl w3 in
    let w6 = s6 indices _ refl w5 in
    let w7 = s7 indices _ refl w6 in
    let w10 = s10 _ refl w7 in
    whole_written m.functions.items (contents_of m) o10 refl w10

pub returns-in_err-put_import_section-clause-refused : goal.returns-in_err-put_import_section-clause-refused
returns-in_err-put_import_section-clause-refused c =
    let m = c.args.module.now in
    let p = err_from_is_err_and c.from_residual-in_err-put_import_section.result c.from_residual-in_err-put_import_section.ensures.1 in
    rw (p.1, p.2) (λ e spelled.
    let never = subst (λ xs. (xs ≡ [] → ⊥) × ((text : List ℕ) → Spells imports xs text → ⊥)) c.deref-2.ensures.value (c.in_err-put_import_section.ensures.refused e) in
    elim (module_imports (contents_of m) spelled) [
      | inl none ↦ never.0 none
      | inr some ↦ never.1 some.0 some.1
    ])

pub returns-in_err-put_global_section-clause-refused : goal.returns-in_err-put_global_section-clause-refused
returns-in_err-put_global_section-clause-refused c =
    let m = c.args.module.now in
    let p = err_from_is_err_and c.from_residual-in_err-put_global_section.result c.from_residual-in_err-put_global_section.ensures.1 in
    rw (p.1, p.2) (λ e spelled.
    let never = subst (λ gs. AllByRecursion IsInitSpelled (map global_contents gs) → ⊥) c.deref-5.ensures.value (c.in_err-put_global_section.ensures.refused e) in
    never (module_globals (contents_of m) spelled))

pub returns-in_err-put_code_section-clause-refused : goal.returns-in_err-put_code_section-clause-refused
returns-in_err-put_code_section-clause-refused c =
    let m = c.args.module.now in
    let p = err_from_is_err_and c.from_residual-in_err-put_code_section.result c.from_residual-in_err-put_code_section.ensures.1 in
    rw (p.1, p.2) (λ e spelled.
    let never = subst (λ fs. (fs ≡ [] → ⊥) × ((indices text : List ℕ) → Spells (functions indices) (map function_contents fs) text → ⊥)) c.deref-7.ensures.value (c.in_err-put_code_section.ensures.refused e) in
    elim (module_code (contents_of m) spelled) [
      | inl none ↦ never.0 (none_of function_contents m.functions.items none)
      | inr some ↦ never.1 some.0 some.1 some.2
    ])
