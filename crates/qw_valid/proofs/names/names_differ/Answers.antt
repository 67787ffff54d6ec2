use Rattle.std.proofs.Common.{List, ℕ, ◌<◌, Bor, rules, sym, subst}
use Rattle.std.specs.List.Sorted.{IsPermutation, IsSortedBy}
use Rattle.std.specs.String.{string_bytes}
use Rattle.std.proofs.lemmas.Fn.{always_returns_same}
use Rattle.qw_module.specs.declared.module.Export.{Export}
use Rattle.qw_valid.proofs.NameOrder.{below, differ_told, apart_each}
use Rattle.qw_valid.proofs.names.names_differ.Goals as goal

pub returns : goal.returns
returns c =
    let exports = c.args.exports.now in
    let names = c.in_ok-names.names.items in
    let of_text : Bor (List ℕ) → List ℕ = λ text. text.now in
    let of_export : Export → List ℕ = λ export. string_bytes export.name in
    let long = c.in_ok-names.ensures.count in
    let each = c.in_ok-names.ensures.each in
    let moves = subst (IsPermutation names) (sym c.deref.ensures.value) c.sort_unstable.ensures.permutation in
    let up = subst (IsSortedBy (below of_text)) (sym c.deref.ensures.value) c.sort_unstable.ensures.sorted in
    let told = differ_told of_text names c.deref.result.now c.is_sorted_by.result moves up (c.is_sorted_by.ensures.cases (below of_text) (always_returns_same _ _ _ (λ a r f k. search rules))) in (
      λ so. apart_each of_text of_export names exports (sym long) (λ k export text within. sym (each k text export (subst (λ (n : ℕ). k < n) long within))) (told.0 so),
      λ all. told.1 (apart_each of_export of_text exports names long each all),
    )
