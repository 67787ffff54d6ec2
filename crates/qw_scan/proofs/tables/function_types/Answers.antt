use Rattle.std.proofs.Common.{◌≡◌, ◌++◌, [], List, ℕ, sym, ap, ◌∙◌, rules}
use Rattle.std.proofs.lemmas.List.{append-nil}
use Rattle.std.proofs.lemmas.Option.{IfSome_then}
use Rattle.std.specs.List.{filter_map}
use Rattle.qw_octet_grammar.specs.Numbers.{u32}
use Rattle.qw_octet_grammar.specs.Vectors.{vector}
use Rattle.qw_octet_grammar.specs.Reading.{read}
use Rattle.qw_module.specs.Validity.{imported_function}
use Rattle.qw_scan.specs.Inner.Outlines.{values_at}
use Rattle.qw_scan.proofs.TableLemmas.{nothing_there, numbers_behind}
use Rattle.qw_scan.proofs.tables.function_types.Goals as goal

pub returns-in_default : goal.returns-in_default
returns-in_default c = λ there.
    let types = filter_map imported_function c.args.imports.now in
    let room : c.in_ok-ok.field-0.items ≡ [] = search rules in
    IfSome_then c.with_imported.result c.with_imported.ensures
    (λ v same. same ∙ ap (λ (xs : List ℕ). xs ++ types) room ∙ sym (append-nil types) ∙ ap (λ (xs : List ℕ). types ++ xs) (sym (nothing_there (vector u32) c.args.octets.now c.args.at c.in_default.is)))

pub returns : goal.returns
returns c = λ there.
    let types = filter_map imported_function c.args.imports.now in
    let room : c.in_ok-room.room.items ≡ [] = search rules in
    let before : c.in_ok-with_imported.field-0.items ≡ types = c.in_ok-with_imported.ensures ∙ ap (λ (xs : List ℕ). xs ++ types) room in
    IfSome_then c.with_numbers.result c.with_numbers.ensures
    (λ v has. numbers_behind c.args.octets.now c.args.at c.in-Some.at c.in-Ok.count c.in-Ok.rest.now c.in_ok-with_imported.field-0.items v.items c.in-Some.is there
    (ap (λ (bs : List ℕ). read u32 bs) (sym c.from.ensures) ∙ c.in-Ok.ensures) has ∙ ap (λ (xs : List ℕ). xs ++ values_at (vector u32) c.args.octets.now c.args.at) before)
