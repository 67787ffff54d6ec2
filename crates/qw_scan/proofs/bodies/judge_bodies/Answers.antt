use Rattle.std.proofs.Common.{◌≡◌, ℕ, List, ◌++◌, Ok, length, map, drop, sym, ap, ◌∙◌}
use Rattle.std.specs.List.{filter_map}
use Rattle.std.proofs.lemmas.List.{drop_at}
use Rattle.qw_octet_grammar.specs.Numbers.{u32}
use Rattle.qw_octet_grammar.specs.Reading.{read}
use Rattle.qw_module.specs.declared.module.Import.{Import}
use Rattle.qw_module.specs.Validity.{imported_function, imported_memory}
use Rattle.qw_binary.specs.Sections.{functions}
use Rattle.qw_scan.specs.Inner.Outlines.{indices_in, contents_in}
use Rattle.qw_scan.specs.Inner.Bodies.{outside_by, IsTyped}
use Rattle.qw_scan.specs.Inner.Tables.{global_of}
use Rattle.qw_scan.specs.Inner.TypesAt.{signature_at}
use Rattle.qw_scan.proofs.ModuleBodies.{none_typed, judged_codes}
use Rattle.qw_scan.proofs.bodies.judge_bodies.Goals as goal

pub returns-in_default : goal.returns-in_default
returns-in_default c =
    let held = contents_in c.args.octets.now c.args.outline in
    none_typed (functions (indices_in c.args.octets.now c.args.outline)) (IsTyped (outside_by held) held.types) c.args.octets.now c.args.outline.codes c.in_default.is

pub returns : goal.returns
returns c =
    let whole = c.args.octets.now in
    let o = c.args.outline in
    let held = contents_in whole o in
    let t = c.args.tables.now in
    let tabled = c.requires.tables in
    let sized : read u32 (drop c.in-Some.at whole) ≡ Ok (c.in-Ok.field-0-0, c.in-Ok.codes.now) = ap (λ (bs : List ℕ). read u32 bs) (sym c.from.ensures) ∙ c.in-Ok.ensures in
    let types_are : c.new-types.result ≡ held.types = c.new-types.ensures ∙ ap (map (signature_at whole)) c.deref-2.ensures.value ∙ tabled.types in
    let indices_are : c.deref-3.result.now ≡ filter_map imported_function held.imports ++ indices_in whole o = c.deref-3.ensures.value ∙ tabled.functions in
    let memories_are : c.in-Some-memories_of.memories ≡ length (filter_map imported_memory held.imports ++ held.memories) =
    c.in-Some-memories_of.ensures c.requires.outline.memories ∙ ap (λ (imports : List Import). length (filter_map imported_memory imports ++ held.memories)) (c.deref.ensures.value ∙ tabled.imports) in
    let imported_are : c.imported_functions-imported.result ≡ length (filter_map imported_function held.imports) =
    c.imported_functions-imported.ensures.count ∙ ap (λ (imports : List Import). length (filter_map imported_function imports)) (c.deref-5.ensures.value ∙ tabled.imports) in
    let own_is = c.split_at.ensures.back ∙ ap (drop c.imported_functions-imported.result) (c.deref-6.ensures.value ∙ tabled.functions)
    ∙ drop_at (filter_map imported_function held.imports) (indices_in whole o) c.imported_functions-imported.result (sym imported_are) in
    judged_codes whole o c.requires.outline c.new-types.result c.deref-3.result.now _ c.in-Some-memories_of.memories c.imported_functions-imported.result _ c.in-Some.at c.in-Ok.field-0-0 c.in-Ok.codes.now c.check_codes.result types_are
    indices_are (ap (map global_of) c.deref-4.ensures.value ∙ tabled.globals) memories_are imported_are own_is c.in-Some.is sized c.check_codes.ensures
