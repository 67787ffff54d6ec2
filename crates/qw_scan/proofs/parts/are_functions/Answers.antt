use Rattle.std.proofs.Common.{◌≡◌, ◌∙◌, List, length, drop, sym, ap, arith}
use Rattle.std.specs.List.{filter_map}
use Rattle.std.proofs.lemmas.List.{drop_at}
use Rattle.qw_module.specs.declared.module.Import.{Import}
use Rattle.qw_module.specs.Validity.{imported_function}
use Rattle.qw_scan.specs.Inner.Outlines.{indices_in, contents_in}
use Rattle.qw_scan.proofs.PartLemmas.{functions_told}
use Rattle.qw_scan.proofs.parts.are_functions.Goals as goal

pub returns : goal.returns
returns c = λ m same.
    let whole = c.args.octets.now in
    let o = c.args.outline in
    let d = c.requires in
    let held = contents_in whole o in
    let imported : c.imported_functions-imported.result ≡ length (filter_map imported_function held.imports) =
    c.imported_functions-imported.ensures.count ∙ ap (λ (imports : List Import). length (filter_map imported_function imports)) (c.deref.ensures.value ∙ d.tabled.imports) in
    let own = c.split_at.ensures.back ∙ ap (drop c.imported_functions-imported.result) (c.deref-2.ensures.value ∙ d.tabled.functions)
    ∙ drop_at (filter_map imported_function held.imports) (indices_in whole o) c.imported_functions-imported.result (sym imported) in
    functions_told whole o c.args.tables.now d m same _ c.len.result c.functions_hold.result own (omega (arith, c.len.ensures, c.args.tables.now.types.ok.0)) c.functions_hold.ensures
