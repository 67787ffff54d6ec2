use Rattle.std.proofs.Common.{length, sym, ◌∙◌}
use Rattle.std.proofs.lemmas.Bool.{eqb-true}
use Rattle.std.proofs.lemmas.Result.{err_from_is_err_and}
use Rattle.qw_scan.specs.Inner.Outlines.{indices_in, contents_in, sections_in}
use Rattle.qw_scan.proofs.OutlineLemmas.{module_found, module_short, module_stuck}
use Rattle.qw_scan.proofs.outline.read_outline.Goals as goal

pub returns-then-is_complete-clause-contents : goal.returns-then-is_complete-clause-contents
returns-then-is_complete-clause-contents c =
    let whole = c.args.octets.now in
    let o = c.in_ok-outline.outline in
    module_found whole (sections_in whole o) (sym c.has_header.ensures ∙ c.if-not-has_header.false) c.in_ok-outline.ensures.sections (sym (c.is_complete.ensures whole c.in_ok-outline.ensures.outline) ∙ c.if-is_complete.true)

pub returns-else-is_complete-clause-contents : goal.returns-else-is_complete-clause-contents
returns-else-is_complete-clause-contents c =
    let whole = c.args.octets.now in
    let o = c.in_ok-outline.outline in
    module_short whole (sections_in whole o) (sym c.has_header.ensures ∙ c.if-not-has_header.false) c.in_ok-outline.ensures.sections (sym (c.is_complete.ensures whole c.in_ok-outline.ensures.outline) ∙ c.if-is_complete.false)

pub returns-in_err-outline-clause-contents : goal.returns-in_err-outline-clause-contents
returns-in_err-outline-clause-contents c =
    let whole = c.args.octets.now in
    let p = err_from_is_err_and c.from_residual.result c.from_residual.ensures.1 in
    rw (p.1, p.2) (module_stuck whole c.in_err-outline.field-0.0 (sym c.has_header.ensures ∙ c.if-not-has_header.false) c.in_err-outline.ensures.sections)

pub returns-then-is_complete-clause-complete : goal.returns-then-is_complete-clause-complete
returns-then-is_complete-clause-complete c =
    let whole = c.args.octets.now in
    let o = c.in_ok-outline.outline in
    eqb-true (length (indices_in whole o)) (length (contents_in whole o).functions) (sym (c.is_complete.ensures whole c.in_ok-outline.ensures.outline) ∙ c.if-is_complete.true)
