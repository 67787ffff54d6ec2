use Rattle.std.proofs.Common.{◌≡◌, Ok, sym, ap, subst, ◌∙◌}
use Rattle.std.proofs.lemmas.Bool.{ne_eqb}
use Rattle.std.proofs.lemmas.Result.{err_from_is_err_and}
use Rattle.qw_octet_grammar.specs.Numbers.{u32}
use Rattle.qw_octet_grammar.specs.Reading.{read}
use Rattle.qw_binary.specs.Sections.{section}
use Rattle.qw_scan.specs.declared.outline.Outline.{Outline}
use Rattle.qw_scan.specs.Inner.Outlines.{sections_in, noted, IsOutline, IsSuffix}
use Rattle.qw_scan.proofs.OutlineLemmas.{section_noted, section_misplaced, section_unsized, section_stuck, section_unfilled}
use Rattle.qw_scan.proofs.Suffixes.{suffix_read, stands_within}
use Rattle.qw_scan.proofs.outline.Outline.section_at.Goals as goal
use Rattle.qw_scan.proofs.outline.Outline.section_at.Goals.{After-note}

pub returns-then-id-eq0-clause-sections : goal.returns-then-id-eq0-clause-sections
returns-then-id-eq0-clause-sections c = λ suffix outline. rw c.if-id-eq0.true (c.behind_custom.ensures (sections_in c.args.whole.now c.args.self.now))

pub returns-in_err-id-clause-sections : goal.returns-in_err-id-clause-sections
returns-in_err-id-clause-sections c = λ suffix outline.
    let p = err_from_is_err_and c.from_residual.result c.from_residual.ensures.1 in
    rw (p.1, p.2) (section_misplaced (sections_in c.args.whole.now c.args.self.now) c.args.id c.args.octets.now (ne_eqb _ _ c.if-id-eq0.false) c.in_err-id.field-0.0 (sym c.in_err-id.ensures))

pub returns-in_err-size-clause-sections : goal.returns-in_err-size-clause-sections
returns-in_err-size-clause-sections c = λ suffix outline.
    let p = err_from_is_err_and c.from_residual-in_err-size.result c.from_residual-in_err-size.ensures.1 in
    rw (p.1, p.2) (section_unsized (sections_in c.args.whole.now c.args.self.now) c.args.id c.args.octets.now (ne_eqb _ _ c.if-id-eq0.false) c.in_ok-id.id (sym c.in_ok-id.ensures) c.in_err-size.field-0.0 c.in_err-size.ensures)

pub returns-in_err-left-clause-sections : goal.returns-in_err-left-clause-sections
returns-in_err-left-clause-sections c = λ suffix outline.
    let p = err_from_is_err_and c.from_residual-in_err-left.result c.from_residual-in_err-left.ensures.1 in
    rw (p.1, p.2) (section_stuck (sections_in c.args.whole.now c.args.self.now) c.args.id c.args.octets.now (ne_eqb _ _ c.if-id-eq0.false) c.in_ok-id.id (sym c.in_ok-id.ensures) c.in_ok-size.size c.in_ok-size.rest.now
    c.window-held.result.now c.in_ok-size.ensures c.window-held.ensures c.in_err-left.field-0.0 c.args.self.now.own outline.own c.in_err-left.ensures)

pub returns-in_err-after-clause-sections : goal.returns-in_err-after-clause-sections
returns-in_err-after-clause-sections c = λ suffix outline.
    let p = err_from_is_err_and c.from_residual-in_err-after.result c.from_residual-in_err-after.ensures.1 in
    rw (p.1, p.2) (section_unfilled (sections_in c.args.whole.now c.args.self.now) c.args.id c.args.octets.now (ne_eqb _ _ c.if-id-eq0.false) c.in_ok-id.id (sym c.in_ok-id.ensures) c.in_ok-size.size c.in_ok-size.rest.now
    c.window-held.result.now c.in_ok-size.ensures c.window-held.ensures c.in_err-after.field-0.0 c.args.self.now.own c.in_ok-left.left.now outline.own c.in_ok-left.ensures c.in_err-after.ensures.not_filled)

-- what was read of the section is noted
noted_here : (c : After-note) → IsSuffix c.args.whole.now c.args.octets.now → IsOutline c.args.whole.now c.args.self.now →
    let o = noted c.args.self.now c.in_ok-id.id c.saturating_sub-at.result c.in-Ok.count in
    (read (section (sections_in c.args.whole.now c.args.self.now) c.args.id) c.args.octets.now ≡ Ok (sections_in c.args.whole.now o, c.in_ok-after.after.now)) × IsOutline c.args.whole.now o
noted_here c suffix outline =
    let whole = c.args.whole.now in
    let held = c.window-held.result.now in
    let stands = stands_within whole c.in_ok-size.rest.now held c.in_ok-size.size c.saturating_sub-at.result c.saturating_sub-at.ensures c.window-held.ensures (suffix_read u32 whole c.args.octets.now c.in_ok-size.size c.in_ok-size.rest.now suffix c.in_ok-size.ensures) in
    section_noted whole c.args.self.now c.args.id c.in_ok-id.id c.in_ok-size.size c.saturating_sub-at.result c.in-Ok.count c.args.octets.now c.in_ok-size.rest.now held c.in_ok-left.left.now c.in_ok-after.after.now _
    (ne_eqb _ _ c.if-id-eq0.false) (sym c.in_ok-id.ensures) c.in_ok-size.ensures c.window-held.ensures c.in_ok-left.ensures c.in_ok-after.ensures.found.0 c.in_ok-after.ensures.found.1 c.in_ok-after.ensures.found.2 c.in-Ok.ensures stands outline

pub returns-clause-sections : goal.returns-clause-sections
returns-clause-sections c = λ suffix outline.
    (noted_here (goal.at.returns-clause-sections c).After-note suffix outline).0 ∙ ap (λ (o : Outline). Ok (sections_in c.args.whole.now o, c.in_ok-after.after.now)) (sym c.note.ensures)

pub returns-clause-outline : goal.returns-clause-outline
returns-clause-outline c = λ suffix outline. subst (IsOutline c.args.whole.now) (sym c.note.ensures) (noted_here (goal.at.returns-clause-outline c).After-note suffix outline).1
