use Rattle.std.proofs.Common.{ℕ, ◌-◌, List, length, take, drop, sym, ap, subst, ◌∙◌, arith}
use Rattle.std.proofs.lemmas.Result.{err_from_is_err_and}
use Rattle.qw_octet_grammar.specs.Reading.{read_all}
use Rattle.qw_octet_grammar.proofs.Loops.{all_begin, all_break, all_more, all_out}
use Rattle.qw_binary.specs.Sections.{Sections, no_sections, section}
use Rattle.qw_scan.specs.Inner.Outlines.{sections_in, IsSuffix}
use Rattle.qw_scan.proofs.Suffixes.{suffix_first, suffix_tail, suffix_read}
use Rattle.qw_scan.proofs.outline.sections_at.Goals as goal

pub loop-init : goal.loop-init
loop-init c =
    let whole = c.args.octets.now in
    record {
      left = ap (λ (bs : List ℕ). read_all section (length whole - 0) (sections_in whole c.new-outline.result) bs) c.from-rest.ensures
          ∙ ap (λ (s : Sections). read_all section (length whole - 0) s (drop 8 whole)) (c.new-outline.ensures.sections whole) ∙ all_begin section (length whole) no_sections (drop 8 whole);
      outlined = c.new-outline.ensures.outline whole;
      suffix = subst (IsSuffix whole) (sym c.from-rest.ensures) (suffix_first whole 8);
    }

pub returns-in_err-rest-in-len1-up-clause-sections : goal.returns-in_err-rest-in-len1-up-clause-sections
returns-in_err-rest-in-len1-up-clause-sections c =
    let whole = c.args.octets.now in
    let p = err_from_is_err_and c.from_residual.result c.from_residual.ensures.1 in
    let tail = suffix_tail whole c.loop.rest.now c.in-len1-up.len_at_least c.loop.invariant.suffix in
    rw (p.1, p.2) (all_break section c.in_err-rest-in-len1-up.field-0.0 (length whole) c.loop.counter (sections_in whole c.loop.outline) c.loop.rest.now (read_all section (length whole) no_sections (drop 8 whole))
    c.loop-test.true c.in-len1-up.len_at_least (c.in_err-rest-in-len1-up.ensures.sections tail c.loop.invariant.outlined) c.loop.invariant.left)

pub loop-preserved : goal.loop-preserved
loop-preserved c =
    let whole = c.args.octets.now in
    let tail = suffix_tail whole c.loop.rest.now c.in-len1-up.len_at_least c.loop.invariant.suffix in
    let found = c.in_ok-rest-in-len1-up.ensures.sections tail c.loop.invariant.outlined in
    record {
      left = all_more section (length whole) c.loop.counter (sections_in whole c.loop.outline) c.loop.rest.now (sections_in whole c.section_at.new.self) c.in_ok-rest-in-len1-up.rest.now
          (read_all section (length whole) no_sections (drop 8 whole)) c.loop-test.true c.in-len1-up.len_at_least found c.loop.invariant.left;
      outlined = c.in_ok-rest-in-len1-up.ensures.outline tail c.loop.invariant.outlined;
      suffix = suffix_read _ whole (take (length c.loop.rest.now - 1) (drop 1 c.loop.rest.now)) _ c.in_ok-rest-in-len1-up.rest.now tail found;
    }

pub returns-else-is_empty-clause-sections : goal.returns-else-is_empty-clause-sections
returns-else-is_empty-clause-sections c = grind (arith, all_out)
