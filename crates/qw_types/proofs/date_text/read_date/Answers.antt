use Rattle.std.proofs.Common.{w32, rules, refl, sym, ◌∙◌}
use Rattle.std.specs.Prelude.{FitsSigned}
use Rattle.std.proofs.lemmas.Int.{to_z-of_z}
use Rattle.qw_types.proofs.DateLemmas.{date_shown}
use Rattle.qw_types.proofs.NumeralLemmas.{rest_is}
use Rattle.qw_types.proofs.date_text.read_date.Goals as goal

pub returns : goal.returns
returns c =
    let range : FitsSigned w32 c.packed.result = search rules in
    let (form, year, month, day, _, _, _) = c.in-Some.ensures in
    let text = c.without_spaces-text.result.now in
    rw (to_z-of_z w32 c.packed.result range) (date_shown c.args.bytes.now text _ _ c.in-Some.year c.in-Some.month c.in-Some.day c.packed.result
    c.without_spaces-text.ensures refl (rest_is text 10) (sym c.are_spaces.ensures ∙ c.if-not-are_spaces.false) form year month day (c.is_date.ensures.0 c.if-not-is_date.false) c.packed.ensures)
