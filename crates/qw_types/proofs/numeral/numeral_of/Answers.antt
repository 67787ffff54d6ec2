use Rattle.std.proofs.Common.{◌∙◌, sym}
use Rattle.qw_types.proofs.NumeralLemmas.{numeral_is, rest_is}
use Rattle.qw_types.proofs.numeral.numeral_of.Goals as goal

pub returns-clause-some : goal.returns-clause-some
returns-clause-some c =
    let unsigned = c.without_sign-unsigned.result.now in
    let behind = rest_is unsigned c.leading_digits-whole.result.count ∙ c.leading_digits-whole.ensures.rest in
    let (form, negative, fine, shown) = numeral_is c.args.bytes.now c.args.scale c.without_spaces-text.result.now unsigned _ c.fraction_of-fraction.result.rest.now
    c.leading_digits-whole.result.count c.leading_digits-whole.result.number c.fraction_of-fraction.result.count c.fraction_of-fraction.result.number c.with_zeros.result
    c.fraction_of-fraction.result.fine c.is_number.result c.begins_with_minus.result c.without_spaces-text.ensures c.without_sign-unsigned.ensures behind
    c.leading_digits-whole.ensures.count c.leading_digits-whole.ensures.number c.fraction_of-fraction.ensures.count c.fraction_of-fraction.ensures.number
    c.fraction_of-fraction.ensures.fine c.fraction_of-fraction.ensures.rest c.is_number.ensures c.begins_with_minus.ensures (rw c.saturating_sub.ensures at c.with_zeros.ensures) in
    (sym form ∙ c.if-not-is_number.false, negative, fine, shown)
