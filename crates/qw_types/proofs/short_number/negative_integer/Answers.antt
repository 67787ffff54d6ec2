use Rattle.std.proofs.Common.{◌∙◌, true, sym, rules, w32, w64, arith}
use Rattle.std.specs.Prelude.{FitsSigned}
use Rattle.std.proofs.lemmas.Int.{to_z-of_z}
use Rattle.qw_types.proofs.ShortNumberLemmas.{integer_is}
use Rattle.qw_types.proofs.short_number.negative_integer.Goals as goal

pub returns : goal.returns
returns c =
    let long : FitsSigned w64 c.signed.result = search rules in
    let short : FitsSigned w32 c.signed.result = search rules in
    rw (to_z-of_z w64 c.signed.result long, to_z-of_z w32 c.signed.result short, c.signed.ensures)
    (integer_is c.args.bytes.now c.without_minus.result.now c.in_ok-magnitude.magnitude true c.without_minus.ensures (sym (sym c.begins_with_minus.ensures ∙ c.if-not-begins_with_minus.false)) c.in_ok-magnitude.ensures.digits
    c.in_ok-magnitude.ensures.number c.in_ok-magnitude.ensures.some (omega (arith, c.if-magnitude-gt2147483648.false)))
