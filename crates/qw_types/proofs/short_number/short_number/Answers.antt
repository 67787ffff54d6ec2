use Rattle.std.proofs.Common.{rules, w64}
use Rattle.std.specs.Prelude.{FitsSigned}
use Rattle.std.proofs.lemmas.Int.{to_z-of_z}
use Rattle.qw_types.proofs.ShortNumberLemmas.{short_is}
use Rattle.qw_types.proofs.short_number.short_number.Goals as goal

pub returns : goal.returns
returns c =
    let range : FitsSigned w64 c.signed.result = search rules in
    let shown = c.in_ok-magnitude.ensures in
    rw (to_z-of_z w64 c.signed.result range, c.signed.ensures)
    (short_is c.args.ty.now c.args.bytes.now c.without_minus.result.now c.in_ok-magnitude.magnitude c.begins_with_minus-negative.result c.requires.numeric c.requires.sized
    c.without_minus.ensures c.begins_with_minus-negative.ensures shown.some shown.rest (rw (c.from.ensures, c.scale.ensures) at shown.few)
    (rw (c.from.ensures, c.scale.ensures) at shown.value) (rw c.greatest.ensures at c.if-magnitude-greatest.false))
