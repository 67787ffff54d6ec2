use Rattle.std.proofs.Common.{w64}
use Rattle.std.specs.Prelude.{FitsSigned}
use Rattle.std.proofs.lemmas.Int.{to_z-of_z}
use Rattle.std.proofs.Common.{rules}
use Rattle.qw_types.proofs.NumeralLemmas.{number_read}
use Rattle.qw_types.proofs.numeral.read_any_number.Goals as goal

pub returns : goal.returns
returns c =
    let (form, negative, fine, shown) = c.in-Some.ensures.some in
    let range : FitsSigned w64 c.signed.result = search rules in
    rw (to_z-of_z w64 c.signed.result range, c.signed.ensures) (number_read c.args.ty.now c.args.bytes.now c.in-Some.numeral.negative c.in-Some.numeral.fine c.in-Some.numeral.magnitude
    c.requires.numeric c.requires.sized form negative (rw (c.from.ensures, c.scale.ensures) at fine) c.if-not-numeral.false (rw (c.from.ensures, c.scale.ensures) at shown) (rw c.greatest.ensures at c.if-numeral-greatest.false))
