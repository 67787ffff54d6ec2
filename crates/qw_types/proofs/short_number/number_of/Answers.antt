use Rattle.std.proofs.Common.{◌+◌, arith}
use Rattle.qw_types.proofs.ShortNumberLemmas.{eight_counted}
use Rattle.qw_types.proofs.short_number.number_of.Goals as goal

pub overflow_sub-number : goal.overflow_sub-number
overflow_sub-number c =
    let counted = eight_counted c.args.octets.now (c.scaled.result + c.scaled-2.result + c.scaled-3.result + c.scaled-4.result) (c.scaled-5.result + c.scaled-6.result + c.scaled-7.result + c.scaled-8.result)
    c.requires.eight c.requires.digits
    (omega (arith, c.scaled.ensures, c.scaled-2.ensures, c.scaled-3.ensures, c.scaled-4.ensures))
    (omega (arith, c.scaled-5.ensures, c.scaled-6.ensures, c.scaled-7.ensures, c.scaled-8.ensures)) in
    omega (arith, counted)

pub returns : goal.returns
returns c =
    let counted = eight_counted c.args.octets.now (c.scaled.result + c.scaled-2.result + c.scaled-3.result + c.scaled-4.result) (c.scaled-5.result + c.scaled-6.result + c.scaled-7.result + c.scaled-8.result)
    c.requires.eight c.requires.digits
    (omega (arith, c.scaled.ensures, c.scaled-2.ensures, c.scaled-3.ensures, c.scaled-4.ensures))
    (omega (arith, c.scaled-5.ensures, c.scaled-6.ensures, c.scaled-7.ensures, c.scaled-8.ensures)) in
    omega (arith, counted, c.from.ensures)
