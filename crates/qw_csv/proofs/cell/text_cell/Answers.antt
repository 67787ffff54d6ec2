use Rattle.std.proofs.Common.{◌<◌, chars, length, refl, arith}
use Rattle.qw_csv.proofs.cell.text_cell.Goals as goal

pub returns-in-Ok : goal.returns-in-Ok
returns-in-Ok c = (c.in-Ok.ensures.cases.1, rw (c.in-Ok.ensures.cases.0, c.from.ensures) at (c.is_longer.ensures.0 c.if-is_longer.true))

pub returns-in-Ok-2 : goal.returns-in-Ok-2
returns-in-Ok-2 c =
    let within : c.args.length < length (chars c.args.field.now) → ⊥ = λ longer. let no = rw c.if-is_longer.false at (c.is_longer.ensures.1 (rw (c.in-Ok.ensures.cases.0, c.from.ensures) longer)) in cc no in (
      refl,
      record { utf8 = c.in-Ok.ensures.cases.1; short = omega (arith, within) },
    )
