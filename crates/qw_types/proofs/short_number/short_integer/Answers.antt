use Rattle.std.proofs.Common.{◌≡◌, false, refl, sym, w32, arith}
use Rattle.std.specs.Str.Parse.{starts_with_minus}
use Rattle.std.proofs.lemmas.Int.{to_z_pos}
use Rattle.qw_types.proofs.ShortNumberLemmas.{integer_is, unsigned}
use Rattle.qw_types.proofs.short_number.short_integer.Goals as goal

pub returns : goal.returns
returns c =
    let sign : starts_with_minus c.args.bytes.now ≡ false = unsigned c.args.bytes.now c.in-Some.ensures.digits in
    rw (to_z_pos w32 c.in-Some.number (omega (arith, c.if-number-gt2147483647.false)))
    (integer_is c.args.bytes.now c.args.bytes.now c.in-Some.number false (rw sign refl) (sym sign) c.in-Some.ensures.digits c.in-Some.ensures.number c.in-Some.ensures.some
    (omega (arith, c.if-number-gt2147483647.false)))
