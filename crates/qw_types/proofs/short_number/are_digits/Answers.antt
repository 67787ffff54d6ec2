use Rattle.std.proofs.Common.{◌&&◌, refl}
use Rattle.qw_types.proofs.ShortNumberLemmas.{eight_all}
use Rattle.qw_types.proofs.short_number.are_digits.Goals as goal

pub returns : goal.returns
returns c =
    eight_all c.args.octets.now
    (((((((c.is_ascii_digit.result && c.is_ascii_digit-2.result) && c.is_ascii_digit-3.result) && c.is_ascii_digit-4.result) && c.is_ascii_digit-5.result) && c.is_ascii_digit-6.result) && c.is_ascii_digit-7.result) && c.is_ascii_digit-8.result)
    c.requires
    (rw (
      c.is_ascii_digit.ensures.value,
      c.is_ascii_digit-2.ensures.value,
      c.is_ascii_digit-3.ensures.value,
      c.is_ascii_digit-4.ensures.value,
      c.is_ascii_digit-5.ensures.value,
      c.is_ascii_digit-6.ensures.value,
      c.is_ascii_digit-7.ensures.value,
      c.is_ascii_digit-8.ensures.value,
    ) refl)
