-- Mirrors the helpers of numbers.rt: shifts and rotations by a number of bits below that of the type, and its greatest signed reading.
use Rattle.std.specs.Prelude.{ℕ, ◌+◌, ◌-◌, ◌*◌, ◌/◌, ◌%◌, ◌^◌, ℤ, pos}
use Rattle.std.specs.Int.{int_div_euclid}
use Rattle.qw_module.specs.declared.instruction.ValType.{ValType}
use Rattle.qw_module.specs.Numbers.{bits_of, values_of, signed, unsigned}

abbrev pub rotated_left : ValType → (x by : ℕ) → ℕ
rotated_left type x by = (x * 2 ^ by) % values_of type + x / 2 ^ (bits_of type - by)

abbrev pub rotated_right : ValType → (x by : ℕ) → ℕ
rotated_right type x by = x / 2 ^ by + (x * 2 ^ (bits_of type - by)) % values_of type

abbrev pub shifted_right : ValType → (x by : ℕ) → ℕ
shifted_right type x by = unsigned type (int_div_euclid (signed type x) (pos (2 ^ by)))

abbrev pub greatest_of : ValType → ℤ
greatest_of type = pos (2 ^ (bits_of type - 1) - 1)
