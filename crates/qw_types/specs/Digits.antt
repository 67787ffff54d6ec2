-- Digits (ISO/IEC 9075:1992, 5.3 "unsigned integer").
use Rattle.std.specs.Prelude.{ℕ, Bool, nat_lt, ◌&&◌, List, length}
use Rattle.std.specs.List.{list_all}
use Rattle.std.specs.Char.{is_ascii_digit}

-- whether the octets are digits, one or more
abbrev pub are_digits : List ℕ → Bool
are_digits octets = nat_lt 0 (length octets) && list_all is_ascii_digit octets
