use Rattle.std.proofs.Common.{◌≡◌, take, true}
use Rattle.std.specs.Char.{is_ascii_digit}
use Rattle.std.specs.List.{list_all}
use Rattle.std.specs.Str.Parse.{digits_value}
use Rattle.qw_types.proofs.short_number.digits_from.Given as goal

abbrev pub invariant-loop-count : goal.invariant-loop-count
invariant-loop-count l = (list_all is_ascii_digit (take l.count l.octets) ≡ true) × (l.number ≡ digits_value 10 (take l.count l.octets))
