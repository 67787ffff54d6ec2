use Rattle.std.proofs.Common.{◌≡◌, ◌++◌, ◌-◌}
use Rattle.std.specs.String.{string_bytes}
use Rattle.qw_types.specs.NumberText.{last_digits}
use Rattle.qw_types.proofs.number_text.push_last_digits.Given as goal

-- the digits so far, and those that are left
abbrev pub invariant-loop-done : goal.invariant-loop-done
invariant-loop-done l = string_bytes l.text ++ last_digits (l.count - l.done) l.number ≡ string_bytes l.fn.text ++ last_digits l.count l.number
