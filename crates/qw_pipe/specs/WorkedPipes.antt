-- Hash tables of the worked cases, of 1,024 slots or of slots by the entries, and with nine octets folded of each value of a key; and a condition.
use Rattle.std.specs.Prelude.{ℕ, ◌*◌, ◌%◌, pos, unsigned_abs, List, [], ◌∷◌, length}
use Rattle.qw_types.specs.declared.value.Ty.TheVariants.{Integer}
use Rattle.qw_types.specs.declared.value.Val.{Val}
use Rattle.qw_types.specs.declared.value.Val.TheVariants.{Null, Num, Date, Text}
use Rattle.qw_scalar.specs.declared.comparison.Comparison.TheVariants.{Greater}
use Rattle.qw_scalar.specs.declared.expression.Operator.TheVariants.{Add}
use Rattle.qw_scalar.specs.Expression.{Condition, arithmetic, column, comparison, number}
use Rattle.qw_pipe.specs.Units.{Hashing}

-- all keys are in one slot
abbrev pub one_slot : Hashing
one_slot = record { slots = λ entries. 1024; slot = λ entries key. 0; folded = λ key. 9 * length key }

-- a key is in the slot of its first value, and in the first one where that is no number
abbrev pub slot_of_number : List Val → ℕ
slot_of_number [] = 0
slot_of_number (Null ∷ key) = 0
slot_of_number (Num v ∷ key) = unsigned_abs v
slot_of_number (Date d ∷ key) = 0
slot_of_number (Text t ∷ key) = 0

abbrev pub by_number : Hashing
by_number = record { slots = λ entries. 1024; slot = λ entries key. slot_of_number key; folded = λ key. 9 * length key }

-- a directory of twice as many slots as there are entries, and a key in that of the rest of its number
abbrev pub by_entries : Hashing
by_entries = record { slots = λ entries. 2 * entries; slot = λ entries key. slot_of_number key % (2 * entries); folded = λ key. 9 * length key }

-- ID + 999999999999999999 > 0, of entry 1
abbrev pub past_range : Condition
past_range = comparison Greater (arithmetic Add (column 64 Integer) (number (pos 999999999999999999) 0)) (number (pos 0) 0)
