-- The hash tables of joins, whatever the types of their keys: a directory of 1,024 slots, however many entries there are, and a key in the slot
-- that its general hash tells, which folds the octets of each of its values.
use Rattle.std.specs.Prelude.{length}
use Rattle.std.specs.List.{flat_map}
use Rattle.qw_layout.specs.Hash as hash
use Rattle.qw_pipe.specs.Units.{Hashing}

abbrev pub general_hashing : Hashing
general_hashing = record { slots = λ entries. 1024; slot = λ entries key. hash.slot key; folded = λ key. length (flat_map hash.value_octets key) }
