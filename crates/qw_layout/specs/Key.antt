-- What is compared of a key of a hash table, in the place of its values (ISO/IEC 9075:1992, 3.1 "distinct" and 8.2).
use Rattle.std.specs.Prelude.{List}
use Rattle.qw_types.specs.declared.value.Val.{Val}
use Rattle.qw_layout.specs.declared.key.Shape.{Shape}
use Rattle.qw_layout.specs.declared.key.Shape.TheVariants.{General}

-- the pack of a key: of a general key its values
abbrev pub pack : Shape → List Val → List Val
pack (General fields) key = key
