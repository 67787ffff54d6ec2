-- The order of values and of rows (ISO/IEC 9075:1992, 8.2; 3.1 for rows that are distinct; 13.1 for nulls, which the implementation puts
-- below all values or above them).
use Rattle.std.specs.Prelude.{Bool, List, [], ◌∷◌}
use Rattle.std.specs.Ordering.{int_cmp, is_eq, ordering_then}
use Rattle.std.specs.declared.cmp.Ordering.{Ordering}
use Rattle.std.specs.declared.cmp.Ordering.TheVariants.{Less, Equal, Greater}
use Rattle.qw_types.specs.TextOrder.{text_order}
use Rattle.qw_types.specs.declared.value.Val.{Val}
use Rattle.qw_types.specs.declared.value.Val.TheVariants.{Null, Num, Date, Text}

-- Nulls stand below all values. Values are compared that are of one kind, numbers at one scale; of others it only says something.
abbrev pub value_order : Val → Val → Ordering
value_order Null Null = Equal
value_order Null (Num b) = Less
value_order Null (Date b) = Less
value_order Null (Text b) = Less
value_order (Num a) Null = Greater
value_order (Num a) (Num b) = int_cmp a b
value_order (Num a) (Date b) = Less
value_order (Num a) (Text b) = Less
value_order (Date a) Null = Greater
value_order (Date a) (Num b) = Greater
value_order (Date a) (Date b) = int_cmp a b
value_order (Date a) (Text b) = Less
value_order (Text a) Null = Greater
value_order (Text a) (Num b) = Greater
value_order (Text a) (Date b) = Greater
value_order (Text a) (Text b) = text_order a b

-- rows by their values from the left, of which the first that differ decide
abbrev pub row_order : List Val → List Val → Ordering
row_order [] [] = Equal
row_order [] (b ∷ others) = Less
row_order (a ∷ rest) [] = Greater
row_order (a ∷ rest) (b ∷ others) = ordering_then (value_order a b) (row_order rest others)

-- two rows aren't distinct: value by value they are equal, or both null
abbrev pub is_same_row : List Val → List Val → Bool
is_same_row a b = is_eq (row_order a b)
