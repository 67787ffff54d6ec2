-- The result columns that the keys of an ORDER BY name, and the faults of the keys (ISO/IEC 9075:1992, 13.1). `names` are the names of the
-- result columns, in order. What is said here of a key that has a fault means nothing, and only makes the meaning total.
use Rattle.std.specs.Prelude.{ℕ, suc, ◌-◌, nat_le, Bool, not, ◌&&◌, if◌then◌else◌, List, [], ◌∷◌, ◌++◌, length, map}
use Rattle.std.specs.List.{flat_map}
use Rattle.std.specs.Str.{bytes_eq}
use Rattle.std.specs.Str.Parse.{digits_value}
use Rattle.qw_types.specs.Digits.{are_digits}
use Rattle.qw_order.specs.declared.sort_key.SortKey.{SortKey}
use Rattle.qw_ast.specs.Grammar.{name_of}
use Rattle.qw_ast.specs.Syntax.{Key, ordinal, result_column, SortSpecification}
use Rattle.qw_typer.specs.declared.fault.FaultKind.TheVariants.{BadOrdinal}
use Rattle.qw_typer.specs.Faults.{Fault, counted_faults, fault_where}

-- the positions of those that pass the test, the first of all being number `first`
abbrev pub positions_where : {A : Type 0} → (A → Bool) → (first : ℕ) → List A → List ℕ
positions_where test first [] = []
positions_where test first (x ∷ xs) = (if test x then first ∷ [] else []) ++ positions_where test (suc first) xs

-- a position of a result column, from 1 to their number
abbrev pub is_ordinal : (columns : ℕ) → List ℕ → Bool
is_ordinal columns digits = are_digits digits && (nat_le 1 (digits_value 10 digits) && nat_le (digits_value 10 digits) columns)

-- The result columns that a key may name, by their positions from 0: that at its position, which it counts from 1, or those of its name.
abbrev pub keyed : (names : List (List ℕ)) → Key → List ℕ
keyed names (ordinal digits) = if is_ordinal (length names) digits then (digits_value 10 digits - 1) ∷ [] else []
keyed names (result_column name) = positions_where (bytes_eq (name_of name)) 0 names

-- a key names one result column
abbrev pub key_faults : (names : List (List ℕ)) → Key → List Fault
key_faults names (ordinal digits) = fault_where (not (is_ordinal (length names) digits)) BadOrdinal digits
key_faults names (result_column name) = counted_faults (name_of name) (keyed names (result_column name))

abbrev pub first_position : List ℕ → ℕ
first_position [] = 0
first_position (p ∷ ps) = p

abbrev pub key_meant : (names : List (List ℕ)) → SortSpecification → SortKey
key_meant names s = record { position = first_position (keyed names s.key); is_descending = s.is_descending }

-- of all keys, in their order
abbrev pub keys_meant : (names : List (List ℕ)) → List SortSpecification → List SortKey
keys_meant names order = map (key_meant names) order

abbrev pub keys_faults : (names : List (List ℕ)) → List SortSpecification → List Fault
keys_faults names order = flat_map (λ (s : SortSpecification). key_faults names s.key) order
