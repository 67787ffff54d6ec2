-- FROM of one entry, and lists of lists.
use Rattle.std.proofs.Common.{◌≡◌, ◌∙◌, ◌++◌, List, [], ◌∷◌, map, ap, refl}
use Rattle.std.specs.List.{flat_map}
use Rattle.std.proofs.lemmas.Grind.{flat_map-append}
use Rattle.qw_types.specs.declared.value.Val.{Val}
use Rattle.qw_types.specs.Contents.{rows_of}
use Rattle.qw_meaning.specs.Flow.{Flow}
use Rattle.qw_meaning.specs.From.{at_places, from_sources}
use Rattle.qw_meaning.specs.Select.{Entry, alone}

-- the rows of the first entry are those of its table
pub first_rows : (rows : List (List Val)) → map (at_places 0) rows ≡ rows
first_rows [] = refl
first_rows (row ∷ rows) = ap (λ (others : List (List Val)). row ∷ others) (first_rows rows)

-- FROM of one entry is its table
pub from_one : (entry : Entry) (tables : List (List (List Val))) → from_sources (alone entry ∷ []) tables ≡ record { rows = rows_of tables entry.table; codes = [] }
from_one entry tables = ap made (first_rows (rows_of tables entry.table))
  where
    made : List (List Val) → Flow (List Val)
    made rows = record { rows = rows; codes = [] }

pub flat_map_twice : {A B C : Type 0} (f : B → List C) (g : A → List B) (xs : List A) → flat_map f (flat_map g xs) ≡ flat_map (λ x. flat_map f (g x)) xs
flat_map_twice f g [] = refl
flat_map_twice f g (x ∷ xs) = flat_map-append f (g x) (flat_map g xs) ∙ ap (λ rest. flat_map f (g x) ++ rest) (flat_map_twice f g xs)
