-- What is promised in the worked cases: of T, a table of one INTEGER column A, NOT NULL, SELECT A FROM T WHERE A > n, over the rows (4), (1),
-- (7).
use Rattle.std.specs.Prelude.{ℕ, ◌+◌, ℤ, pos, true, List, [], ◌∷◌, Some, length, replicate}
use Rattle.qw_types.specs.Contents.{rows_of}
use Rattle.qw_types.specs.declared.kind.Kind.TheVariants as kind
use Rattle.qw_types.specs.declared.value.Ty.TheVariants.{Integer}
use Rattle.qw_types.specs.declared.value.Val.{Val}
use Rattle.qw_types.specs.declared.value.Val.TheVariants.{Num}
use Rattle.qw_scalar.specs.declared.comparison.Comparison.TheVariants.{Greater}
use Rattle.qw_scalar.specs.Expression.{column, comparison, number}
use Rattle.qw_meaning.specs.Outcome.{outcome}
use Rattle.qw_meaning.specs.Select.{Entry, Specification, alone}
use Rattle.qw_map.specs.Layout.{Layout}
use Rattle.qw_promise.specs.Promise.{Promise}

-- a table of one INTEGER column that is NOT NULL
abbrev pub integers : (table : ℕ) → Entry
integers table = record { table = table; columns = record { ty = Integer; not_null = true } ∷ [] }

-- and with A so many times in the select list
abbrev pub above : (items : ℕ) → ℤ → Specification
above items n = record {
  sources = alone (integers 0) ∷ [];
  conjuncts = comparison Greater (column 0 Integer) (number n 0) ∷ [];
  items = replicate items (column 0 Integer);
}

abbrev pub three_rows : List (List (List Val))
three_rows = ((Num (pos 4) ∷ []) ∷ (Num (pos 1) ∷ []) ∷ (Num (pos 7) ∷ []) ∷ []) ∷ []

-- a layout of the column A and one whole number
abbrev pub of_integers : Layout
of_integers = record { columns = record { table = 0; column = 0; ty = Integer; not_null = true } ∷ []; literals = []; cells = kind.Number 0 ∷ [] }

-- what SELECT A FROM T WHERE A > 5 promises: a row of one whole number, two pages, and a unit for each row of T and each that is found
abbrev pub above_five : (found : ℕ) → Promise
above_five found = record {
  entries = integers 0 ∷ [];
  cells = Some (kind.Number 0) ∷ [];
  outcome = outcome (above 1 (pos 5));
  units = λ tables. length (rows_of tables 0) + found;
  pages = λ tables. 2;
}
