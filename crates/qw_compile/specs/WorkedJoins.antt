-- The queries of the worked cases of bounds over several tables, each of one INTEGER column A, NOT NULL: SELECT A of T's from all pairs of rows,
-- SELECT T.A FROM T, U WHERE T.A = U.A, and with a LEFT JOIN.
use Rattle.std.specs.Prelude.{ℕ, true, [], ◌∷◌}
use Rattle.qw_types.specs.declared.value.Ty.TheVariants.{Integer}
use Rattle.qw_scalar.specs.declared.comparison.Comparison.TheVariants.{Equal}
use Rattle.qw_scalar.specs.Expression.{column, comparison}
use Rattle.qw_meaning.specs.Select.{Specification, alone}
use Rattle.qw_promise.specs.WorkedQueries.{integers}

-- SELECT X.A FROM T X, U Y, or with T for U
abbrev pub with_each : (other : ℕ) → Specification
with_each other = record { sources = alone (integers 0) ∷ alone (integers other) ∷ []; conjuncts = []; items = column 0 Integer ∷ [] }

-- SELECT T.A FROM T, U WHERE T.A = U.A
abbrev pub equal_numbers : Specification
equal_numbers = record {
  sources = alone (integers 0) ∷ alone (integers 1) ∷ [];
  conjuncts = comparison Equal (column 0 Integer) (column 64 Integer) ∷ [];
  items = column 0 Integer ∷ [];
}

-- SELECT T.A FROM T LEFT JOIN U ON T.A = U.A
abbrev pub left_joined_numbers : Specification
left_joined_numbers = record {
  sources = record {
    first = integers 0;
    joins = record { entry = integers 1; outer = true; on = comparison Equal (column 0 Integer) (column 64 Integer) ∷ [] } ∷ [];
  } ∷ [];
  conjuncts = [];
  items = column 0 Integer ∷ [];
}
