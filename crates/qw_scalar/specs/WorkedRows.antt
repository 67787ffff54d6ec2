-- The rows of the worked cases: ID INTEGER NOT NULL, PRICE DECIMAL(9,2), SOLD DATE, LABEL VARCHAR(20); and expressions over them.
use Rattle.std.specs.Prelude.{ℕ, zero, suc, pos, List, [], ◌∷◌}
use Rattle.qw_types.specs.declared.value.Val.TheVariants.{Null, Num, Date, Text}
use Rattle.qw_scalar.specs.Evaluation.{Environment, at_row}
use Rattle.qw_scalar.specs.Expression.{Expression, case, coalesced, last, more}

-- 'pen', 'ink'
abbrev pub pen : List ℕ
pen = 112 ∷ 101 ∷ 110 ∷ []

abbrev pub ink : List ℕ
ink = 105 ∷ 110 ∷ 107 ∷ []

-- 1, 10.00, 1998-09-02, 'pen'
abbrev pub first_item : Environment
first_item = at_row (Num (pos 1) ∷ Num (pos 1000) ∷ Date (pos 19980902) ∷ Text pen ∷ [])

-- 2, null, 1998-09-03, 'ink'
abbrev pub second_item : Environment
second_item = at_row (Num (pos 2) ∷ Null ∷ Date (pos 19980903) ∷ Text ink ∷ [])

-- 3, 0.50, null, 'pen'
abbrev pub third_item : Environment
third_item = at_row (Num (pos 3) ∷ Num (pos 50) ∷ Null ∷ Text pen ∷ [])

-- COALESCE(.. COALESCE(COALESCE(a, b), b) .., b), so many times
abbrev pub nested_coalesce : ℕ → Expression → Expression → Expression
nested_coalesce zero a b = a
nested_coalesce (suc n) a b = case (coalesced (more (nested_coalesce n a b) (last b)))
