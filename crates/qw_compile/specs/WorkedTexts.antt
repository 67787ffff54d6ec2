-- The queries of the worked cases of units that compare texts: of W, a table of one text column L, with the rows 'pen' and 'm'.
use Rattle.std.specs.Prelude.{false, List, [], ◌∷◌}
use Rattle.qw_types.specs.declared.value.Ty.TheVariants.{Varchar}
use Rattle.qw_types.specs.declared.value.Val.{Val}
use Rattle.qw_types.specs.declared.value.Val.TheVariants.{Text}
use Rattle.qw_scalar.specs.declared.comparison.Comparison.TheVariants.{Equal}
use Rattle.qw_scalar.specs.Expression.{Condition, Expression, choice, column, comparison, null, text}
use Rattle.qw_meaning.specs.Select.{Specification, alone}

-- SELECT items FROM W WHERE conjuncts
abbrev pub from_words : List Condition → List Expression → Specification
from_words conjuncts items = record {
  sources = alone (record { table = 0; columns = record { ty = Varchar 3; not_null = false } ∷ [] }) ∷ [];
  conjuncts = conjuncts;
  items = items;
}

-- 'pen', 'm', and the column L
abbrev pub pen : Expression
pen = text (112 ∷ 101 ∷ 110 ∷ [])

abbrev pub m : Expression
m = text (109 ∷ [])

abbrev pub word : Expression
word = column 0 (Varchar 3)

-- CASE WHEN L = 'pen' THEN L ELSE NULL END
abbrev pub is_pen : Expression
is_pen = choice (comparison Equal word pen) word null

-- two rows, 'pen' and 'm'
abbrev pub two_words : List (List (List Val))
two_words = ((Text (112 ∷ 101 ∷ 110 ∷ []) ∷ []) ∷ (Text (109 ∷ []) ∷ []) ∷ []) ∷ []
