-- What a query specification comes to over the tables of the schema (ISO/IEC 9075:1992, 7.9, 22.1).
use Rattle.std.specs.Prelude.{List, [], ◌∷◌}
use Rattle.std.specs.List.{Contains}
use Rattle.std.specs.List.Sorted.{IsPermutation}
use Rattle.qw_types.specs.declared.code.Code.{Code}
use Rattle.qw_types.specs.declared.value.Val.{Val}
use Rattle.qw_meaning.specs.Flow.{Flow, each, kept, selected}
use Rattle.qw_meaning.specs.From.{from_sources}
use Rattle.qw_meaning.specs.Select.{Specification}

-- FROM, WHERE and the select list. What GROUP BY with HAVING and DISTINCT make of it stands in qw_grouped.
abbrev pub flow : Specification → List (List (List Val)) → Flow (List Val)
flow specification tables = each (selected specification.items) (each (kept specification.conjuncts) (from_sources specification.sources tables))

-- the bag of its rows, or, where any was raised, the exceptions that were
pub data Outcome : Type 0 where
  Rows : List (List Val) → Outcome
  Raises : List Code → Outcome

abbrev pub ended : List (List Val) → List Code → Outcome
ended rows [] = Rows rows
ended rows (code ∷ codes) = Raises (code ∷ codes)

abbrev pub outcome : Specification → List (List (List Val)) → Outcome
outcome specification tables = ended (flow specification tables).rows (flow specification tables).codes

-- The same outcome: a bag is a list in any order, and of exceptions only which ones came is told.
abbrev pub IsSameOutcome : Outcome → Outcome → Type 0
IsSameOutcome (Rows rows) (Rows others) = IsPermutation rows others
IsSameOutcome (Raises codes) (Raises others) =
    ((code : Code) → Contains codes code → Contains others code) × ((code : Code) → Contains others code → Contains codes code)
IsSameOutcome (Rows rows) (Raises others) = ⊥
IsSameOutcome (Raises codes) (Rows others) = ⊥
