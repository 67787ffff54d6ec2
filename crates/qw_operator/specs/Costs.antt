-- What a pipeline takes, in units, whose innermost block evaluates values, and takes so many units of them.
use Rattle.std.specs.Prelude.{ℕ, ◌+◌, List, [], ◌∷◌, get_or, length}
use Rattle.qw_types.specs.declared.value.Val.{Val}
use Rattle.qw_layout.specs.Hash.{slot}
use Rattle.qw_meaning.specs.Flow.{values_of}
use Rattle.qw_meaning.specs.From.{entry_flow}
use Rattle.qw_scalar.specs.Conjuncts.{passes}
use Rattle.qw_scalar.specs.Evaluation.{at_row}
use Rattle.qw_scalar.specs.Expression.{Expression}
use Rattle.qw_scalar.specs.Units.{units_of_all, units_of_items}
use Rattle.qw_feed.specs.Feeds.{spend}
use Rattle.qw_table.specs.Joins.{keyed}
use Rattle.qw_table.specs.Keys.{text_octets}
use Rattle.qw_table.specs.Tables.{in_slot}
use Rattle.qw_physical.specs.Courses.{alone_cost, by_values, met_cost, where_passed}
use Rattle.qw_physical.specs.Physical.{Operator, Pipeline, filter, probe}

-- of a row, where these values are evaluated innermost, and what is done with them takes so many
abbrev pub cost_to : (values : List Expression) → (turn : List Val → ℕ) → (built : List (List (List Val))) → List Operator → List Val → ℕ
cost_to values turn built [] row = units_of_items values (at_row row) + by_values (values_of values (at_row row)) turn
cost_to values turn built (filter conjuncts ∷ operators) row =
    units_of_all conjuncts (at_row row) + where_passed (passes conjuncts (at_row row)) (cost_to values turn built operators row)
cost_to values turn built (probe p ∷ operators) row =
    units_of_items p.key (at_row row)
    + by_values (values_of p.key (at_row row))
    (λ key. text_octets key + spend (met_cost (cost_to values turn built operators) p row key) (in_slot (keyed (length p.key)) (slot key) (get_or built p.table []))
    + alone_cost (cost_to values turn built operators) p row key (get_or built p.table []))

-- of a whole pipeline: one for each row of the scan besides
abbrev pub pipeline_cost_to : (values : List Expression) → (turn : List Val → ℕ) → (tables built : List (List (List Val))) → Pipeline → ℕ
pipeline_cost_to values turn tables built p = spend (cost_to values turn built p.operators) (entry_flow tables p.entry p.table).rows
