-- What the worked cases of what is innermost are of: the rows that COUNT(*) without GROUP BY counts, and select lists.
use Rattle.std.specs.Prelude.{pos, None, [], ◌∷◌}
use Rattle.qw_scalar.specs.Expression.{number}
use Rattle.qw_grouped.specs.declared.set_function.SetFunctionKind.TheVariants.{CountRows}
use Rattle.qw_physical.specs.Physical.{select}
use Rattle.qw_operator.specs.Ends.{End, puts, sinks}
use Rattle.qw_operator.specs.Grouping.{Group}
use Rattle.qw_operator.specs.declared.group.Place.TheVariants.{OneGroup, Table}

-- the one group of all rows, to whose areas the local of table 2 leads: the argument of COUNT(*) is the number 1
abbrev pub counted : Group
counted = record { table = 2; columns = 0; functions = CountRows ∷ []; values = number (pos 1) 0 ∷ [] }

abbrev pub count_all : End
count_all = puts counted OneGroup None

-- the same in a table of groups
abbrev pub count_each : End
count_each = puts counted Table None

-- a select list of a number with two digits behind the point
abbrev pub show_price : End
show_price = sinks (select (number (pos 350) 2 ∷ []))
