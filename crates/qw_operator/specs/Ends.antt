-- What is innermost in a pipeline's row, apart from trees of the code: a sink takes the row, or it is put into a group of rows (ISO/IEC 9075:1992, 7.7), by a
-- table of groups or as the one group of all rows (7.8); and what the block there is.
use Rattle.std.specs.Prelude.{◌≡◌, ◌<◌, ℕ, Option, List, [], map}
use Rattle.qw_types.specs.declared.kind.Kind.{Kind}
use Rattle.qw_module.specs.declared.instruction.ValType.{ValType}
use Rattle.qw_scalar.specs.Typing.{kind_of}
use Rattle.qw_low.specs.Syntax.{Statement}
use Rattle.qw_expr.specs.Computes.{Known}
use Rattle.qw_table.specs.declared.key.Field.{Field}
use Rattle.qw_physical.specs.Coded.{sink_of}
use Rattle.qw_physical.specs.Physical.{Sink, select}
use Rattle.qw_operator.specs.Carries.{IsSunk, directory, result_kinds}
use Rattle.qw_operator.specs.Grouping.{CanGroup, Group, group_of, group_span}
use Rattle.qw_operator.specs.Puts.{IsPut}
use Rattle.qw_operator.specs.Span.{sink_span}
use Rattle.qw_operator.specs.declared.end.End as coded
use Rattle.qw_operator.specs.declared.end.End.TheVariants as ends
use Rattle.qw_operator.specs.declared.group.Place.{Place}
use Rattle.qw_operator.specs.declared.group.Place.TheVariants.{OneGroup}

pub data End : Type 0 where
  sinks : Sink → End
  puts : Group → Place → (guard : Option ℕ) → End

abbrev pub end_of : coded.End → End
end_of (ends.Sink s) = sinks (sink_of s.now)
end_of (ends.Group g place guard) = puts (group_of g.now) place guard

-- the values of a row that are evaluated there are those of this sink
abbrev pub values_sink : End → Sink
values_sink (sinks s) = s
values_sink (puts g place guard) = select g.values

-- ---- the block
-- a row's values that are put into a group are in these fields
abbrev pub IsEnded : End → (fields : List Field) → List Known → (next : ℕ) → Statement → List ValType → Type 0
IsEnded (sinks s) fields = IsSunk s
IsEnded (puts g place guard) fields = λ known next a own. IsPut place guard fields known next g a own

-- a group can be put into, where locals are free from one on
abbrev pub CanEnd : End → (free : ℕ) → Type 0
CanEnd (sinks s) free = Unit {0}
CanEnd (puts g place guard) free = CanGroup g × (place ≡ OneGroup → directory g.table < free)

-- ---- what it tells
-- the kinds of the cells that rows have in the result
abbrev pub cell_kinds : End → List (Option Kind)
cell_kinds (sinks s) = result_kinds s
cell_kinds (puts g place guard) = []

-- those of the values that are put into a group
abbrev pub value_kinds : End → List (Option Kind)
value_kinds (sinks s) = []
value_kinds (puts g place guard) = map kind_of g.values

-- ---- how long it is
abbrev pub end_span : coded.End → ℕ
end_span (ends.Sink s) = sink_span s.now
end_span (ends.Group g place guard) = group_span g.now
