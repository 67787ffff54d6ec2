-- The well placed plan of a whole query (ISO/IEC 9075:1992, 7.5, 7.6): that of its query specification, with each conjunct at its place and each join by
-- its keys, under the same stages.
use Rattle.std.specs.Prelude.{true, []}
use Rattle.qw_rewrite.specs.Probe.{keyed}
use Rattle.qw_rewrite.specs.Sift.{sifted}
use Rattle.qw_plan.specs.Plan.{Plan, rows, stage}

abbrev pub placed_plan : Plan → Plan
placed_plan (rows node) = rows (keyed true (sifted true [] node))
placed_plan (stage s below) = stage s (placed_plan below)
