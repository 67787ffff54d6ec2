-- Pipelines whose expressions are typed: what spelling them out takes, and what it gives (ISO/IEC 9075:1992, 6.11, 8.2, 8.12).
use Rattle.std.specs.List.{AllByRecursion}
use Rattle.qw_scalar.specs.Expression.{Condition, Expression}
use Rattle.qw_scalar.specs.Typing.{AreTyped, HasKind, IsTyped}
use Rattle.qw_leaves.specs.Compared.{Compared, compared_in}
use Rattle.std.specs.Prelude.{List, Option, Some, None}
use Rattle.qw_algebra.specs.Columns.{entries_below}
use Rattle.qw_algebra.specs.Node.{Node, scan, filter as filter_by, join, project}
use Rattle.qw_pipe.specs.Pipes as pipes
use Rattle.qw_pipe.specs.Pipes.{Lookup, make, test, to_result, to_table}
use Rattle.qw_pipe.specs.Units.{equalities}
use Rattle.qw_physical.specs.Physical.{Operator, Pipeline, Sink, build, filter, probe, select}

-- a condition that compares
abbrev pub Compares : Option Compared → Type 0
Compares None = ⊥
Compares (Some k) = Unit {0}

abbrev pub IsComparison : Condition → Type 0
IsComparison c = Compares (compared_in c)

-- typed, and not null alone
abbrev pub IsValued : Expression → Type 0
IsValued e = IsTyped e × HasKind e

-- ---- of plans
-- the conjuncts of ON are typed, and each that is a key is a comparison
pub record IsTypedLookup (lookup : Lookup) : Type 0 where
  pub on : AllByRecursion AreTyped lookup.on
  pub keys : AllByRecursion IsComparison (equalities lookup)

abbrev pub IsTypedStep : pipes.Step → Type 0
IsTypedStep (test conjuncts) = AllByRecursion AreTyped conjuncts
IsTypedStep (pipes.probe table lookup) = IsTypedLookup lookup
IsTypedStep (make items) = AllByRecursion IsValued items

abbrev pub IsTypedTarget : pipes.Target → Type 0
IsTypedTarget (to_table lookup) = IsTypedLookup lookup
IsTypedTarget to_result = Unit {0}

pub record IsTypedPipeline (p : pipes.Pipeline) : Type 0 where
  pub steps : AllByRecursion IsTypedStep p.steps
  pub target : IsTypedTarget p.target

abbrev pub AreTypedPipelines : List pipes.Pipeline → Type 0
AreTypedPipelines ps = AllByRecursion IsTypedPipeline ps

-- each join's conjuncts, each filter's and each select list of a plan
abbrev pub IsTypedNode : Node → Type 0
IsTypedNode (scan entry table) = Unit {0}
IsTypedNode (filter_by conjuncts below) = AllByRecursion AreTyped conjuncts × IsTypedNode below
IsTypedNode (join outer left right on keys) =
    IsTypedLookup (record { entries = entries_below right; outer = outer; on = on; keys = keys }) × (IsTypedNode left × IsTypedNode right)
IsTypedNode (project below items) = AllByRecursion IsValued items × IsTypedNode below

-- ---- spelled out
abbrev pub IsTypedOperator : Operator → Type 0
IsTypedOperator (filter conjuncts) = AllByRecursion AreTyped conjuncts
IsTypedOperator (probe p) = AllByRecursion IsValued p.key × AllByRecursion AreTyped p.on

abbrev pub IsTypedSink : Sink → Type 0
IsTypedSink (build b) = AllByRecursion IsValued b.key
IsTypedSink (select items) = AllByRecursion IsValued items

pub record IsTypedPhysical (p : Pipeline) : Type 0 where
  pub operators : AllByRecursion IsTypedOperator p.operators
  pub sink : IsTypedSink p.sink
