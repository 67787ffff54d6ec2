-- Which pipelines can be emitted: their expressions are typed, and take only what is known where they are evaluated.
use Rattle.std.specs.Prelude.{◌≤◌, None, List, [], ◌∷◌, ◌++◌, length, map}
use Rattle.std.specs.List.{AllByRecursion}
use Rattle.qw_types.specs.Value.{IsSized}
use Rattle.qw_scalar.specs.Expression.{Condition, Expression}
use Rattle.qw_scalar.specs.Typing.{AreTyped, HasKind, IsTyped}
use Rattle.qw_expr.specs.Bindings.{TakeKnown, TakesKnown}
use Rattle.qw_expr.specs.Computes.{Known}
use Rattle.qw_physical.specs.Courses.{column_of, sink_values}
use Rattle.qw_physical.specs.Physical.{MayBeNull, Operator, Sink, build, filter, probe, select}
use Rattle.qw_physical.specs.declared.pipeline.ReadColumn.{ReadColumn}

-- a column as something that is known, wherever it is
abbrev pub anywhere : ReadColumn → Known
anywhere c = record { expression = column_of c; operand = record { cell = record { value = 0; length = 0; null = None }; kind = None; scale = 0; most = 0 } }

abbrev pub IsTestOver : List Known → Condition → Type 0
IsTestOver known c = AreTyped c × TakeKnown known c

abbrev pub IsValueOver : List Known → Expression → Type 0
IsValueOver known e = (IsTyped e × HasKind e) × TakesKnown known e

abbrev pub AreSized : List ReadColumn → Type 0
AreSized columns = AllByRecursion (λ (c : ReadColumn). IsSized c.ty) columns

abbrev pub CanSink : Sink → Type 0
CanSink (build b) = (length b.key ≤ 1000) × (length b.kept ≤ 512) × AreSized b.kept
CanSink (select items) = length items ≤ 512

abbrev pub CanCarry : (known : List Known) → List Operator → Sink → Type 0
CanCarry known [] sink = AllByRecursion (IsValueOver known) (sink_values sink) × CanSink sink
CanCarry known (filter cs ∷ operators) sink = AllByRecursion (IsTestOver known) cs × CanCarry known operators sink
CanCarry known (probe p ∷ operators) sink =
    AllByRecursion (IsValueOver known) p.key × ((length p.key ≤ 1000) × (length p.kept ≤ 512) × AreSized p.kept × MayBeNull (probe p))
    × AllByRecursion (IsTestOver (map anywhere p.kept ++ known)) p.on × CanCarry (map anywhere p.kept ++ known) operators sink
