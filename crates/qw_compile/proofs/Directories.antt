-- The tables of a query's pipelines have locals that lead to their directories: each pipeline builds and looks up only tables that are built.
use Rattle.std.proofs.Common.{◌≡◌, ◌≤◌, ◌<◌, ℕ, suc, ◌+◌, Some, slice_get, List, [], ◌∷◌, ◌++◌, length, length-append, refl, sym, subst, arith}
use Rattle.std.specs.List.{AllByRecursion, AllZip}
use Rattle.std.proofs.lemmas.Option.{slice_get_within}
use Rattle.qw_module.specs.declared.instruction.ValType.{ValType}
use Rattle.qw_module.specs.declared.instruction.ValType.TheVariants.{I32, I64}
use Rattle.qw_algebra.specs.Node.{Node}
use Rattle.qw_pipe.specs.Pipes as pipes
use Rattle.qw_pipe.specs.Pipes.{AreOrdered, LooksUp, make, pipelines, split, test, to_result, to_table}
use Rattle.qw_pipe.proofs.Ordering as ordering
use Rattle.qw_expr.specs.Computes.{Known}
use Rattle.qw_physical.specs.Physical.{Operator, Pipeline, Sink, build, filter, probe, select}
use Rattle.qw_physical.specs.Spelled.{IsSameOperator, IsSamePipeline, IsSameSink, all_spelled, spelled_sink, spelled_steps}
use Rattle.qw_physical.specs.declared.pipeline.ReadColumn.{ReadColumn}
use Rattle.qw_physical.proofs.Typing.{zip_all}
use Rattle.qw_operator.specs.Carries.{directory}
use Rattle.qw_operator.specs.Takes.{CanCarry, CanSink}
use Rattle.qw_operator.proofs.CarriedTyped.{AreLed, IsLed}
use Rattle.qw_compile.proofs.QueryTyped.{IsLeading}

-- ---- tables of numbers below one
abbrev pub LookBelow : ℕ → List Operator → Type 0
LookBelow T [] = Unit {0}
LookBelow T (filter cs ∷ operators) = LookBelow T operators
LookBelow T (probe p ∷ operators) = (p.table < T) × LookBelow T operators

abbrev pub SinksBelow : ℕ → Sink → Type 0
SinksBelow T (build b) = b.table < T
SinksBelow T (select items) = Unit {0}

abbrev pub IsBelow : ℕ → Pipeline → Type 0
IsBelow T p = LookBelow T p.operators × SinksBelow T p.sink

-- ---- spelled pipelines
module _ (columns : List ReadColumn) (T : ℕ) where
  steps_below : (before : List pipes.Pipeline) (steps : List pipes.Step) → length before ≤ T → AllByRecursion (LooksUp before) steps → LookBelow T (spelled_steps columns steps)
  steps_below before [] few h = tt
  steps_below before (test conjuncts ∷ steps) few h = steps_below before steps few h.1
  steps_below before (pipes.probe table lookup ∷ steps) few h =
      let there = slice_get_within before table h.0.pipeline h.0.stands in
      (omega (arith, few, there), steps_below before steps few h.1)
  steps_below before (make items ∷ steps) few h = steps_below before steps few h.1

  all_look : (before ps : List pipes.Pipeline) (next : ℕ) → length before + length ps ≤ suc T → AreOrdered before ps → AllByRecursion (λ (p : Pipeline). LookBelow T p.operators) (all_spelled columns next ps)
  all_look before [] next few h = tt
  all_look before (p ∷ ps) next few h =
      let one = length-append before (p ∷ []) in
      (steps_below before p.steps (omega (arith, few)) h.0, all_look (before ++ p ∷ []) ps (next + 1) (omega (arith, few, one)) h.1)

  -- the last one makes the result
  ends_sink : (ps : List pipes.Pipeline) (last : pipes.Pipeline) (next : ℕ) → next + length ps ≤ T → last.target ≡ to_result → AllByRecursion (λ (p : Pipeline). SinksBelow T p.sink) (all_spelled columns next (ps ++ last ∷ []))
  ends_sink [] last next few is = (subst (λ (t : pipes.Target). SinksBelow T (spelled_sink columns next last.steps t)) (sym is) tt, tt)
  ends_sink (p ∷ ps) last next few is = (one p.target (omega (arith, few)), ends_sink ps last (next + 1) (omega (arith, few)) is)
    where
      one : (t : pipes.Target) → next < T → SinksBelow T (spelled_sink columns next p.steps t)
      one (to_table lookup) low = low
      one to_result low = tt

-- ---- pipelines that mean the same
same_look : (T : ℕ) (os rs : List Operator) → AllZip IsSameOperator os rs → LookBelow T os → LookBelow T rs
same_look T [] [] z h = tt
same_look T [] (r ∷ rs) z h = absurd z
same_look T (o ∷ os) [] z h = absurd z
same_look T (filter cs ∷ os) (filter ds ∷ rs) z h = same_look T os rs z.1 h
same_look T (filter cs ∷ os) (probe q ∷ rs) z h = absurd z.0
same_look T (probe p ∷ os) (filter ds ∷ rs) z h = absurd z.0
same_look T (probe p ∷ os) (probe q ∷ rs) z h = (subst (λ (n : ℕ). n < T) z.0.table h.0, same_look T os rs z.1 h.1)

same_sink : (T : ℕ) (s t : Sink) → IsSameSink s t → SinksBelow T s → SinksBelow T t
same_sink T (build b) (build c) z h = subst (λ (n : ℕ). n < T) z.table h
same_sink T (build b) (select others) z h = absurd z
same_sink T (select items) (build c) z h = absurd z
same_sink T (select items) (select others) z h = tt

both : (P Q : Pipeline → Type 0) (ps : List Pipeline) → AllByRecursion P ps → AllByRecursion Q ps → AllByRecursion (λ p. P p × Q p) ps
both P Q [] h g = tt
both P Q (p ∷ ps) h g = ((h.0, g.0), both P Q ps h.1 g.1)

-- of a plan's pipelines, of which there is one more than tables
pub all_below : (columns : List ReadColumn) (node : Node) (T : ℕ) (ps : List Pipeline) → length (pipelines node) ≡ suc T → AllZip IsSamePipeline (all_spelled columns 0 (pipelines node)) ps → AllByRecursion (IsBelow T) ps
all_below columns node T ps many same =
    let few = length-append (split 0 node).builds ((split 0 node).last ∷ []) in
    zip_all IsSamePipeline (IsBelow T) (IsBelow T) (λ p q z h. (same_look T p.operators q.operators z.operators h.0, same_sink T p.sink q.sink z.sink h.1)) (all_spelled columns 0 (pipelines node)) ps same
    (both (λ (p : Pipeline). LookBelow T p.operators) (λ (p : Pipeline). SinksBelow T p.sink) (all_spelled columns 0 (pipelines node))
    (all_look columns T [] (pipelines node) 0 (omega (arith, many)) (ordering.ordered node))
    (ends_sink columns T (split 0 node).builds (split 0 node).last 0 (omega (arith, many, few)) (ordering.in_order node 0 [] refl).target))

-- ---- the locals that lead to them
module _ (types : List ValType) (T : ℕ) (directories : (t : ℕ) → t < T → slice_get types (directory t) ≡ Some I32) (third : slice_get types 3 ≡ Some I32) (fourth : slice_get types 4 ≡ Some I64) where
  looks_led : (operators : List Operator) → LookBelow T operators → AreLed types operators
  looks_led [] h = tt
  looks_led (filter cs ∷ operators) h = looks_led operators h
  looks_led (probe p ∷ operators) h = (directories p.table h.0, looks_led operators h.1)

  sink_led : (s : Sink) → SinksBelow T s → IsLed types s
  sink_led (build b) h = directories b.table h
  sink_led (select items) h = (third, fourth)

  carry_sinks : (operators : List Operator) (sink : Sink) (known : List Known) → CanCarry known operators sink → CanSink sink
  carry_sinks [] sink known h = h.1
  carry_sinks (filter cs ∷ operators) sink known h = carry_sinks operators sink known h.1
  carry_sinks (probe p ∷ operators) sink known h = carry_sinks operators sink _ h.3

  pub leading : (known : List Known) (p : Pipeline) → IsBelow T p → CanCarry known p.operators p.sink → IsLeading types p
  leading known p low can = (looks_led p.operators low.0, sink_led p.sink low.1, carry_sinks p.operators p.sink known can)
