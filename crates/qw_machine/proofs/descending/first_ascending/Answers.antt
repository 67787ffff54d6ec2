use Rattle.std.proofs.Common.{◌≡◌, ◌+◌, ◌<◌, List, length, get_or, ap, subst, ◌∙◌, arith}
use Rattle.std.specs.List.{filter_map}
use Rattle.qw_module.specs.declared.module.Function.{Function}
use Rattle.qw_module.specs.declared.module.Import.{Import}
use Rattle.qw_module.specs.Validity.{imported_function, imported_functions}
use Rattle.qw_machine.proofs.Descents.{ascends, next_descends, first_of, all_descend}
use Rattle.qw_machine.proofs.descending.first_ascending.Goals as goal
use Rattle.qw_machine.proofs.descending.first_ascending.Goals.{After-body_calls_below}

-- the function that is looked at, and how many are imported before the module's own
here : (c : After-body_calls_below) → let functions = c.args.module.now.functions.items in
    (c.loop-number.number < length functions) × (c.function-item.result ≡ get_or functions c.loop-number.number c.function-item.result)
    × (c.imported_functions-imported.result ≡ length (imported_functions c.args.module.now))
here c = (
  subst (λ (xs : List Function). c.loop-number.number < length xs) c.deref-function-items.ensures.value c.loop-number-test.true,
  subst (λ (xs : List Function). c.function-item.result ≡ get_or xs c.loop-number.number c.function-item.result) c.deref-function-items.ensures.value c.function-item.is,
  c.imported_functions-imported.ensures.count ∙ ap (λ (imports : List Import). length (filter_map imported_function imports)) c.deref.ensures.value,
)

pub returns-then-not-body_calls_below-clause-first : goal.returns-then-not-body_calls_below-clause-first
returns-then-not-body_calls_below-clause-first c =
    let m = c.args.module.now in
    let f = c.function-item.result in
    let number = c.loop-number.number in
    let func = c.imported_functions-imported.result + number in
    let is = here (goal.at.returns-then-not-body_calls_below-clause-first c).After-body_calls_below in
    let func_is = ap (λ n. n + number) is.2 in
    first_of m number func f is.0 is.1 func_is
    (ascends m number func f c.deref-in-loop-number.result.now c.body_calls_below.result c.deref-in-loop-number.ensures.value func_is c.if-not-body_calls_below.true c.body_calls_below.ensures.1)
    c.loop-number.invariant

pub loop-number-preserved : goal.loop-number-preserved
loop-number-preserved c =
    let number = c.loop-number.number in
    let is = here (goal.at.loop-number-preserved c).After-body_calls_below in
    next_descends c.args.module.now number (c.imported_functions-imported.result + number) c.function-item.result c.deref-in-loop-number.result.now c.deref-in-loop-number.ensures.value
    (ap (λ n. n + number) is.2) is.0 is.1 (c.body_calls_below.ensures.0 c.if-not-body_calls_below.false) c.loop-number.invariant

pub returns-clause-none : goal.returns-clause-none
returns-clause-none c =
    let m = c.args.module.now in
    let long = ap (λ (xs : List Function). length xs) c.deref-function-items.ensures.value in
    all_descend m c.loop-number.number (omega (arith, long, c.loop-number-test.false)) c.loop-number.invariant
