use Rattle.std.proofs.Common.{List, map, sym, ◌∙◌}
use Rattle.std.proofs.lemmas.Result.{err_from_is_err_and}
use Rattle.qw_module.specs.declared.instruction.ValType.{ValType}
use Rattle.qw_module.specs.Typing.{types_of}
use Rattle.qw_valid.specs.Inner.Checking.{taken_in}
use Rattle.qw_scan.specs.declared.body.Walk.{Walk}
use Rattle.qw_scan.specs.Inner.Walking.{around_in}
use Rattle.qw_scan.proofs.Labels.{decides_first, decides_next, decides_differs, decides_done, alike_by, label_refused}
use Rattle.qw_scan.proofs.body.Walk.each_takes.Goals as goal

abbrev labels_of : Walk → List (List ValType)
labels_of w = map taken_in (around_in w)

pub loop-init : goal.loop-init
loop-init c = decides_first (labels_of c.args.self.now) (types_of c.args.taken) c.args.count c.args.octets.now

pub returns-in_err-found : goal.returns-in_err-found
returns-in_err-found c = λ labels mid e.
    let p = err_from_is_err_and c.from_residual.result c.from_residual.ensures.1 in
    rw (p.1, p.2) (label_refused c.in_err-found.field-0.0 (labels_of c.args.self.now) (types_of c.args.taken) c.args.count c.loop.counter c.in-Ok.label c.args.octets.now c.loop.rest.now c.in-Ok.after.now
    c.loop-test.true c.in-Ok.ensures c.loop.invariant c.in_err-found.ensures labels mid e)

pub returns-else-are_alike : goal.returns-else-are_alike
returns-else-are_alike c =
    let labels = labels_of c.args.self.now in
    let taken = types_of c.args.taken in
    decides_differs labels taken c.args.count c.args.octets.now c.loop.counter c.in-Ok.label c.loop.rest.now c.in-Ok.after.now c.loop-test.true c.in-Ok.ensures c.loop.invariant
    (alike_by labels c.in-Ok.label (types_of c.in_ok-found.found) taken _ c.in_ok-found.ensures (sym c.are_alike.ensures ∙ c.if-are_alike.false))

pub loop-preserved : goal.loop-preserved
loop-preserved c =
    let labels = labels_of c.args.self.now in
    let taken = types_of c.args.taken in
    decides_next labels taken c.args.count c.args.octets.now c.loop.counter c.in-Ok.label c.loop.rest.now c.in-Ok.after.now c.loop-test.true c.in-Ok.ensures c.loop.invariant
    (alike_by labels c.in-Ok.label (types_of c.in_ok-found.found) taken _ c.in_ok-found.ensures (sym c.are_alike.ensures ∙ c.if-are_alike.true))

pub returns : goal.returns
returns c = decides_done (labels_of c.args.self.now) (types_of c.args.taken) c.args.count c.args.octets.now c.loop.counter c.loop.rest.now c.loop-test.false c.loop.invariant
