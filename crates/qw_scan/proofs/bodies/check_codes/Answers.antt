use Rattle.std.proofs.Common.{ℕ, List, Bor, Result, Err, refl, rules}
use Rattle.qw_scan.specs.declared.body.BodyFault.{BodyFault}
use Rattle.qw_scan.specs.Inner.Bodies.{outside_in}
use Rattle.qw_scan.proofs.CodeLemmas.{typed_first, typed_all, typed_next, fault_next}
use Rattle.qw_scan.proofs.bodies.check_codes.Goals as goal

pub loop-number-init : goal.loop-number-init
loop-number-init c = typed_first (outside_in c.args.module_scope) c.args.module_scope.types.now c.args.own.now c.args.octets.now

pub returns-in-Err : goal.returns-in-Err
returns-in-Err c =
    let answer : Result (Bor (List ℕ)) BodyFault = Err c.in-Err.fault in
    fault_next (outside_in c.args.module_scope) c.args.module_scope.types.now c.args.own.now c.args.octets.now c.loop-number.number _ c.loop-number.rest.now c.loop-number-test.true (search rules) c.loop-number.invariant
    answer c.in-Err.ensures.judges c.args.imported c.in-Err.fault c.fault_in.result refl c.fault_in.ensures

pub loop-number-preserved : goal.loop-number-preserved
loop-number-preserved c =
    typed_next (outside_in c.args.module_scope) c.args.module_scope.types.now c.args.own.now c.args.octets.now c.loop-number.number _ c.loop-number.rest.now c.loop-number-test.true (search rules) c.loop-number.invariant
    _ c.in-Ok.ensures.judges c.in-Ok.after c.in-Ok.after.now refl c.in-Ok.ensures.behind

pub returns : goal.returns
returns c = typed_all (outside_in c.args.module_scope) c.args.module_scope.types.now c.args.own.now c.args.octets.now c.loop-number.number c.loop-number.rest.now c.loop-number-test.false c.loop-number.invariant
