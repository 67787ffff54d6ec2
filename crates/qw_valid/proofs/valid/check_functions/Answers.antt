use Rattle.std.proofs.Common.{◌≡◌, ◌+◌, ◌<◌, get_or, List, All, length, ap, sym, subst, ◌∙◌}
use Rattle.qw_module.specs.declared.module.Function.{Function}
use Rattle.std.specs.List.{filter_map}
use Rattle.qw_module.specs.declared.module.Import.{Import}
use Rattle.qw_module.specs.Validity.{imported_function, imported_functions}
use Rattle.qw_valid.specs.declared.valid.Part.TheVariants as part
use Rattle.qw_valid.specs.ValidFaults.{HasBody}
use Rattle.qw_valid.proofs.Faults.{fault_is}
use Rattle.qw_valid.proofs.valid.check_functions.Goals as goal

pub check_function-requires-clause-body : goal.check_function-requires-clause-body
check_function-requires-clause-body c =
    let m = c.args.module.now in
    let all = subst (λ (xs : List Function). All (HasBody m) xs) (sym c.deref-function-items.ensures.value) (c.requires part.Functions) in
    subst (HasBody m) (sym c.function-item.is) (all c.loop-number.number c.function-item.result c.loop-number-test.true)

pub returns-in-Err-clause-fault : goal.returns-in-Err-clause-fault
returns-in-Err-clause-fault c =
    let m = c.args.module.now in
    let f = c.function-item.result in
    let within = subst (λ (xs : List Function). c.loop-number.number < length xs) c.deref-function-items.ensures.value c.loop-number-test.true in
    let is = subst (λ (xs : List Function). f ≡ get_or xs c.loop-number.number f) c.deref-function-items.ensures.value c.function-item.is in
    let imported : c.imported_functions-imported.result ≡ length (imported_functions m) =
    c.imported_functions-imported.ensures.count ∙ ap (λ (imports : List Import). length (filter_map imported_function imports)) c.deref.ensures.value in
    fault_is c.check_function.result _ m c.loop-number.number (c.imported_functions-imported.result + c.loop-number.number) f c.fault_in.result c.in-Err.is c.requires within is
    (ap (λ n. n + c.loop-number.number) imported) c.loop-number.invariant c.check_function.ensures.refused c.fault_in.ensures
