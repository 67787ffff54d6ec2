use Rattle.std.proofs.lemmas.Result.{err_from_is_err_and}
use Rattle.qw_valid.proofs.Faults.{fault_invalid}
use Rattle.qw_valid.proofs.valid.validate.Goals as goal

pub returns-in_err-check-clause-invalid : goal.returns-in_err-check-clause-invalid
returns-in_err-check-clause-invalid c =
    let p = err_from_is_err_and c.from_residual.result c.from_residual.ensures.1 in
    rw (p.1, p.2) (λ other valid. fault_invalid c.in_err-check.field-0.0 c.args.module c.in_err-check.ensures.fault other valid)
