use Rattle.std.proofs.Common.{get_or, arith}
use Rattle.std.proofs.lemmas.Result.{err_from_is_err_and}
use Rattle.qw_octet_grammar.proofs.NumberFacts.{more_fails, seven_more, within_64}
use Rattle.qw_octet_grammar.proofs.numbers.+leb_at.Goals as goal

pub returns-in_err-high-in-len1-up-clause-exact : goal.returns-in_err-high-in-len1-up-clause-exact
returns-in_err-high-in-len1-up-clause-exact t c =
    let p = err_from_is_err_and c.from_residual-in_err-high-in-len1-up.result c.from_residual-in_err-high-in-len1-up.ensures.1 in
    rw (p.1, p.2) (more_fails c.args.signed c.args.most c.args.bits c.args.octets.now c.in_err-high-in-len1-up.field-0.0 (omega (arith, c.if-most-eq0.false)) c.in-len1-up.len_at_least c.if-octet-lt128.false c.in_err-high-in-len1-up.ensures.exact)

sum_fits : goal.returns-in_ok-high-in-len1-up-clause-fits
sum_fits t c = seven_more c.args.bits c.in_ok-high-in-len1-up.high (get_or c.args.octets.now 0 0) (omega (arith, c.requires, c.if-most-eq0.false, c.if-most-eq1.false)) c.in_ok-high-in-len1-up.ensures.fits (omega (arith, c.type_inv.octets 0))

pub overflow_mul-result : goal.overflow_mul-result
overflow_mul-result t c = omega (arith, within_64 c.args.bits _ (omega (arith, c.requires)) (sum_fits t c))

pub overflow_add-result : goal.overflow_add-result
overflow_add-result t c = omega (arith, within_64 c.args.bits _ (omega (arith, c.requires)) (sum_fits t c))

pub returns-in_ok-high-in-len1-up-clause-fits : goal.returns-in_ok-high-in-len1-up-clause-fits
returns-in_ok-high-in-len1-up-clause-fits = sum_fits
