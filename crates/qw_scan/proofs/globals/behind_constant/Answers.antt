use Rattle.std.proofs.Common.{Err, sym, ap, ◌∙◌}
use Rattle.std.proofs.lemmas.Bool.{false≢true}
use Rattle.std.proofs.lemmas.Result.{err_from_is_err_and}
use Rattle.qw_valid.specs.declared.operands.Refusal.{Refusal}
use Rattle.qw_scan.proofs.Initials.{constant_refused, constant_mistyped, constant_ended_or}
use Rattle.qw_scan.proofs.globals.behind_constant.Goals as goal

pub returns-in_err-value : goal.returns-in_err-value
returns-in_err-value c =
    let p = err_from_is_err_and c.from_residual.result c.from_residual.ensures.1 in
    rw (p.1, p.2) (constant_refused c.args.ty c.args.octets.now c.in-len1-up.len_at_least c.in_err-value.field-0.0 (λ e v rest. c.in_err-value.ensures.none (ap (λ (r : Refusal). Err r) e) v rest))

pub returns-then-has_type : goal.returns-then-has_type
returns-then-has_type c =
    rw c.ok_or.ensures.value (constant_ended_or c.args.ty c.args.octets.now c.in-len1-up.len_at_least c.in_ok-value.value c.in_ok-value.rest.now c.behind_end.result c.in_ok-value.ensures.found c.behind_end.ensures (c.has_type.ensures.0 c.if-has_type.true))

pub returns-else-has_type : goal.returns-else-has_type
returns-else-has_type c =
    constant_mistyped c.args.ty c.args.octets.now c.in-len1-up.len_at_least c.in_ok-value.value c.in_ok-value.rest.now c.in_ok-value.ensures.found
    (λ typed. false≢true (sym c.if-has_type.false ∙ c.has_type.ensures.1 typed))
