use Rattle.std.proofs.Common.{rules, arith, ◌≡◌, ◌+◌, ◌-◌, ◌<◌, length, take, drop}
use Rattle.std.proofs.lemmas.Result.{err_from_is_err_and}
use Rattle.qw_typer.proofs.SourceLemmas.{joins_refused}
use Rattle.qw_typer.proofs.StepLemmas.{first_rest}
use Rattle.qw_typer.proofs.sources.joins.Goals as goal

pub returns-in_err-typed-clause-gives : goal.returns-in_err-typed-clause-gives
returns-in_err-typed-clause-gives c =
    let rest = c.loop-rest.rest.now in
    let first = first_rest rest c.join-item.result c.join-item.is c.in-len1-up.len_at_least in
    let number : c.len-number.result + 1 ≡ length c.loop-rest.made.items + 1 = search rules in
    let behind = c.in-len1-up.len_at_least in
    let counts = c.loop-rest.invariant.counts in
    let own_count = c.requires in
    let before : c.len-number.result + 1 < length c.args.own.now = omega (arith, number, behind, counts, own_count) in
    let err = err_from_is_err_and c.from_residual.result c.from_residual.ensures.1 in
    rw (err.1, err.2)
    (joins_refused c.in_err-typed.field-0.0 c.args.own.now (c.len-number.result + 1) c.index-own-number.result c.loop-rest.made.items rest (take (length rest - 1) (drop 1 rest)) c.join-item.result _ number before c.index-own-number.is first
    c.loop-rest.invariant.meant c.in_err-typed.ensures.gives)
