use Rattle.std.proofs.Common.{arith}
use Rattle.std.proofs.lemmas.Result.{err_from_is_err_and}
use Rattle.qw_typer.proofs.SourceLemmas.{source_refused}
use Rattle.qw_typer.proofs.sources.source_of.Goals as goal

pub returns-in_err-joins-clause-gives : goal.returns-in_err-joins-clause-gives
returns-in_err-joins-clause-gives c =
    let own_count = c.requires in
    let err = err_from_is_err_and c.from_residual.result c.from_residual.ensures.1 in
    rw (err.1, err.2) (source_refused c.in_err-joins.field-0.0 c.args.own.now c.args.source.now (omega (arith, own_count)) (rw c.as_slice.ensures.value at c.in_err-joins.ensures.gives))
