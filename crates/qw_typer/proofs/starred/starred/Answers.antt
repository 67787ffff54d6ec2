use Rattle.std.proofs.Common.{◌-◌, ◌∷◌, ◌∙◌, List, length, take, drop, sym, ap}
use Rattle.std.proofs.lemmas.Result.{err_from_is_err_and}
use Rattle.qw_typer.specs.declared.scope.Entry.{Entry}
use Rattle.qw_typer.specs.Inner.Typing.{as_grouping}
use Rattle.qw_typer.proofs.EntryLemmas.{head_rest}
use Rattle.qw_typer.proofs.StarredLemmas.{entry_refused}
use Rattle.qw_typer.proofs.starred.starred.Goals as goal

pub returns-in_err-push_grouped-clause-gives : goal.returns-in_err-push_grouped-clause-gives
returns-in_err-push_grouped-clause-gives c =
    let rest : List Entry = c.loop-rest.rest.now in
    let behind : List Entry = take (length rest - 1) (drop 1 rest) in
    let first = head_rest rest c.entry-item.result c.in-len1-up.len_at_least ∙ ap (λ (e : Entry). e ∷ behind) (sym c.entry-item.is) in
    let err = err_from_is_err_and c.from_residual.result c.from_residual.ensures.1 in
    rw (err.1, err.2)
    (entry_refused (as_grouping c.args.grouping.now) c.in_err-push_grouped.field-0.0 rest behind c.entry-item.result _ first c.in_err-push_grouped.ensures.gives c.loop-rest.invariant.faultless)
