use Rattle.std.proofs.Common.{rules, ◌≡◌, ◌-◌, [], ◌∷◌, ◌++◌, length, take, drop}
use Rattle.std.proofs.lemmas.Result.{err_from_is_err_and}
use Rattle.qw_typer.specs.Inner.Typing.{as_entries}
use Rattle.qw_typer.proofs.EntryLemmas.{head_rest}
use Rattle.qw_typer.proofs.GroupingLemmas.{columns_end, columns_kept, columns_refused}
use Rattle.qw_typer.proofs.grouping.columns.Goals as goal

pub returns-in_err-grouped : goal.returns-in_err-grouped
returns-in_err-grouped c =
    let rest = c.loop-rest.rest.now in
    let err = err_from_is_err_and c.from_residual.result c.from_residual.ensures.1 in
    rw (err.1, err.2)
    (columns_refused c.in_err-grouped.field-0.0 (as_entries c.args.entries.now) c.loop-rest.made.items rest (take (length rest - 1) (drop 1 rest)) _ _ (head_rest rest _ c.in-len1-up.len_at_least)
    c.loop-rest.invariant c.in_err-grouped.ensures)

pub loop-rest-preserved : goal.loop-rest-preserved
loop-rest-preserved c =
    let rest = c.loop-rest.rest.now in
    let more : c.push.new.self.items ≡ c.loop-rest.made.items ++ c.in_ok-grouped.grouped ∷ [] = search rules in
    columns_kept (as_entries c.args.entries.now) c.loop-rest.made.items c.push.new.self.items c.in_ok-grouped.grouped rest (take (length rest - 1) (drop 1 rest)) _ _ c.in_ok-grouped.ensures more (head_rest rest _ c.in-len1-up.len_at_least)
    c.loop-rest.invariant

pub returns : goal.returns
returns c = columns_end (as_entries c.args.entries.now) c.loop-rest.made.items c.loop-rest.rest.now _ c.in_default.len_below c.loop-rest.invariant
