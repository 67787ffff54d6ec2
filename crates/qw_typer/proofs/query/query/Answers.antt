use Rattle.std.proofs.Common.{rules, ◌≡◌, map}
use Rattle.std.proofs.lemmas.Result.{err_from_is_err_and}
use Rattle.qw_ast.specs.Limits.{entries_of}
use Rattle.qw_ast.specs.SyntaxTree as syntax
use Rattle.qw_ast.specs.SyntaxTree.{select_of}
use Rattle.qw_typer.proofs.QueryLemmas.{entries_refused, from_known}
use Rattle.qw_typer.proofs.query.query.Goals as goal

pub returns-in_err-entries-clause-means : goal.returns-in_err-entries-clause-means
returns-in_err-entries-clause-means c =
    let s = select_of c.args.statement.now in
    let named = map syntax.entry_of c.in_ok-named.named.items in
    let same : map syntax.entry_of c.in_ok-named.named.items ≡ entries_of (select_of c.args.statement.now).sources = search rules in
    let err = err_from_is_err_and c.from_residual-in_err-entries.result c.from_residual-in_err-entries.ensures.1 in
    rw (err.1, err.2) (entries_refused c.args.schema.now s named c.in_err-entries.field-0.0 same (rw (c.as_slice.ensures.same, c.as_slice-2.ensures.value) at c.in_err-entries.ensures.known))

pub over_from-requires-clause-from : goal.over_from-requires-clause-from
over_from-requires-clause-from c =
    let s = select_of c.args.statement.now in
    let named = map syntax.entry_of c.in_ok-named.named.items in
    let same : map syntax.entry_of c.in_ok-named.named.items ≡ entries_of (select_of c.args.statement.now).sources = search rules in
    rw c.as_slice-3.ensures.value (from_known c.args.schema.now s named _ same (rw (c.as_slice.ensures.same, c.as_slice-2.ensures.value) at c.in_ok-entries.ensures.known) c.in_ok-entries.ensures.tables)
