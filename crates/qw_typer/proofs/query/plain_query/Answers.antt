use Rattle.std.proofs.Common.{refl}
use Rattle.std.proofs.lemmas.Result.{err_from_is_err_and}
use Rattle.qw_ast.specs.Limits.{entries_of}
use Rattle.qw_ast.specs.SyntaxTree.{select_of}
use Rattle.qw_typer.specs.Inner.Queries.{parts_of}
use Rattle.qw_typer.specs.Inner.Typing.{as_entries}
use Rattle.qw_typer.proofs.QueryLemmas.{as_many, few_columns, keys_refused, over_refused, plain_items, query_means, query_specified}
use Rattle.qw_typer.proofs.query.plain_query.Goals as goal

pub over_entries-requires : goal.over_entries-requires
over_entries-requires c =
    let s = select_of c.args.statement.now in
    as_many c.args.schema.now s (entries_of s.sources) c.args.entries.now refl (c.requires.from.faultless, c.requires.from.are)

pub returns-in_err-over-clause-means : goal.returns-in_err-over-clause-means
returns-in_err-over-clause-means c =
    let s = select_of c.args.statement.now in
    let err = err_from_is_err_and c.from_residual.result c.from_residual.ensures.1 in
    rw (err.1, err.2)
    (over_refused c.args.schema.now s (entries_of s.sources) (as_entries c.args.entries.now) c.in_err-over.field-0.0 c.requires.plain refl (c.requires.from.faultless, c.requires.from.are) c.in_err-over.ensures.gives)

pub returns-in_err-keys-clause-means : goal.returns-in_err-keys-clause-means
returns-in_err-keys-clause-means c =
    let s = select_of c.args.statement.now in
    let err = err_from_is_err_and c.from_residual-in_err-keys.result c.from_residual-in_err-keys.ensures.1 in
    rw (err.1, err.2)
    (keys_refused c.args.schema.now s (entries_of s.sources) (as_entries c.args.entries.now) (parts_of c.in_ok-over.over) c.in_ok-over.over.names.items c.in_err-keys.field-0.0 c.requires.plain refl
    (c.requires.from.faultless, c.requires.from.are) c.in_ok-over.ensures.gives.0 c.in_ok-over.ensures.gives.1 (rw c.as_slice.ensures.value at c.in_err-keys.ensures))

pub new-plain-requires : goal.new-plain-requires
new-plain-requires c =
    let s = select_of c.args.statement.now in
    query_specified c.args.schema.now s (entries_of s.sources) (as_entries c.args.entries.now) (parts_of c.in_ok-over.over) c.requires.plain refl (c.requires.from.faultless, c.requires.from.are) c.requires.from.tables c.requires.within
    c.in_ok-over.ensures.gives.0

pub returns-clause-means : goal.returns-clause-means
returns-clause-means c =
    let s = select_of c.args.statement.now in
    rw c.new-plain.ensures
    (query_means c.args.schema.now s (entries_of s.sources) (as_entries c.args.entries.now) (parts_of c.in_ok-over.over) c.in_ok-over.over.names.items c.in_ok-keys.keys.items c.requires.plain refl
    (c.requires.from.faultless, c.requires.from.are) c.in_ok-over.ensures.gives.0 c.in_ok-over.ensures.gives.1 (rw c.as_slice.ensures.value at c.in_ok-keys.ensures))

pub returns-clause-fits : goal.returns-clause-fits
returns-clause-fits c =
    let s = select_of c.args.statement.now in
    let few = few_columns c.args.schema.now s (entries_of s.sources) (as_entries c.args.entries.now) refl (c.requires.from.faultless, c.requires.from.are) c.requires.from.tables c.requires.within in
    rw c.new-plain.ensures (
      c.in_ok-over.ensures.fits few,
      plain_items c.args.schema.now s (entries_of s.sources) (as_entries c.args.entries.now) (parts_of c.in_ok-over.over) c.requires.plain refl (c.requires.from.faultless, c.requires.from.are) c.requires.from.tables
          c.requires.within c.in_ok-over.ensures.gives.0,
    )
