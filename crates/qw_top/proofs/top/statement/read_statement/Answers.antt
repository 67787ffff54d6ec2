use Rattle.std.proofs.Common.{◌≡◌, ◌<◌, ◌-◌, Some, inl, length, map, refl}
use Rattle.std.specs.Prelude.{slice_get}
use Rattle.std.proofs.lemmas.List.{length-map}
use Rattle.std.proofs.lemmas.Option.{slice_get-map}
use Rattle.std.proofs.lemmas.Result.{err_from_is_err_and}
use Rattle.qw_command_line.specs.Read.{texts_of}
use Rattle.qw_top.specs.Inner.Queries.{IsOver, asked_of}
use Rattle.qw_top.proofs.AskingLemmas.{text_asked, texts_asked}
use Rattle.qw_top.proofs.CommandLemmas.{compile_stops, no_statement_stops, statement_found}
use Rattle.qw_top.proofs.EachLemmas.{all_at}
use Rattle.qw_top.proofs.top.statement.read_statement.Goals as goal

pub returns-in_err-queries-clause-stops : goal.returns-in_err-queries-clause-stops
returns-in_err-queries-clause-stops g c =
    let p = err_from_is_err_and c.from_residual-in_err-queries.result c.from_residual-in_err-queries.ensures.1 in
    rw (p.1, p.2)
    (compile_stops (g.F.Shelf.files c.args.files.now) (texts_of c.args.names.now) c.args.names.now.statement (g.F.Shelf.files c.read_schema.new.files) c.in_ok-schema.schema _
    c.in_ok-schema.ensures.shelf.same_files c.in_ok-schema.ensures.accepted c.in_err-queries.ensures.stops)

pub returns-in-Some-clause-found : goal.returns-in-Some-clause-found
returns-in-Some-clause-found g c =
    let k = c.args.names.now.statement in
    let queries = c.in_ok-queries.queries.items in
    let query = c.in-Some.query in
    let asked : slice_get (map asked_of queries) (k - 1) ≡ Some (asked_of query) = rw (slice_get-map asked_of queries (k - 1), c.in-Some.ensures.there) refl in
    statement_found (g.F.Shelf.files c.args.files.now) (texts_of c.args.names.now) k (g.F.Shelf.files c.read_schema.new.files) c.in_ok-schema.schema (map asked_of queries) (asked_of query)
    c.in_ok-schema.ensures.shelf.same_files c.in_ok-schema.ensures.accepted c.in_ok-queries.ensures.accepted asked

pub returns-in-Some-clause-over : goal.returns-in-Some-clause-over
returns-in-Some-clause-over g c =
    all_at (IsOver c.in_ok-schema.schema) c.in_ok-queries.queries.items (c.args.names.now.statement - 1) c.in-Some.query c.in_ok-queries.ensures.over c.in-Some.ensures.there

pub returns-clause-stops : goal.returns-clause-stops
returns-clause-stops g c =
    let k = c.args.names.now.statement in
    let queries = c.in_ok-queries.queries.items in
    let few : length queries < k = c.in-None.ensures.missing refl in
    let missing : length (map asked_of queries) < k = rw (length-map queries asked_of) few in
    no_statement_stops (g.F.Shelf.files c.args.files.now) (texts_of c.args.names.now) k (g.F.Shelf.files c.read_schema.new.files) c.in_ok-schema.schema (map asked_of queries) c.refused.result
    c.in_ok-schema.ensures.shelf.same_files c.in_ok-schema.ensures.accepted c.in_ok-queries.ensures.accepted missing c.refused.ensures

pub returns-in_err-schema-clause-within : goal.returns-in_err-schema-clause-within
returns-in_err-schema-clause-within g c = text_asked _ _ c.args.names.now.schema.now _ _ (inl refl) c.in_err-schema.ensures.within

pub returns-in_err-queries-clause-within : goal.returns-in_err-queries-clause-within
returns-in_err-queries-clause-within g c = texts_asked _ _ _ _ _ c.in_ok-schema.ensures.within c.in_err-queries.ensures.within

pub returns-in-Some-clause-within : goal.returns-in-Some-clause-within
returns-in-Some-clause-within g c = texts_asked _ _ _ _ _ c.in_ok-schema.ensures.within c.in_ok-queries.ensures.within

pub returns-clause-within : goal.returns-clause-within
returns-clause-within g c = texts_asked _ _ _ _ _ c.in_ok-schema.ensures.within c.in_ok-queries.ensures.within
