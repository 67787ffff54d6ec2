use Rattle.qw_command_line.specs.Read.{texts_of}
use Rattle.qw_top.specs.Inner.Queries.{asked_of}
use Rattle.qw_top.proofs.CommandLemmas.{statement_compiled}
use Rattle.qw_top.proofs.top.compile.octets_of_statement.Goals as goal

pub returns-clause-written : goal.returns-clause-written
returns-clause-written g c =
    statement_compiled (g.F.Shelf.files c.args.files.now) (texts_of c.args.names.now) c.args.names.now.statement c.in_ok-found.found.schema (asked_of c.in_ok-found.found.query)
    c.in_ok-octets_of.field-0.items c.in_ok-found.ensures.found c.in_ok-octets_of.ensures
