use Rattle.qw_top.specs.Inner.Queries.{asked_of}
use Rattle.qw_top.proofs.top.layout.layout_of_statement.Goals as goal

pub returns-clause-written : goal.returns-clause-written
returns-clause-written g c = (c.in_ok-found.found.schema, asked_of c.in_ok-found.found.query, c.in_ok-found.ensures.found, c.in_ok-layout_of.ensures)
