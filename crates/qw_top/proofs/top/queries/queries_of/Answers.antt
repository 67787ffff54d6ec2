use Rattle.qw_ast.specs.SyntaxTree.{selects_of}
use Rattle.qw_top.proofs.QueryLemmas.{all_over, asks_for, few_queries, some_queries}
use Rattle.qw_top.proofs.top.queries.queries_of.Goals as goal

pub returns-in-Ok-type_script-clause-asks : goal.returns-in-Ok-type_script-clause-asks
returns-in-Ok-type_script-clause-asks c =
    asks_for c.args.schema.now c.args.text.now (selects_of c.in-Ok.script) c.in-Ok-type_script.queries.items c.in-Ok.ensures.script c.in-Ok-type_script.ensures.meanings

pub returns-in-Ok-type_script-clause-over : goal.returns-in-Ok-type_script-clause-over
returns-in-Ok-type_script-clause-over c =
    all_over c.args.schema.now (selects_of c.in-Ok.script) c.in-Ok-type_script.queries.items c.in-Ok-type_script.ensures.meanings c.in-Ok-type_script.ensures.small

pub returns-in-Ok-type_script-clause-some : goal.returns-in-Ok-type_script-clause-some
returns-in-Ok-type_script-clause-some c =
    some_queries c.args.schema.now c.args.text.now (selects_of c.in-Ok.script) c.in-Ok-type_script.queries.items c.in-Ok.ensures.script c.in-Ok-type_script.ensures.meanings

pub returns-in-Ok-type_script-clause-few : goal.returns-in-Ok-type_script-clause-few
returns-in-Ok-type_script-clause-few c =
    few_queries c.args.schema.now c.args.text.now (selects_of c.in-Ok.script) c.in-Ok-type_script.queries.items c.in-Ok.ensures.script c.in-Ok-type_script.ensures.meanings
