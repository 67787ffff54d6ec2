use Rattle.std.proofs.Common.{◌-◌, length, take, drop}
use Rattle.qw_ast.specs.SyntaxTree.{octets_of}
use Rattle.qw_typer.proofs.ScopeLemmas.{found_kept}
use Rattle.qw_typer.proofs.StepLemmas.{first_rest}
use Rattle.qw_typer.proofs.scope.referred.Goals as goal

pub loop-rest-preserved : goal.loop-rest-preserved
loop-rest-preserved c =
    let rest = c.loop-rest.rest.now in
    found_kept (octets_of c.args.qualifier) c.args.name.now c.loop-rest.found c.with-found.result c.in_entry.result rest (take (length rest - 1) (drop 1 rest)) c.entry-item.result _
    (first_rest rest c.entry-item.result c.entry-item.is c.in-len1-up.len_at_least) c.with-found.ensures c.in_entry.ensures c.loop-rest.invariant
