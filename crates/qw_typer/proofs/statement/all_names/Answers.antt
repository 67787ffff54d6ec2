use Rattle.std.proofs.Common.{◌-◌, length, take, drop}
use Rattle.qw_typer.proofs.StepLemmas.{entry_names, first_rest}
use Rattle.qw_typer.proofs.statement.all_names.Goals as goal

pub loop-rest-preserved : goal.loop-rest-preserved
loop-rest-preserved c =
    let rest = c.loop-rest.rest.now in
    entry_names c.loop-rest.names.items c.push_names.new.names.items rest (take (length rest - 1) (drop 1 rest)) c.entry-item.result _
    (first_rest rest c.entry-item.result c.entry-item.is c.in-len1-up.len_at_least) c.in_ok-push_names.ensures c.loop-rest.invariant
