use Rattle.std.proofs.Common.{◌-◌, length, take, drop}
use Rattle.qw_typer.proofs.EntryLemmas.{named_kept}
use Rattle.qw_typer.proofs.StepLemmas.{first_rest}
use Rattle.qw_typer.proofs.entries.named.Goals as goal

pub loop-rest-preserved : goal.loop-rest-preserved
loop-rest-preserved c =
    let rest = c.loop-rest.rest.now in
    named_kept c.loop-rest.named.items c.push.new.self.items c.push_joined.new.named.items rest (take (length rest - 1) (drop 1 rest)) c.source-item.result _
    (first_rest rest c.source-item.result c.source-item.is c.in-len1-up.len_at_least) c.in_ok-push.ensures.items (rw c.as_slice.ensures.value at c.in_ok-push_joined.ensures) c.loop-rest.invariant
