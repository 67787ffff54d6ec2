use Rattle.std.proofs.Common.{◌-◌, refl, length, take, drop}
use Rattle.qw_typer.proofs.GroupingLemmas.{items_end, items_kept}
use Rattle.qw_typer.proofs.StepLemmas.{first_rest}
use Rattle.qw_typer.proofs.functions.of_items.Goals as goal

pub loop-rest-init : goal.loop-rest-init
loop-rest-init c = refl

pub loop-rest-preserved : goal.loop-rest-preserved
loop-rest-preserved c =
    let rest = c.loop-rest.rest.now in
    items_kept c.loop-rest.found.items _ rest (take (length rest - 1) (drop 1 rest)) c.item-item.result _ (first_rest rest c.item-item.result c.item-item.is c.in-len1-up.len_at_least) c.in_ok-of_expression.ensures c.loop-rest.invariant

pub returns : goal.returns
returns c = items_end c.loop-rest.found.items c.loop-rest.rest.now _ c.in_default.len_below c.loop-rest.invariant
