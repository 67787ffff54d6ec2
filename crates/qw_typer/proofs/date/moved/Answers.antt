use Rattle.std.proofs.Common.{ap, ◌∙◌, ◌+ℤ◌, FitsSigned, w64}
use Rattle.std.proofs.lemmas.Int.{to_z-of_z}
use Rattle.jiff_core.specs.Date.{epoch_day}
use Rattle.jiff.proofs.SpanFacts.{can_add-days, date_add-days}
use Rattle.qw_typer.proofs.MovedLemmas.{few, moved_day, no_date, too_many}
use Rattle.qw_typer.proofs.date.moved.Goals as goal

pub returns-then-count-gt-MANY_DAYS-clause-day : goal.returns-then-count-gt-MANY_DAYS-clause-day
returns-then-count-gt-MANY_DAYS-clause-day c = too_many c.args.sign c.args.count c.args.day c.requires c.if-count-gt-MANY_DAYS.true

pub returns-in-Ok-clause-day : goal.returns-in-Ok-clause-day
returns-in-Ok-clause-day c =
    let fits : FitsSigned w64 c.signed_days-days.result = rw c.signed_days-days.ensures (few c.args.sign c.args.count c.if-count-gt-MANY_DAYS.false) in
    let only = simp to_z-of_z at c.days.ensures in
    let days = date_add-days c.args.day c.signed_days-days.result c.days.result only in
    moved_day c.args.sign c.args.count c.args.day c.in-Ok.moved c.of_our_years.result c.requires
    (c.in-Ok.ensures.value ∙ days ∙ ap (λ z. epoch_day c.args.day +ℤ z) c.signed_days-days.ensures) c.of_our_years.ensures.date

pub returns-in-Err-clause-day : goal.returns-in-Err-clause-day
returns-in-Err-clause-day c =
    let fits : FitsSigned w64 c.signed_days-days.result = rw c.signed_days-days.ensures (few c.args.sign c.args.count c.if-count-gt-MANY_DAYS.false) in
    let only = simp to_z-of_z at c.days.ensures in
    let can = can_add-days c.args.day c.signed_days-days.result c.days.result only in
    no_date c.args.sign c.args.count c.args.day c.requires
    (λ inside. let no = rw c.in-Err.is at (c.checked_add.ensures.succeeds.1 (can.1 (rw (← c.signed_days-days.ensures) at inside))) in absurd cc)
