use Rattle.std.proofs.Common.{rules, w32}
use Rattle.std.specs.Prelude.{FitsSigned}
use Rattle.std.proofs.lemmas.Int.{to_z-of_z}
use Rattle.qw_typer.proofs.ShownLemmas.{shown_is, unshown}
use Rattle.qw_typer.proofs.date.day_shown.Goals as goal

pub returns-in-Ok-clause-day : goal.returns-in-Ok-clause-day
returns-in-Ok-clause-day c =
    let range : FitsSigned w32 c.in-Ok.number = search rules in
    let day = rw (to_z-of_z w32 c.in-Ok.number range) at c.unpacked.ensures.day in
    shown_is c.args.text.now c.in-Ok.number c.unpacked.result c.if-text-ne10.false c.in-Ok.ensures day

pub returns-in-Err-clause-day : goal.returns-in-Err-clause-day
returns-in-Err-clause-day c = unshown c.args.text.now c.in-Err.ensures.1
