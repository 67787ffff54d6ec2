use Rattle.std.proofs.Common.{codes, rules}
use Rattle.std.proofs.lemmas.Result.{IfOk-weaker}
use Rattle.clap.specs.Simple.{new_app, with_rule}
use Rattle.qw_command_line.specs.Words.{name_of, place}
use Rattle.qw_command_line.specs.Inner.Programs.{IsApp}
use Rattle.qw_command_line.specs.declared.command.Number.TheVariants.{Seed}
use Rattle.qw_command_line.proofs.program.bare_generate.Goals as goal

pub returns : goal.returns
returns c =
    let bare : IsApp _ (new_app (codes "gen")) = record { is = search rules; local = search rules } in
    let seed : IsApp _ (with_rule (new_app (codes "gen")) (place (name_of Seed))) = rw c.name.ensures at c.in_ok-generate.ensures _ bare in
    IfOk-weaker c.with_place-2.result _ _ (λ generate last. rw c.name-2.ensures at last _ seed) c.with_place-2.ensures
