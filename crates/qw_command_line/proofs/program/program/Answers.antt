use Rattle.std.proofs.Common.{◌∙◌, ap, rules}
use Rattle.std.proofs.lemmas.Result.{IfOk-weaker}
use Rattle.clap.specs.Simple.{app_of_fields}
use Rattle.qw_command_line.specs.Words.{bare_app}
use Rattle.qw_command_line.specs.Inner.Programs.{IsApp}
use Rattle.qw_command_line.proofs.ProgramLemmas.{subcommand_added}
use Rattle.qw_command_line.proofs.program.program.Goals as goal

pub returns : goal.returns
returns c =
    let nameless : IsApp c.subcommand_required.result bare_app = record { is = search rules; local = search rules } in
    let bare : IsApp c.in_ok-program.program bare_app = record {
      is = (ap app_of_fields c.in_ok-program.ensures.0) ∙ nameless.is;
      local = search (rules, c.in_ok-program.ensures.0, nameless.local);
    } in
    let first = subcommand_added _ _ _ _ _ bare c.in_ok-run.ensures c.in_ok-program-2.ensures in
    let second = subcommand_added _ _ _ _ _ first c.in_ok-compile.ensures c.in_ok-program-3.ensures in
    let third = subcommand_added _ _ _ _ _ second c.in_ok-check.ensures c.in_ok-program-4.ensures in
    IfOk-weaker c.subcommand-4.result _ _ (λ program adds. subcommand_added _ _ _ _ _ third c.in_ok-generate.ensures adds) c.subcommand-4.ensures
