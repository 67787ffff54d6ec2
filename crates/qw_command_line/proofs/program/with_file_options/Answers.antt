use Rattle.std.proofs.lemmas.Result.{IfOk-weaker}
use Rattle.clap.specs.Simple.{with_rule}
use Rattle.qw_command_line.specs.Words.{name_of, option}
use Rattle.qw_command_line.specs.Inner.Programs.{IsApp}
use Rattle.qw_command_line.specs.declared.command.Number.TheVariants.{Null}
use Rattle.qw_command_line.proofs.program.with_file_options.Goals as goal

pub returns : goal.returns
returns c = IfOk-weaker c.with_option-2.result _ _ (λ more last app old.
    let null : IsApp _ (with_rule app (option (name_of Null))) = rw c.name.ensures at c.in_ok-command.ensures _ old in
    rw c.name-2.ensures at last _ null) c.with_option-2.ensures
