use Rattle.std.proofs.lemmas.Result.{IfOk-weaker}
use Rattle.clap.specs.Simple.{with_rule}
use Rattle.qw_command_line.specs.Words.{name_of, option}
use Rattle.qw_command_line.specs.Inner.Programs.{IsApp}
use Rattle.qw_command_line.specs.declared.command.Number.TheVariants.{Quantum, Pages, Steps}
use Rattle.qw_command_line.proofs.program.with_run_options.Goals as goal

pub returns : goal.returns
returns c = IfOk-weaker c.with_stats.result _ _ (λ more last app old.
    let quantum : IsApp _ (with_rule app (option (name_of Quantum))) = rw c.name.ensures at c.in_ok-command.ensures _ old in
    let pages : IsApp _ (with_rule (with_rule app (option (name_of Quantum))) (option (name_of Pages))) = rw c.name-2.ensures at c.in_ok-command-2.ensures _ quantum in
    let steps : IsApp _ (with_rule (with_rule (with_rule app (option (name_of Quantum))) (option (name_of Pages))) (option (name_of Steps))) = rw c.name-3.ensures at c.in_ok-command-3.ensures _ pages in
    last _ steps) c.with_stats.ensures
