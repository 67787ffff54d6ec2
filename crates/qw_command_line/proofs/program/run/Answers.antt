use Rattle.std.proofs.lemmas.Result.{IfOk-weaker}
use Rattle.qw_command_line.proofs.program.run.Goals as goal

pub returns : goal.returns
returns c = IfOk-weaker c.with_file_options.result _ _ (λ run more. more _ (c.in_ok-run.ensures _ c.in_ok-bare_run.ensures)) c.with_file_options.ensures
