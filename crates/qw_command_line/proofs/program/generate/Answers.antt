use Rattle.std.proofs.lemmas.Result.{IfOk-weaker}
use Rattle.qw_command_line.proofs.program.generate.Goals as goal

pub returns : goal.returns
returns c = IfOk-weaker c.with_run_options.result _ _ (λ generate more. more _ c.in_ok-bare_generate.ensures) c.with_run_options.ensures
