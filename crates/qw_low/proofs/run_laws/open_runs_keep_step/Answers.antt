use Rattle.qw_low.proofs.KeepStep.{course, keeps_step}
use Rattle.qw_low.proofs.run_laws.open_runs_keep_step.Goals as goal

pub returns : goal.returns
returns c = λ most fuel a s store imported. (
  course most fuel a s store imported,
  λ comes w memory locals stands are k b run. keeps_step most fuel a s store imported comes w memory locals stands are k b run,
)
