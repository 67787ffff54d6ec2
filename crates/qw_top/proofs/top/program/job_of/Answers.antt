use Rattle.qw_top.proofs.top.program.job_of.Goals as goal

pub new-requires : goal.new-requires
new-requires c = rw c.in-Ok.ensures.value c.in_ok-compiled.ensures.compiled.is_job
