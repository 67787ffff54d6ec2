use Rattle.qw_promise.proofs.compiled_laws.compiled_behaves.Goals as goal

pub returns : goal.returns
returns c = λ promise layout m is. is.is_job
