use Rattle.qw_map.proofs.ResultLemmas.{results_stay}
use Rattle.qw_map.proofs.result_laws.results_stay.Goals as goal

pub returns : goal.returns
returns c = results_stay
