use Rattle.qw_promise.proofs.EmptyModules.{no_query}
use Rattle.qw_promise.proofs.compiled_laws.empty_modules.Goals as goal

pub returns : goal.returns
returns c = no_query
