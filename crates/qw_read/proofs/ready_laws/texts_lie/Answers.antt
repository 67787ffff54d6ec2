use Rattle.qw_read.proofs.TextPlaces.{ready_lies, ready_texts}
use Rattle.qw_read.proofs.ready_laws.texts_lie.Goals as goal

pub returns-clause-one : goal.returns-clause-one
returns-clause-one c = λ layout placed tables descriptor limit memory locals ready small. ready_lies layout placed tables descriptor limit memory locals ready small

pub returns-clause-all : goal.returns-clause-all
returns-clause-all c = λ layout placed tables descriptor limit memory locals ready small. ready_texts layout placed tables descriptor limit memory locals ready small
