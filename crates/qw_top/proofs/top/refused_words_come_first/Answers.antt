use Rattle.qw_command_line.specs.Words.{reading}
use Rattle.qw_top.proofs.CallLemmas.{words_first}
use Rattle.qw_top.proofs.top.refused_words_come_first.Goals as goal

pub returns : goal.returns
returns c files words kept status is why = words_first files (reading words) kept status is why
