use Rattle.qw_parse.proofs.read.rank.+nested.Given as goal

abbrev pub decreases-nested : goal.decreases-nested
decreases-nested l = l.levels
