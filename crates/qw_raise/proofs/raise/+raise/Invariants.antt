use Rattle.qw_raise.proofs.raise.+raise.Given as goal

abbrev pub decreases-arguments : goal.decreases-arguments
decreases-arguments l = goal.size-arguments l

abbrev pub decreases-branches : goal.decreases-branches
decreases-branches l = goal.size-branches l

abbrev pub decreases-condition_can_raise : goal.decreases-condition_can_raise
decreases-condition_can_raise l = goal.size-condition_can_raise l

abbrev pub decreases-expression : goal.decreases-expression
decreases-expression l = goal.size-expression l

abbrev pub decreases-matches : goal.decreases-matches
decreases-matches l = goal.size-matches l

abbrev pub decreases-values : goal.decreases-values
decreases-values l = goal.size-values l
