use Rattle.qw_octet_grammar.proofs.numbers.+leb_at.Given as goal

abbrev pub decreases-leb_at : goal.decreases-leb_at
decreases-leb_at l = l.most
