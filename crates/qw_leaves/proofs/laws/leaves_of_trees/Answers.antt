use Rattle.std.proofs.Common.{IsTrue}
use Rattle.qw_leaves.proofs.LeafLemmas.{listed, unlisted}
use Rattle.qw_leaves.proofs.TreeLeaves.{has_leaves, have_leaves, leaves_have, leaves_within_have}
use Rattle.qw_leaves.proofs.laws.leaves_of_trees.Goals as goal

pub returns-clause-of_expression : goal.returns-clause-of_expression
returns-clause-of_expression c = λ holds e. has_leaves (λ l. IsTrue (holds l)) e

pub returns-clause-of_tree : goal.returns-clause-of_tree
returns-clause-of_tree c = λ holds e. leaves_have (λ l. IsTrue (holds l)) e

pub returns-clause-of_condition : goal.returns-clause-of_condition
returns-clause-of_condition c = λ holds d. have_leaves (λ l. IsTrue (holds l)) d

pub returns-clause-of_condition_tree : goal.returns-clause-of_condition_tree
returns-clause-of_condition_tree c = λ holds d. leaves_within_have (λ l. IsTrue (holds l)) d

pub returns-clause-of_list : goal.returns-clause-of_list
returns-clause-of_list c = λ holds e. unlisted (λ l. IsTrue (holds l)) e

pub returns-clause-listed : goal.returns-clause-listed
returns-clause-listed c = λ holds e. listed (λ l. IsTrue (holds l)) e
